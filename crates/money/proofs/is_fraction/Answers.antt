-- `money::is_fraction` meets its contract.
use native.Mathlib.Omega.{arith}
use mathlib.Core.Path.{◌∙◌}
use Prim.Native.Nat.{◌-◌}
use lib.ListN.{length, take, drop}
use Rattle.text.specs.Classes.{in_class}
use Rattle.text.proofs.Chains.{range_between}
use Rattle.money.proofs.Fractions.{no_point, point_then, point_else}
use Rattle.money.proofs.is_fraction.Goals as goal

pub returns-then-contains : goal.returns-then-contains
unfolding in_class
returns-then-contains c =
    let s = c.args.s.now in
    let r = c.new.ensures in
    let v = c.contains.ensures.value ∙ range_between _ _ _ (length (take (length s - 1) (drop 1 s))) r.start r.end r.exhausted in
    point_then s (omega arith) (omega arith) v c.if-contains.true _ c.all_in.ensures

pub returns-else-contains : goal.returns-else-contains
returns-else-contains c =
    let s = c.args.s.now in
    let r = c.new.ensures in
    let v = c.contains.ensures.value ∙ range_between _ _ _ (length (take (length s - 1) (drop 1 s))) r.start r.end r.exhausted in
    point_else s (omega arith) (omega arith) v c.if-contains.false

pub returns-in_default : goal.returns-in_default
returns-in_default c = no_point c.args.s.now (omega arith) (omega arith)
