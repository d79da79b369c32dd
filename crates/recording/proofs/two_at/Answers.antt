-- `recording::two_at` meets its contract.
use native.Mathlib.Omega.{arith}
use mathlib.Core.Path.{◌∙◌, sym, ap}
use Prim.Native.Nat.{◌+◌}
use Rattle.text.specs.Quoted.{decimal}
use Rattle.text.proofs.Scan.{two_at}
use Rattle.recording.proofs.two_at.Goals as goal

pub returns : goal.returns
unfolding decimal
returns c =
    let k = c.type_inv.s in
    let a = c.args in
    let e = c.pair.ensures in
    record { value = c.from.ensures ∙ e ∙ ap decimal (sym (two_at a.s.now a.i c.requires)); upper_bound = omega (arith, c.from.ensures, e, k a.i, k (a.i + 1)) }
