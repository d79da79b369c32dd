-- `swift_values::quick_references::ref_pair` meets its contract.
use mathlib.Core.Path.{ap}
use mathlib.Core.Bool.{◌&&◌, ◌||◌, not}
use lib.Dec.{eqb}
use Rattle.swift_values.proofs.quick_references.ref_pair.Goals as goal

pub returns : goal.returns
returns c = ap (λ x. x && not (eqb c.args.b 47 && (eqb c.args.c 47 || eqb c.args.c 60))) c.in_ref.ensures
