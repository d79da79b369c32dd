-- `swift_values::quick_identifiers::identified` meets its contract.
use Rattle.std.proofs.Common.{rules}
use native.Mathlib.Omega.{arith}
use mathlib.Core.Path.{sym, ◌∙◌}
use Rattle.swift_values.proofs.Ibans.{one_left}
use Rattle.swift_values.proofs.quick_identifiers.identified.Goals as goal

pub returns-then-ranged : goal.returns-then-ranged
returns-then-ranged c =
    λ e.
    let a = c.args in
    record {
      head = search rules;
      business = search rules;
      set = c.requires.2;
      first = search rules;
      range = search rules;
      leaves = one_left a.m.now a.at _ _ _ _ (omega arith) (omega arith) (sym c.leaves_one.ensures ∙ e);
    }
