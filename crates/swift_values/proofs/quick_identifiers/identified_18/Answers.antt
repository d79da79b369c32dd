-- `swift_values::quick_identifiers::identified_18` meets its contract.
use Rattle.std.proofs.Common.{rules, ◌+◌}
use native.Mathlib.Omega.{arith}
use Rattle.text.specs.Classes.{digit}
use Rattle.swift_values.specs.Blocks.{All}
use Rattle.swift_values.proofs.Identifiers.{digits_set, digits_first}
use Rattle.swift_values.proofs.quick_identifiers.identified_18.Goals as goal

pub returns-then-ranged : goal.returns-then-ranged
returns-then-ranged c =
    λ e.
    let ds : All digit c.args.m.now (c.args.at + 7) 11 = search rules in
    record {
      head = search rules;
      business = search rules;
      set = digits_set _ _ 11 ds;
      first = digits_first _ _ 11 ds (omega arith);
      range = search rules;
      leaves = c.leaves_18.ensures e;
    }
