-- `swift_values::quick_ibans::german` meets its contract.
use Rattle.std.proofs.Common.{rules, ◌≡◌, ◌+◌, get_or}
use Rattle.text.specs.Classes.{digit}
use Rattle.swift_values.specs.Blocks.{All}
use Rattle.swift_values.proofs.Weights.{german_head, german_caps}
use Rattle.swift_values.proofs.quick_ibans.german.Goals as goal

pub returns-then-ranged : goal.returns-then-ranged
returns-then-ranged c =
    λ e.
    let m = c.args.m.now in
    let p = c.args.at in
    let first : get_or m p 0 ≡ 68 = search rules in
    let second : get_or m (p + 1) 0 ≡ 69 = search rules in
    let all : All digit m (p + 2) 20 = search rules in (
      record {
        head = german_head m p c.requires all first second;
        caps = german_caps m p c.requires all first second;
        range = search rules;
        leaves = c.leaves_german.ensures e;
      },
      first,
      second,
    )
