-- `straight::quick::same_tag` meets its contract.
use Rattle.std.proofs.Common.{arith}
use Rattle.swift_values.proofs.Lanes.{unlike}
use Rattle.straight.proofs.quick.same_tag.Goals as goal

pub returns-then-n-lt4 : goal.returns-then-n-lt4
returns-then-n-lt4 c = λ e. unlike e

pub returns : goal.returns
returns c = λ e. (omega arith, c.same.ensures e)
