-- `swift_values::quick_bics::bic_head` meets its contract.
use Rattle.std.proofs.Common.{rules}
use Rattle.swift_values.specs.Bics.{in_bic}
use Rattle.swift_values.proofs.Blocks.{all_at_of}
use Rattle.swift_values.proofs.quick_bics.bic_head.Goals as goal

pub returns : goal.returns
returns c = λ e. all_at_of _ _ _ (in_bic c.args.wider) (λ j b x. search rules) _ (c.eight.ensures e)
