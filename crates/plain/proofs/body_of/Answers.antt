-- `plain::body_of` meets its contract.
use native.Mathlib.Omega.{arith}
use mathlib.Core.Path.{◌∙◌}
use Rattle.text.proofs.Scan.{rest_of, lead_le}
use Rattle.tags.specs.Values.{in_value}
use Rattle.plain.proofs.Scans.{body_is}
use Rattle.plain.proofs.body_of.Goals as goal

pub slice_bounds-result-count : goal.slice_bounds-result-count
slice_bounds-result-count c = omega (arith, c.upto.ensures, lead_le in_value)

pub slice_bounds-result-start : goal.slice_bounds-result-start
slice_bounds-result-start c = omega (arith, c.upto.ensures, lead_le in_value)

pub returns : goal.returns
returns c =
    let m = c.args.m.now in
    rest_of c.upto.result _ ∙ body_is m _ c.upto.result (rest_of c.min.result m ∙ rw (c.min.ensures, c.declared.ensures)) c.upto.ensures
