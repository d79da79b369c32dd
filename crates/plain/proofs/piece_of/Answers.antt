-- `plain::piece_of` meets its contract.
use native.Mathlib.Omega.{arith}
use mathlib.Core.Path.{◌≡◌, ◌∙◌}
use Rattle.text.proofs.Scan.{lead_le}
use Rattle.tags.specs.Values.{in_value}
use Rattle.plain.specs.Engine.{behind_tag, up_to_tag, next_of}
use Rattle.plain.proofs.Scans.{tag_fits, tag_text, tag_behind}
use Rattle.plain.proofs.piece_of.Goals as goal

pub split_at-requires : goal.split_at-requires
split_at-requires c = tag_fits c.args.s.now c.tag_length.result c.tag_length.ensures

pub split_at-requires-2 : goal.split_at-requires-2
split_at-requires-2 c = omega (arith, c.upto.ensures, lead_le in_value c.split_at.result.1.now)

pub returns : goal.returns
returns c =
    let s = c.args.s.now in
    let tag = c.split_at.ensures.front ∙ tag_text s c.tag_length.result c.tag_length.ensures in
    let behind = c.split_at.ensures.back ∙ tag_behind s c.tag_length.result c.tag_length.ensures in
    let value : c.split_at-2.result.0.now ≡ up_to_tag (behind_tag s) = c.split_at-2.ensures.front ∙ rw (c.upto.ensures, behind) in
    let next : c.split_at-2.result.1.now ≡ next_of s = c.split_at-2.ensures.back ∙ rw (c.upto.ensures, behind) in
    record { text = rw (c.spelling_by.ensures, tag, value, next); next = next }
