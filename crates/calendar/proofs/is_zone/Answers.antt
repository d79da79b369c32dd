-- `calendar::is_zone` meets its contract.
use Rattle.std.proofs.Common.{◌≡◌, ◌∙◌, sym, ap}
use Rattle.text.specs.Truth.{either}
use Rattle.text.specs.Quoted.{is}
use lib.Dec.{eqb}
use lib.Pointwise.{pointwise}
use Rattle.text.specs.Quoted.{bytes}
use Rattle.text.proofs.Chains.{alike_pointwise}
use Rattle.calendar.proofs.Times.{no_bytes, zone_yes, zone_no, one_or_other}
use Rattle.calendar.proofs.is_zone.Goals as goal
use Rattle.calendar.proofs.is_zone.Goals.{then-is_empty, else-is_empty}

pub returns-then-eq : goal.returns-then-eq
returns-then-eq c =
    let s = c.args.s.now in
    let e = c.is_empty.ensures ∙ no_bytes s in
    let two : c.if-is_empty.value ≡ either (is "" s) (is "Z" s) =
    elim c.if-is_empty.branch [
      | then-is_empty w ↦ one_or_other _ e w.if-is_empty.true w.value-is
      | else-is_empty w ↦ w.value-is ∙ w.eq.ensures ∙ ap (λ l. pointwise eqb l s) w.as_slice.ensures ∙ alike_pointwise (bytes "Z") s ∙ sym (ap (λ b. either b (is "Z" s)) (sym e ∙ w.if-is_empty.false))
    ] in
    zone_yes s two c.if-eq.true

pub returns-else-eq : goal.returns-else-eq
returns-else-eq c =
    let s = c.args.s.now in
    let e = c.is_empty.ensures ∙ no_bytes s in
    let two : c.if-is_empty.value ≡ either (is "" s) (is "Z" s) =
    elim c.if-is_empty.branch [
      | then-is_empty w ↦ one_or_other _ e w.if-is_empty.true w.value-is
      | else-is_empty w ↦ w.value-is ∙ w.eq.ensures ∙ ap (λ l. pointwise eqb l s) w.as_slice.ensures ∙ alike_pointwise (bytes "Z") s ∙ sym (ap (λ b. either b (is "Z" s)) (sym e ∙ w.if-is_empty.false))
    ] in
    c.is_offset.ensures ∙ zone_no s two c.if-eq.false
