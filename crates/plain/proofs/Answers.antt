-- What is answered where the plain form is asked for, and what the area then holds.
use mathlib.Core.Path.{◌≡◌, refl, sym, ap, ◌∙◌}
use mathlib.Core.Bool.{false}
use mathlib.Core.List.{List, ◌++◌}
use Prim.Native.Nat.{ℕ, ◌+◌, ◌≤◌, ◌<◌}
use native.Mathlib.Omega.{arith}
use borrow.Author.Tests.{lt-ltb, le-ltb, ltb-true, ltb-false}
use lib.Dec.{ltb}
use lib.ListN.{length, drop, length-append}
use Rattle.tags.specs.Tags.{declaration}
use Rattle.profile.specs.Limits.{most_bytes}
use Rattle.reading.specs.Verdict as judge
use Rattle.reading.specs.Judged.{judged}
use Rattle.std.proofs.Common.{Ok, Err}
use Rattle.answers.specs.declared.Refused.{Refused}
use Rattle.answers.specs.Refusals.{refusal_number}
use Rattle.judge.specs.declared.Accepted.{Accepted}
use Rattle.twice.specs.Twice.{least_index}
use Rattle.judge.specs.Verdict.{meant}
use Rattle.judge.specs.Index.{judged_with}
use Rattle.judge.proofs.Index.{Indexed, short, roomy, indexed, in_short, in_room, accepted_room}
use Rattle.plain.specs.Answer.{answered}
use Rattle.plain.specs.Indexed.{WroteWith, too_short, with_room}
use Rattle.forms.specs.Plain.{PlainForm}
use Rattle.forms.specs.Written.{written, refused, Outcome, unchanged, placed, Wrote, as_judged, in_form}
use Rattle.forms.proofs.Forms.{form_of, form_short}
use Rattle.plain.specs.Engine.{pieces, body_of}
use Rattle.plain.proofs.Documents.{message_pieces}

same_refusal : (n p : ℕ) (a : List ℕ) → judge.refused n p ≡ judge.refused 25 0 → record { answer = refused n p; area = a } ≡ unchanged 25 0 a
same_refusal n p a d =
    let i : n ≡ 25 = cc in
    let j : p ≡ 0 = cc in
    rw (i, j)

module _ (m area : List ℕ) (a : Accepted) (e : meant (Ok a) ≡ judged m) (s : List ℕ) (is-s : s ≡ body_of m) where
  abbrev form : List ℕ
  form = (form_of m a.count a.cents (sym e)).0

  plain_form : PlainForm m form
  plain_form = (form_of m a.count a.cents (sym e)).1

  form-is : declaration ++ pieces s ≡ form
  form-is =
      let a = plain_form.accepted in
      ap (λ (b : List ℕ). declaration ++ pieces b) (is-s ∙ ap body_of a.is) ∙ message_pieces a.message a.lawful ∙ sym plain_form.is

  form_long : length form ≡ 38 + length (pieces s)
  form_long = sym (ap length form-is) ∙ length-append declaration (pieces s)

  pub not_over : length (pieces s) ≤ most_bytes
  not_over = omega (arith, form_long, form_short m form plain_form)

  within : length form ≤ most_bytes
  within = form_short m form plain_form

  module _ (k : ℕ) (is-k : k ≡ length (pieces s)) where
    pub no_room : length area < 38 + k → Wrote m area (record { answer = refused 17 0; area = area })
    no_room h =
        let g : length area < length form = omega (arith, form_long, is-k) in
        in_form form plain_form (rw (le-ltb most_bytes (length form) within, lt-ltb (length area) (length form) g))

    pub has_room : 38 + k ≤ length area → (a : List ℕ) → a ≡ (declaration ++ pieces s) ++ drop (length (declaration ++ pieces s)) area
        → Wrote m area (record { answer = written (38 + k); area = a })
    has_room h a g =
        let i : length form ≤ length area = omega (arith, form_long, is-k) in
        let j : 38 + k ≡ length form = omega (arith, form_long, is-k) in
        let z : placed form area ≡ record { answer = written (length form); area = form ++ drop (length form) area } =
        rw (le-ltb most_bytes (length form) within, le-ltb (length area) (length form) i) in
        let y : a ≡ form ++ drop (length form) area = g ∙ ap (λ (f : List ℕ). f ++ drop (length f) area) form-is in
        in_form form plain_form
        (ap (λ (l : ℕ). record { answer = written l; area = a }) j ∙ ap (λ (b : List ℕ). record { answer = written (length form); area = b }) y ∙ sym z)

-- ---- with an index
module _ (index m area : List ℕ) where
  pub refused_with : (r : Refused) → meant (Err r) ≡ judged_with index m → WroteWith index m area (record { answer = answered (Err r); area = area })
  refused_with r e = go (indexed index)
    where
      go : Indexed index → WroteWith index m area (record { answer = answered (Err r); area = area })
      go (short h) =
          let d : judge.refused (refusal_number r.why) r.at ≡ judge.refused 25 0 = e ∙ in_short index (judge.refused 25 0) (judged m) h in
          too_short (ltb-true (length index) least_index h) (same_refusal (refusal_number r.why) r.at area d)
      go (roomy h) = with_room (ltb-false (length index) least_index h) (as_judged (refusal_number r.why) r.at (sym (e ∙ in_room index (judge.refused 25 0) (judged m) h)) refl)

  module _ (a : Accepted) (e : meant (Ok a) ≡ judged_with index m) where
    room : ltb (length index) least_index ≡ false
    room = accepted_room index a (judged m) e

    pub judged_with_lem : meant (Ok a) ≡ judged m
    judged_with_lem = e ∙ in_room index (judge.refused 25 0) (judged m) room

    pub wrote_with : (o : Outcome) → Wrote m area o → WroteWith index m area o
    wrote_with o w = with_room (ltb-false (length index) least_index room) w
