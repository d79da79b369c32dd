-- Two outcomes that are allowed for one message and one area are equal.
use mathlib.Core.Path.{◌≡◌, refl, sym, ap, ◌∙◌}
use mathlib.Core.List.{List}
use Prim.Native.Nat.{ℕ}
use native.Mathlib.Omega.{arith}
use Rattle.text.proofs.Truths.{never}
use Rattle.reading.specs.Verdict as judge
use Rattle.reading.specs.Judged.{judged}
use Rattle.forms.specs.Plain.{PlainForm}
use Rattle.forms.specs.Written.{Outcome, unchanged, placed, Wrote, as_judged, in_form}
use Rattle.forms.proofs.Forms.{form_accepted, one_form}

module _ (m a : List ℕ) where
  not-both : {A : Type 0} (f : List ℕ) → PlainForm m f → (n p : ℕ) → judged m ≡ judge.refused n p → A
  not-both f k n p e =
      let z : judge.accepted k.count k.cents ≡ judge.refused n p = sym (form_accepted m f k).0 ∙ e in
      never (cc)

  pub one_written : (o q : Outcome) → Wrote m a o → Wrote m a q → o ≡ q
  one_written o q (as_judged n p e g) (as_judged i j d h) =
      let z : judge.refused n p ≡ judge.refused i j = sym e ∙ d in
      let x : n ≡ i = cc in
      let y : p ≡ j = cc in
      g ∙ rw (x, y) (sym h)
  one_written o q (as_judged n p e g) (in_form f k h) = not-both f k n p e
  one_written o q (in_form f k h) (as_judged n p e g) = not-both f k n p e
  one_written o q (in_form f k g) (in_form b l h) = g ∙ ap (λ (x : List ℕ). placed x a) (one_form m f b k l) ∙ sym h
