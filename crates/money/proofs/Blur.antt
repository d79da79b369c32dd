-- The forms ask where digits stand, and not which: a text with every digit blurred to a zero is of the form where the text is.
use mathlib.Core.Path.{◌≡◌, refl, ap, sym, ◌∙◌}
use mathlib.Core.Bool.{Bool, true, false}
use mathlib.Core.List.{List, [], ◌∷◌}
use Prim.Native.Nat.{ℕ}
use native.Mathlib.Omega.{arith}
use borrow.Author.Tests.{ne_eqb}
use lib.ListN.{length, drop}
use lib.Dec.{eqb}
use Rattle.text.specs.Truth.{pick, lead}
use Rattle.text.specs.Quoted.{byte, is}
use Rattle.text.specs.Classes.{digit}
use Rattle.text.proofs.Digits.{digit_bounds}
use Rattle.text.proofs.Blur.{blur, blurred, digit_blind, blurred_take, blurred_drop, every_blurred, lead_blurred, blurred_length}
use Rattle.money.specs.Count.{count_form}
use Rattle.money.specs.Amount.{euros, behind_euros, point_form, amount_form}

point_blur : (c : ℕ) → eqb (blur c) (byte ".") ≡ eqb c (byte ".")
point_blur c = go (digit c) refl
  where
    go : (b : Bool) → digit c ≡ b → eqb (pick b (byte "0") c) (byte ".") ≡ eqb c (byte ".")
    go true e = sym (ne_eqb c (byte ".") (omega (arith, digit_bounds c e)))
    go false e = refl

-- ---- the parts of a blurred text
behind_blurred : (s : List ℕ) → behind_euros (blurred s) ≡ blurred (behind_euros s)
behind_blurred s = rw (lead_blurred digit digit_blind s) (blurred_drop (lead digit s) s)

whole_blurred : (s : List ℕ) → euros (blurred s) ≡ blurred (euros s)
whole_blurred s = rw (lead_blurred digit digit_blind s) (blurred_take (lead digit s) s)

-- how many digits stand behind the point
abbrev pub places : List ℕ → ℕ
places s = length (drop 1 (behind_euros s))

places_blurred : (s : List ℕ) → places (blurred s) ≡ places s
places_blurred s = rw (behind_blurred s, blurred_drop 1 (behind_euros s)) (blurred_length (drop 1 (behind_euros s)))

-- ---- the forms
none_blurred : (s : List ℕ) → is "" (blurred s) ≡ is "" s
none_blurred [] = refl
none_blurred (c ∷ s) = refl

point_form_blurred : (s : List ℕ) → point_form (blurred s) ≡ point_form s
unfolding point_form
point_form_blurred [] = refl
point_form_blurred (c ∷ s) = rw (point_blur c, blurred_length s, every_blurred digit digit_blind s)

amount_form_blurred : (s : List ℕ) → amount_form (blurred s) ≡ amount_form s
unfolding amount_form
amount_form_blurred s =
    rw (whole_blurred s, blurred_length (euros s), behind_blurred s, none_blurred (behind_euros s), point_form_blurred (behind_euros s))

count_form_blurred : (s : List ℕ) → count_form (blurred s) ≡ count_form s
unfolding count_form
count_form_blurred s = rw (blurred_length s, every_blurred digit digit_blind s)

-- ---- two texts that are one when blurred
module _ (s t : List ℕ) (e : blurred s ≡ blurred t) where
  pub same_count_form : count_form s ≡ count_form t
  same_count_form = sym (count_form_blurred s) ∙ ap count_form e ∙ count_form_blurred t

  pub same_amount_form : amount_form s ≡ amount_form t
  same_amount_form = sym (amount_form_blurred s) ∙ ap amount_form e ∙ amount_form_blurred t

  pub same_places : places s ≡ places t
  same_places = sym (places_blurred s) ∙ ap places e ∙ places_blurred t
