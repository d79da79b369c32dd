-- A time's parts of a wrong length; the three ways that a zone is written; a fraction, which no zone begins with.
use mathlib.Core.Path.{◌≡◌, refl, ap, sym, ◌∙◌}
use mathlib.Core.Bool.{Bool, true, false}
use mathlib.Core.List.{List, [], ◌∷◌}
use mathlib.Core.Logic.{inl, inr}
use Prim.Native.Nat.{ℕ, ◌<◌}
use native.Mathlib.Omega.{arith}
use lib.ListN.{length, take, drop, length-take, length-drop}
use lib.Seq.{get_or-take}
use Rattle.std.specs.Prelude.{◌==◌}
use borrow.Author.Tests.{le-leb, eq-eqb, ne_eqb}
use lib.Dec.{eqb, leb}
use Rattle.text.specs.Truth.{both, either, all_of, first}
use Rattle.text.specs.Quoted.{is, among, equal}
use Rattle.text.proofs.Truths.{never, lt_or_ge, fails, either_none}
use Rattle.text.proofs.Scan.{paired_length}
use Rattle.calendar.specs.Pattern.{letter, written}
use Rattle.calendar.specs.Time.{clock_form, offset_form, zone_form, end_form, time_form}
use Rattle.calendar.proofs.Written.{unwritten, written_itself}

pub offset_length : (s : List ℕ) → (length s ≡ 6 → ⊥) → false ≡ offset_form s
unfolding offset_form
offset_length s ne = sym (fails _ 1 (unwritten "hh:mm" (drop 1 s) (λ e. ne (omega (arith, e, length-drop 1 s)))))

clock_length : (s : List ℕ) → (length s ≡ 8 → ⊥) → clock_form s ≡ false
unfolding clock_form
clock_length s ne = fails _ 0 (unwritten "hh:mm:ss" s (λ e. ne (sym e)))

time_short : (s : List ℕ) → length s < 19 → false ≡ time_form s
unfolding time_form
time_short s h =
    sym (fails _ 2 (clock_length (take 8 (drop 11 s)) (λ e. omega (arith, e, length-take 8 (drop 11 s), length-drop 11 s))))

-- ---- a test in front, without which another fails
led : (b : Bool) (l : List Bool) → (b ≡ false → false ≡ all_of l) → all_of (b ∷ l) ≡ all_of l
unfolding all_of
led true l h = refl
led false l h = h refl

pub offset_led : (s : List ℕ) (l : List Bool) → offset_form s ≡ all_of l → all_of (eqb (length s) 6 ∷ l) ≡ offset_form s
offset_led s l e = led (eqb (length s) 6) l (λ f. offset_length s (λ q. let t = eq-eqb (length s) 6 q in cc) ∙ e) ∙ sym e

pub time_led : (s : List ℕ) (l : List Bool) → time_form s ≡ all_of l → all_of (leb 19 (length s) ∷ l) ≡ time_form s
time_led s l e = led (leb 19 (length s)) l (λ f. elim (lt_or_ge (length s) 19) [ inl h ↦ time_short s h ∙ e | inr g ↦ never (let t = le-leb 19 (length s) g in cc) ]) ∙ sym e

-- ---- a zone
pub no_bytes : (s : List ℕ) → (length s == 0) ≡ is "" s
no_bytes [] = refl
no_bytes (c ∷ s) = ne_eqb (length (c ∷ s)) 0 (omega arith)

pub one_or_other : {v r a : Bool} (b : Bool) → r ≡ a → r ≡ true → v ≡ r → v ≡ either a b
one_or_other b e t h = h ∙ t ∙ sym (ap (λ (x : Bool). either x b) (sym e ∙ t))

yes_too : (a b d : Bool) → either a b ≡ true → either a (either b d) ≡ true
yes_too true b d e = refl
yes_too false b d e = rw e

no_more : (a b d : Bool) → either a b ≡ false → d ≡ either a (either b d)
no_more true b d e = cc
no_more false b d e = rw e

module _ (s : List ℕ) {v : Bool} (e : v ≡ either (is "" s) (is "Z" s)) where
  pub zone_yes : v ≡ true → v ≡ zone_form s
  unfolding zone_form
  zone_yes t = t ∙ sym (yes_too (is "" s) (is "Z" s) (offset_form s) (sym e ∙ t))

  pub zone_no : v ≡ false → offset_form s ≡ zone_form s
  unfolding zone_form
  zone_no t = no_more (is "" s) (is "Z" s) (offset_form s) (sym e ∙ t)

pub zone_offset : (s : List ℕ) → (length s ≡ 0 → ⊥) → is "Z" s ≡ false → offset_form s ≡ zone_form s
unfolding zone_form
zone_offset s ne e = no_more (is "" s) (is "Z" s) (offset_form s) (rw (paired_length equal [] s (λ z. ne (sym z)), e))

-- ---- a fraction
no_dot : (s : List ℕ) → first s ≡ 46 → zone_form s ≡ false
unfolding zone_form offset_form all_of among
no_dot [] e = never (omega arith)
no_dot (c ∷ s) e = rw e

plain : (a b d : Bool) → b ≡ false → a ≡ either a (both b d)
plain a b d e = rw e (sym (either_none a))

after : (a b d : Bool) → a ≡ false → b ≡ true → d ≡ either a (both b d)
after a b d e f = rw (e, f)

module _ (s : List ℕ) where
  pub end_plain : written ".fff" (take 4 s) ≡ false → zone_form s ≡ end_form s
  unfolding end_form
  end_plain e = plain (zone_form s) (written ".fff" (take 4 s)) (zone_form (drop 4 s)) e

  pub end_short : length s < 4 → zone_form s ≡ end_form s
  end_short h = end_plain (unwritten ".fff" (take 4 s) (λ e. omega (arith, e, length-take 4 s)))

  dot-first : written ".fff" (take 4 s) ≡ true → first s ≡ 46
  unfolding letter among
  dot-first e = sym (get_or-take 4 s 0 0 (omega arith)) ∙ written_itself ".fff" (take 4 s) e 0 (omega arith) refl

  pub end_after : written ".fff" (take 4 s) ≡ true → zone_form (drop 4 s) ≡ end_form s
  unfolding end_form
  end_after e = after (zone_form s) (written ".fff" (take 4 s)) (zone_form (drop 4 s)) (no_dot s (dot-first e)) e
