-- How long a value of each kind can be, as it is meant.
use mathlib.Core.Path.{◌≡◌, refl, sym, ap, ◌∙◌}
use mathlib.Core.Logic.{◌⊎◌, inl, inr}
use mathlib.Core.Bool.{Bool, true, false}
use mathlib.Core.List.{List, [], ◌∷◌}
use Prim.Native.Nat.{ℕ, suc, ◌+◌, ◌≤◌}
use Prim.Native.String.{String}
use native.Mathlib.Omega.{arith}
use borrow.Author.Tests.{eqb-true}
use lib.Dec.{eqb}
use lib.ListN.{length, take, drop, length-drop, length-take}
use Rattle.text.specs.Truth.{both, either}
use Rattle.text.specs.Quoted.{bytes, equal, is}
use Rattle.text.proofs.Truths.{never, both_true, either_true, between_true, passes}
use Rattle.text.proofs.Scan.{paired_same_length}
use Rattle.answers.specs.Given.{Given, yes, number_of, Rule, in_order, ◌else◌}
use Rattle.words.specs.declared.Field.{Field}
use Rattle.words.specs.declared.Field.TheVariants.{Nm, Ustrd}
use Rattle.words.specs.Collapsed.{collapsed}
use Rattle.words.specs.Reference.{reference_form, reference_given}
use Rattle.words.specs.EndToEnd.{end_to_end_form, end_to_end_given}
use Rattle.words.specs.Text as text
use Rattle.words.specs.Text.{text_form, text_given}
use Rattle.codes.specs.declared.Element.{Element}
use Rattle.codes.specs.declared.Element.TheVariants.{SttlmMtd, SvcLvl, LclInstrm, SeqTp, ChrgBr, Prtry}
use Rattle.codes.specs.Listed.{codes_of, or_else, place, code_given}
use Rattle.calendar.specs.Pattern.{stands, written}
use Rattle.calendar.specs.Date.{date_form, date_given}
use Rattle.calendar.specs.Time.{offset_form, zone_form, end_form, time_form, time_given}
use Rattle.money.specs.declared.Range as range
use Rattle.money.proofs.Plain.{count_parts, zeros_long, plain_long}
use Rattle.accounts.specs.Bic.{bic_form, bic_given, bicfi_form, bicfi_given}
use Rattle.check97.specs.Check.{iban_checked, identifier_checked}
use Rattle.accounts.specs.Iban.{iban_form, iban_length, iban_given}
use Rattle.accounts.specs.Identifier.{identifier_form, identifier_given}
use Rattle.accounts.proofs.Forms.{iban_long, identifier_long}
use Rattle.profile.specs.declared.Kind.{Kind}
use Rattle.profile.specs.declared.Kind.TheVariants.{Plain, Count, Total, Amount, Code}
use Rattle.profile.specs.declared.Simple.{Simple}
use Rattle.profile.specs.declared.Simple.TheVariants.{Reference, EndToEnd, Text70, Text140, Date, Time, Bic, Bicfi, Iban, Identifier}
use Rattle.kinds.specs.Given.{simple_given, kind_given}
use Rattle.kinds.specs.Meant.{simply_meant, as_meant}
use Rattle.kinds.proofs.Meant.{count_formed, amount_formed}

abbrev pub longest_simple : Simple → ℕ
longest_simple Reference = 35
longest_simple EndToEnd = 35
longest_simple Text70 = 70
longest_simple Text140 = 140
longest_simple Date = 10
longest_simple Time = 29
longest_simple Bic = 11
longest_simple Bicfi = 11
longest_simple Iban = 34
longest_simple Identifier = 35

abbrev pub longest : Kind → ℕ
longest (Plain s) = longest_simple s
longest Count = 15
longest Total = 18
longest Amount = 18
longest (Code e) = 4

-- where nothing is refused, the first test passed
first_passes : (b : Bool) (n : ℕ) (l : List Rule) (g : Given) → number_of (in_order (b else suc n ∷ l) g) ≡ 0 → b ≡ true
first_passes true n l g e = refl
first_passes false n l g e = never (omega arith)

-- ---- references and texts
reference_long : (v : List ℕ) → number_of (reference_given v) ≡ 0 → length v ≤ 35
unfolding reference_given reference_form
reference_long v e = (between_true 1 35 (length v) (passes _ (first_passes (reference_form v) 6 [] yes e) 0)).1

text_long : (f : Field) (v : List ℕ) → number_of (text_given f v) ≡ 0 → length (collapsed v) ≤ text.longest f
unfolding text_given text_form
text_long f v e = (between_true 1 (text.longest f) (length (collapsed v)) (passes _ (first_passes (text_form f (collapsed v)) 6 [] yes e) 0)).1

end_to_end_long : (v : List ℕ) → number_of (end_to_end_given v) ≡ 0 → length (collapsed v) ≤ 35
unfolding end_to_end_given end_to_end_form
end_to_end_long v e = (between_true 1 35 (length (collapsed v)) (passes _ (first_passes (end_to_end_form (collapsed v)) 6 [] yes e) 1)).1

-- ---- dates and times
written_long : (t : String) (v : List ℕ) → written t v ≡ true → length v ≡ length (bytes t)
unfolding written
written_long t v e = sym (paired_same_length stands (bytes t) v e)

date_long : (v : List ℕ) → number_of (date_given v) ≡ 0 → length v ≤ 10
unfolding date_given date_form
date_long v e = omega (arith, written_long "YYYY-MM-DD" v (passes _ (first_passes (date_form v) 6 [] yes e) 0))

is_long : (t : String) (v : List ℕ) → is t v ≡ true → length v ≡ length (bytes t)
is_long t v e = sym (paired_same_length equal (bytes t) v e)

offset_long : (v : List ℕ) → offset_form v ≡ true → length v ≤ 6
unfolding offset_form
offset_long v e = omega (arith, length-drop 1 v, written_long "hh:mm" (drop 1 v) (passes _ e 1))

zone_long : (v : List ℕ) → zone_form v ≡ true → length v ≤ 6
unfolding zone_form
zone_long v e = go (either_true (is "" v) (either (is "Z" v) (offset_form v)) e)
  where
    rest : (is "Z" v ≡ true) ⊎ (offset_form v ≡ true) → length v ≤ 6
    rest (inl h) = omega (arith, is_long "Z" v h)
    rest (inr h) = offset_long v h

    go : (is "" v ≡ true) ⊎ (either (is "Z" v) (offset_form v) ≡ true) → length v ≤ 6
    go (inl h) = omega (arith, is_long "" v h)
    go (inr h) = rest (either_true (is "Z" v) (offset_form v) h)

end_long : (v : List ℕ) → end_form v ≡ true → length v ≤ 10
unfolding end_form
end_long v e = go (either_true (zone_form v) (both (written ".fff" (take 4 v)) (zone_form (drop 4 v))) e)
  where
    go : (zone_form v ≡ true) ⊎ (both (written ".fff" (take 4 v)) (zone_form (drop 4 v)) ≡ true) → length v ≤ 10
    go (inl h) = omega (arith, zone_long v h)
    go (inr h) = omega (arith, length-drop 4 v, zone_long (drop 4 v) (both_true (written ".fff" (take 4 v)) (zone_form (drop 4 v)) h).1)

time_long : (v : List ℕ) → number_of (time_given v) ≡ 0 → length v ≤ 29
unfolding time_given time_form
time_long v e = omega (arith, length-drop 19 v, end_long (drop 19 v) (passes _ (first_passes (time_form v) 6 [] yes e) 3))

-- ---- accounts
eight_or_eleven : (n : ℕ) → either (eqb n 8) (eqb n 11) ≡ true → n ≤ 11
eight_or_eleven n e = go (either_true (eqb n 8) (eqb n 11) e)
  where
    go : (eqb n 8 ≡ true) ⊎ (eqb n 11 ≡ true) → n ≤ 11
    go (inl h) = omega (arith, eqb-true n 8 h)
    go (inr h) = omega (arith, eqb-true n 11 h)

bic_long : (v : List ℕ) → number_of (bic_given v) ≡ 0 → length v ≤ 11
unfolding bic_given bic_form
bic_long v e = eight_or_eleven (length v) (passes _ (first_passes (bic_form v) 6 [] yes e) 0)

bicfi_long : (v : List ℕ) → number_of (bicfi_given v) ≡ 0 → length v ≤ 11
unfolding bicfi_given bicfi_form
bicfi_long v e = eight_or_eleven (length v) (passes _ (first_passes (bicfi_form v) 6 [] yes e) 0)

iban_most : (v : List ℕ) → number_of (iban_given v) ≡ 0 → length v ≤ 34
unfolding iban_given
iban_most v e = (iban_long v (first_passes (iban_form v) 6 (iban_length v else 19 ∷ iban_checked v else 8 ∷ []) yes e)).1

identifier_most : (v : List ℕ) → number_of (identifier_given v) ≡ 0 → length v ≤ 35
unfolding identifier_given
identifier_most v e = (identifier_long v (first_passes (identifier_form v) 6 (identifier_checked v else 8 ∷ []) yes e)).1

simple_long : (s : Simple) (v : List ℕ) → number_of (simple_given s v) ≡ 0 → length (simply_meant s v) ≤ longest_simple s
unfolding simple_given
simple_long Reference v e = reference_long v e
simple_long EndToEnd v e = end_to_end_long v e
simple_long Text70 v e = text_long Nm v e
simple_long Text140 v e = text_long Ustrd v e
simple_long Date v e = date_long v e
simple_long Time v e = time_long v e
simple_long Bic v e = bic_long v e
simple_long Bicfi v e = bicfi_long v e
simple_long Iban v e = iban_most v e
simple_long Identifier v e = identifier_most v e

-- ---- codes: no code of a list is longer than n
abbrev Short : ℕ → List String → Type 0
Short n [] = Unit {0}
Short n (t ∷ l) = (length (bytes t) ≤ n) × Short n l

place_long : (n i : ℕ) (l : List String) (v : List ℕ) → Short n l → number_of (place i l v) ≡ 0 → length v ≤ n
place_long n i [] v h e = never (omega arith)
place_long n i (t ∷ l) v h e = go (is t v) refl e (place_long n (suc i) l v h.1)
  where
    go : (b : Bool) → is t v ≡ b → number_of (or_else b i (place (suc i) l v)) ≡ 0 → (number_of (place (suc i) l v) ≡ 0 → length v ≤ n) → length v ≤ n
    go true x e rec = omega (arith, is_long t v x, h.0)
    go false x e rec = rec e

codes_short : (e : Element) → Short 4 (codes_of e)
codes_short SttlmMtd = (omega arith, tt)
codes_short SvcLvl = (omega arith, tt)
codes_short LclInstrm = (omega arith, (omega arith, tt))
codes_short SeqTp = (omega arith, (omega arith, (omega arith, (omega arith, tt))))
codes_short ChrgBr = (omega arith, tt)
codes_short Prtry = (omega arith, tt)

code_long : (c : Element) (v : List ℕ) → number_of (code_given c v) ≡ 0 → length v ≤ 4
unfolding code_given
code_long c v e = place_long 4 0 (codes_of c) v (codes_short c) e

-- A value that passes is no longer, as it is meant, than its kind's longest.
pub meant_long : (k : Kind) (v : List ℕ) → number_of (kind_given k v) ≡ 0 → length (as_meant k v) ≤ longest k
meant_long (Plain s) v e = simple_long s v e
meant_long Count v e =
    let p = count_parts v (count_formed v e) in
    (zeros_long 15 v (p.0, p.1)).1
meant_long Total v e = plain_long v (amount_formed range.TheVariants.Total v e)
meant_long Amount v e = plain_long v (amount_formed range.TheVariants.Item v e)
meant_long (Code c) v e = code_long c v e
