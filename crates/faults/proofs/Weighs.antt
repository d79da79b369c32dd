-- What is weighed of an entry is refused with a number of what is said, and never where the entry is an item's end.
use mathlib.Core.Path.{◌≡◌, refl}
use mathlib.Core.Bool.{Bool, true, false}
use mathlib.Core.List.{List, [], ◌∷◌}
use Prim.Native.Nat.{ℕ, suc, ◌<◌}
use Prim.Native.String.{String}
use native.Mathlib.Omega.{arith}
use lib.Dec.{eqb, ltb}
use Rattle.text.specs.Truth.{both, some, between}
use Rattle.text.specs.Quoted.{is, decimal}
use Rattle.text.proofs.Truths.{both_true}
use Rattle.answers.specs.Given.{Given, yes, worth, refused, Rule, in_order, ◌else◌}
use Rattle.words.specs.declared.Field.TheVariants.{Nm, Ustrd}
use Rattle.words.specs.Reference.{reference_form, reference_given}
use Rattle.words.specs.Collapsed.{collapsed}
use Rattle.words.specs.EndToEnd.{end_to_end_form, end_to_end_given}
use Rattle.words.specs.Text.{text_form, text_given}
use Rattle.codes.specs.Listed.{codes_of, or_else, place, code_given}
use Rattle.calendar.specs.Date.{date_form, date_given}
use Rattle.calendar.specs.Time.{time_form, time_given}
use Rattle.money.specs.declared.Range.{Range}
use Rattle.money.specs.declared.Range.TheVariants as range
use Rattle.money.specs.Count.{count_form, count_given}
use Rattle.money.specs.Amount.{most, cents, amount_form, amount_given}
use Rattle.check97.specs.Check.{iban_checked, identifier_checked}
use Rattle.accounts.specs.Bic.{bic_form, bic_given, bicfi_form, bicfi_given}
use Rattle.accounts.specs.Iban.{iban_form, iban_length, iban_given}
use Rattle.accounts.specs.Identifier.{identifier_form, identifier_given}
use Rattle.profile.specs.declared.Kind.{Kind}
use Rattle.profile.specs.declared.Kind.TheVariants.{Plain, Count, Total, Amount, Code}
use Rattle.profile.specs.declared.Simple.{Simple}
use Rattle.profile.specs.declared.Simple.TheVariants.{Reference, EndToEnd, Text70, Text140, Date, Time, Bic, Bicfi, Iban, Identifier}
use Rattle.profile.specs.Limits.{most_items}
use Rattle.profile.specs.Profile.{is_type}
use Rattle.kinds.specs.Given.{simple_given, kind_given}
use Rattle.reading.specs.Trace.{What, item_begins, item_ends, there, absent, value}
use Rattle.reading.specs.Rules.{items_in, types_in, ◌so◌, unlike_first, rules, own_kind, fitting, weighed}
use Rattle.reading.proofs.Flat.{never}
use Rattle.faults.specs.Refusals.{◌among◌, of_akind, of_what_is_said}
use Rattle.faults.proofs.Numbers.{among_left, among_right, not_among}
use Rattle.faults.proofs.Extends.{needs}

-- no refusal, or one of these numbers
abbrev pub SaidIn : List ℕ → Given → Type 0
SaidIn ns yes = Unit {0}
SaidIn ns (worth v) = Unit {0}
SaidIn ns (refused n) = n among ns

abbrev all_said : List ℕ → List Rule → Bool
all_said ns [] = true
all_said ns (r ∷ l) = both (some (eqb r.number) ns) (all_said ns l)

in_order_of : (ns : List ℕ) (l : List Rule) (g : Given) → all_said ns l ≡ true → SaidIn ns g → SaidIn ns (in_order l g)
in_order_of ns [] g e h = h
in_order_of ns (r ∷ l) g e h =
    let t = both_true (some (eqb r.number) ns) (all_said ns l) e in
    go r.test t.0 (in_order_of ns l g t.1 h)
  where
    go : (b : Bool) → r.number among ns → SaidIn ns (in_order l g) → SaidIn ns (in_order (record { test = b; number = r.number } ∷ l) g)
    go true n k = k
    go false n k = n

abbrev Said : Given → Type 0
Said = SaidIn of_akind

in_order_lem : (l : List Rule) (g : Given) → all_said of_akind l ≡ true → Said g → Said (in_order l g)
in_order_lem = in_order_of of_akind

-- ---- by the kinds
simple_said : (s : Simple) (v : List ℕ) → Said (simple_given s v)
unfolding simple_given reference_given end_to_end_given text_given date_given time_given bic_given bicfi_given iban_given identifier_given
simple_said Reference v = in_order_lem (reference_form v else 7 ∷ []) yes refl tt
simple_said EndToEnd v = in_order_lem (end_to_end_form (collapsed v) else 7 ∷ []) yes refl tt
simple_said Text70 v = in_order_lem (text_form Nm (collapsed v) else 7 ∷ []) yes refl tt
simple_said Text140 v = in_order_lem (text_form Ustrd (collapsed v) else 7 ∷ []) yes refl tt
simple_said Date v = in_order_lem (date_form v else 7 ∷ []) yes refl tt
simple_said Time v = in_order_lem (time_form v else 7 ∷ []) yes refl tt
simple_said Bic v = in_order_lem (bic_form v else 7 ∷ []) yes refl tt
simple_said Bicfi v = in_order_lem (bicfi_form v else 7 ∷ []) yes refl tt
simple_said Iban v = in_order_lem (iban_form v else 7 ∷ iban_length v else 19 ∷ iban_checked v else 8 ∷ []) yes refl tt
simple_said Identifier v = in_order_lem (identifier_form v else 7 ∷ identifier_checked v else 8 ∷ []) yes refl tt

amount_said : (k : Range) (v : List ℕ) → Said (amount_given k v)
unfolding amount_given
amount_said k v = in_order_lem (amount_form v else 7 ∷ between 1 (most k) (cents v) else 9 ∷ []) (worth (cents v)) refl tt

place_said : (i : ℕ) (l : List String) (v : List ℕ) → Said (place i l v)
place_said i [] v = refl
place_said i (t ∷ l) v = go (is t v) (place_said (suc i) l v)
  where
    go : (b : Bool) → Said (place (suc i) l v) → Said (or_else b i (place (suc i) l v))
    go true h = tt
    go false h = h

pub kind_said : (k : Kind) (v : List ℕ) → Said (kind_given k v)
unfolding count_given code_given
kind_said (Plain s) v = simple_said s v
kind_said Count v = in_order_lem (count_form v else 7 ∷ []) (worth (decimal v)) refl tt
kind_said Total v = amount_said range.Total v
kind_said Amount v = amount_said range.Item v
kind_said (Code e) v = place_said 0 (codes_of e) v

-- ---- and by the rules: or 4
abbrev pub or_four : List ℕ
or_four = 4 ∷ of_what_is_said

fitting_said : (g h : Given) → Said g → SaidIn or_four h → SaidIn or_four (fitting g h)
fitting_said yes h a b = b
fitting_said (worth n) h a b = b
fitting_said (refused n) h a b = among_right n (4 ∷ []) of_what_is_said (among_left n of_akind (11 ∷ 24 ∷ 12 ∷ 23 ∷ []) a)

own_said : (w : What) → Said (own_kind w)
own_said item_begins = tt
own_said item_ends = tt
own_said (there n) = tt
own_said (absent n) = tt
own_said (value k f v) = kind_said k v

rules_said : (before : List What) (w : What) → all_said or_four (rules before w) ≡ true
rules_said before item_begins = refl
rules_said before item_ends = refl
rules_said before (there n) = refl
rules_said before (absent n) = refl
rules_said before (value k f v) = refl

pub weighed_said : (before : List What) (w : What) → SaidIn or_four (weighed before w)
weighed_said before w = fitting_said (own_kind w) (in_order (rules before w) yes) (own_said w) (in_order_of or_four (rules before w) yes (rules_said before w) tt)

-- 4 comes only where the payment type is missing in both, header and item
abbrev pub Misses : List What → What → Type 0
Misses before item_begins = ⊥
Misses before item_ends = ⊥
Misses before (there n) = ⊥
Misses before (absent n) = (is_type n so unlike_first false (types_in before)) ≡ false
Misses before (value k f v) = ⊥

pub weighed_four : (before : List What) (w : What) → weighed before w ≡ refused 4 → Misses before w
weighed_four before item_begins = go (ltb (items_in before) most_items)
  where
    go : (b : Bool) → in_order (b else 12 ∷ []) yes ≡ refused 4 → ⊥
    go true e = never (cc)
    go false e = never (let z : ◌≡◌ {A = ℕ} 12 4 = cc in omega arith)
weighed_four before item_ends = λ e. never (cc)
weighed_four before (there n) = go (is_type n so unlike_first true (types_in before))
  where
    go : (b : Bool) → in_order (b else 23 ∷ []) yes ≡ refused 4 → ⊥
    go true e = never (cc)
    go false e = never (let z : ◌≡◌ {A = ℕ} 23 4 = cc in omega arith)
weighed_four before (absent n) = go (is_type n so unlike_first false (types_in before))
  where
    go : (b : Bool) → in_order (b else 4 ∷ []) yes ≡ refused 4 → b ≡ false
    go true e = never (cc)
    go false e = refl
weighed_four before (value k f v) = go (kind_given k v) (kind_said k v) (in_order (rules before (value k f v)) yes) (in_order_of of_what_is_said (rules before (value k f v)) yes refl tt)
  where
    own : (h : Given) → SaidIn of_what_is_said h → h ≡ refused 4 → ⊥
    own yes b e = never (cc)
    own (worth n) b e = never (cc)
    own (refused n) b e = not_among 4 of_what_is_said n refl b (cc)

    go : (g : Given) → Said g → (h : Given) → SaidIn of_what_is_said h → fitting g h ≡ refused 4 → ⊥
    go yes a h b e = own h b e
    go (worth n) a h b e = own h b e
    go (refused n) a h b e = not_among 4 of_akind n refl a (cc)

-- an entry that is refused has a byte there
pub weighed_there : (before : List What) (w : What) (n : ℕ) → weighed before w ≡ refused n → 0 < needs w
weighed_there before item_begins n e = omega arith
weighed_there before item_ends n e = never (cc)
weighed_there before (there s) n e = omega arith
weighed_there before (absent s) n e = omega arith
weighed_there before (value k f v) n e = omega arith
