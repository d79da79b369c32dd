-- A value as it is meant is a value of its kind where the value is, means the same, and is one for each meaning.
use mathlib.Core.Path.{◌≡◌, refl, sym, ap, ◌∙◌}
use mathlib.Core.Bool.{Bool, true, false}
use mathlib.Core.List.{List, [], ◌∷◌}
use Prim.Native.Nat.{ℕ}
use native.Mathlib.Omega.{arith}
use Rattle.text.specs.Truth.{every, between}
use Rattle.text.specs.Quoted.{byte, decimal}
use Rattle.text.proofs.Truths.{never}
use Rattle.answers.specs.Given.{Given, worth, number_of, in_order, ◌else◌}
use Rattle.words.specs.declared.Field.TheVariants.{Nm, Ustrd}
use Rattle.words.specs.Collapsed.{collapsed}
use Rattle.words.proofs.Legal.{text_once, end_to_end_once}
use Rattle.words.proofs.Collapsed.{collapsed_twice, collapsed_keeps}
use Rattle.money.specs.declared.Range.{Range}
use Rattle.money.specs.declared.Range as range
use Rattle.money.specs.Count.{count_form, count_given}
use Rattle.money.specs.Amount.{amount_form, cents, most, amount_given}
use Rattle.money.specs.Plain.{without_zeros, plain_amount}
use Rattle.money.proofs.Plain.{zeros_number, zeros_every, zeros_twice, plain_count, count_one, plain_cents, plain_twice, plain_every, plain_amount_lem, amount_one}
use Rattle.profile.specs.declared.Kind.{Kind}
use Rattle.profile.specs.declared.Kind.TheVariants.{Plain, Count, Total, Amount, Code}
use Rattle.profile.specs.declared.Simple.{Simple}
use Rattle.profile.specs.declared.Simple.TheVariants.{Reference, EndToEnd, Text70, Text140, Date, Time, Bic, Bicfi, Iban, Identifier}
use Rattle.kinds.specs.Given.{simple_given, kind_given}
use Rattle.kinds.specs.Meant.{simply_meant, as_meant, SameMeaning}

-- what passes is of the form
pub count_formed : (v : List ℕ) → number_of (count_given v) ≡ 0 → count_form v ≡ true
unfolding count_given
count_formed v e = go (count_form v) e
  where
    go : (b : Bool) → number_of (in_order (b else 7 ∷ []) (worth (decimal v))) ≡ 0 → b ≡ true
    go true e = refl
    go false e = never (omega arith)

pub amount_formed : (k : Range) (v : List ℕ) → number_of (amount_given k v) ≡ 0 → amount_form v ≡ true
unfolding amount_given
amount_formed k v e = go (amount_form v) e
  where
    go : (b : Bool) → number_of (in_order (b else 7 ∷ between 1 (most k) (cents v) else 9 ∷ []) (worth (cents v))) ≡ 0 → b ≡ true
    go true e = refl
    go false e = never (omega arith)

-- ---- values that are no numbers
simply_given : (s : Simple) (v : List ℕ) → simple_given s (simply_meant s v) ≡ simple_given s v
unfolding simple_given
simply_given Reference v = refl
simply_given EndToEnd v = end_to_end_once v
simply_given Text70 v = text_once Nm v
simply_given Text140 v = text_once Ustrd v
simply_given Date v = refl
simply_given Time v = refl
simply_given Bic v = refl
simply_given Bicfi v = refl
simply_given Iban v = refl
simply_given Identifier v = refl

-- what is so of every value and of every collapsed one
simply_by : (P : Simple → List ℕ → Type 0) (v : List ℕ) → ((s : Simple) → P s v) → ((s : Simple) → P s (collapsed v)) → (s : Simple) → P s (simply_meant s v)
simply_by P v a b Reference = a Reference
simply_by P v a b EndToEnd = b EndToEnd
simply_by P v a b Text70 = b Text70
simply_by P v a b Text140 = b Text140
simply_by P v a b Date = a Date
simply_by P v a b Time = a Time
simply_by P v a b Bic = a Bic
simply_by P v a b Bicfi = a Bicfi
simply_by P v a b Iban = a Iban
simply_by P v a b Identifier = a Identifier

simply_twice : (s : Simple) (v : List ℕ) → simply_meant s (simply_meant s v) ≡ simply_meant s v
simply_twice Reference v = refl
simply_twice EndToEnd v = collapsed_twice v
simply_twice Text70 v = collapsed_twice v
simply_twice Text140 v = collapsed_twice v
simply_twice Date v = refl
simply_twice Time v = refl
simply_twice Bic v = refl
simply_twice Bicfi v = refl
simply_twice Iban v = refl
simply_twice Identifier v = refl

-- a value that passes is answered alike as it is meant
pub meant_given : (k : Kind) (v : List ℕ) → number_of (kind_given k v) ≡ 0 → kind_given k (as_meant k v) ≡ kind_given k v
meant_given (Plain s) v e = simply_given s v
meant_given Count v e = plain_count v (count_formed v e)
meant_given Total v e = plain_amount_lem v (amount_formed range.TheVariants.Total v e) range.TheVariants.Total
meant_given Amount v e = plain_amount_lem v (amount_formed range.TheVariants.Item v e) range.TheVariants.Item
meant_given (Code c) v e = refl

-- as meant once more
pub meant_twice : (k : Kind) (v : List ℕ) → as_meant k (as_meant k v) ≡ as_meant k v
meant_twice (Plain s) v = simply_twice s v
meant_twice Count v = zeros_twice v
meant_twice Total v = plain_twice v
meant_twice Amount v = plain_twice v
meant_twice (Code c) v = refl

-- a test that passes a point, a zero and a space passes every byte of it where it passes every byte of the value
module _ (f : ℕ → Bool) (p : f (byte ".") ≡ true) (z : f (byte "0") ≡ true) (b : f (byte " ") ≡ true) where
  pub meant_every : (k : Kind) (v : List ℕ) → every f v ≡ true → every f (as_meant k v) ≡ true
  meant_every (Plain s) v h = simply_by (λ (s : Simple) (w : List ℕ). every f w ≡ true) v (λ s. h) (λ s. collapsed_keeps f b v h) s
  meant_every Count v h = zeros_every f v h
  meant_every Total v h = plain_every v f p z h
  meant_every Amount v h = plain_every v f p z h
  meant_every (Code c) v h = h

-- ---- one spelling for each meaning
pub meant_same : (k : Kind) (v w : List ℕ) → as_meant k v ≡ as_meant k w → SameMeaning k v w
meant_same (Plain s) v w e = e
meant_same Count v w e = sym (zeros_number v) ∙ ap decimal e ∙ zeros_number w
meant_same Total v w e = sym (plain_cents v) ∙ ap cents e ∙ plain_cents w
meant_same Amount v w e = sym (plain_cents v) ∙ ap cents e ∙ plain_cents w
meant_same (Code c) v w e = e

pub same_meant : (k : Kind) (v w : List ℕ) → number_of (kind_given k v) ≡ 0 → number_of (kind_given k w) ≡ 0 → SameMeaning k v w → as_meant k v ≡ as_meant k w
same_meant (Plain s) v w h g e = e
same_meant Count v w h g e = count_one v w (count_formed v h) (count_formed w g) e
same_meant Total v w h g e = amount_one v w (amount_formed range.TheVariants.Total v h) (amount_formed range.TheVariants.Total w g) e
same_meant Amount v w h g e = amount_one v w (amount_formed range.TheVariants.Item v h) (amount_formed range.TheVariants.Item w g) e
same_meant (Code c) v w h g e = e
