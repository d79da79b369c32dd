-- The numbers that the judge refuses with, in the order of the paper; and what is so of a message that is refused behind its `</Document>`.
use Rattle.std.specs.Prelude.{ℕ, ◌≤◌, ◌<◌, ◌≡◌, true, List, [], ◌∷◌, ◌++◌, eqb, length}
use Rattle.text.specs.Truth.{some}
use Rattle.text.specs.Quoted.{decimal}
use Rattle.money.specs.Amount.{cents}
use Rattle.tags.specs.Tags.{skipped}
use Rattle.profile.specs.declared.Kind.TheVariants.{Count, Total}
use Rattle.profile.specs.Profile.{profile}
use Rattle.reading.specs.Trace.{Entry, Trace, fault, trace, Opened, from, faulty, opened}
use Rattle.reading.specs.Noted.{on, Ended, noted}
use Rattle.reading.specs.Rules.{items_in, cents_in}
use Rattle.reading.specs.Judged.{whats, only_of, place_of, listed}

-- a number is one of a list
infix 60 ◌among◌
abbrev pub ◌among◌ : ℕ → List ℕ → Type 0
◌among◌ n l = some (eqb n) l ≡ true

-- ---- "Rule 1 comes first. Then reading goes left to right and the first fault met ends it."
-- the form: the beginning, the message's end, a tag, a currency
abbrev pub of_form : List ℕ
of_form = 2 ∷ 3 ∷ 4 ∷ 6 ∷ []

-- what is said: a value of its kind; what was said before, an item (and 4, where the payment type is missing in both, header and item)
abbrev pub of_akind : List ℕ
of_akind = 7 ∷ 19 ∷ 8 ∷ 9 ∷ 10 ∷ []

abbrev pub of_what_is_said : List ℕ
of_what_is_said = of_akind ++ (11 ∷ 24 ∷ 12 ∷ 23 ∷ [])

abbrev pub while_reading : List ℕ
while_reading = of_form ++ of_what_is_said

-- "After `</Document>`: 16, 14, 15"
abbrev pub after_the_end : List ℕ
after_the_end = 16 ∷ 14 ∷ 15 ∷ []

-- "then 17 or 18 where asked"
abbrev pub when_asked : List ℕ
when_asked = 17 ∷ 18 ∷ []

-- all that the judge refuses with
abbrev pub of_the_judge : List ℕ
of_the_judge = 1 ∷ while_reading ++ after_the_end

-- ---- a message up to the end of its `</Document>`
abbrev pub in_document : List ℕ → Opened → Trace
in_document m (from v p) = trace (profile v) m p
in_document m (faulty n q) = fault n q

-- everything up to the end of `</Document>` was read, up to the place r.at, with r.notes in its order, and no fault was met
abbrev pub ReadTo : List ℕ → Ended (List Entry) → Type 0
ReadTo m r = noted listed (in_document m (opened m)) [] ≡ on r

pub record InOrder (m : List ℕ) : Type 0 where
  pub read : Ended (List Entry)
  pub through : ReadTo m read

-- ---- and behind it
-- no byte is left behind `</Document>` and white space
abbrev pub NoneLeft : List ℕ → ℕ → Type 0
NoneLeft m p = length m ≤ skipped m p

-- NbOfTxs is the item count; the total is the sum
abbrev pub CountRight : List Entry → Type 0
CountRight es = decimal (only_of Count es) ≡ items_in (whats es)

abbrev pub TotalRight : List Entry → Type 0
TotalRight es = cents (only_of Total es) ≡ cents_in (whats es)

-- "After `</Document>`: 16, 14, 15": the number and the place, and that what comes before it in this order is right
pub data Behind (m : List ℕ) (r : Ended (List Entry)) : ℕ → ℕ → Type 0 where
  left : skipped m r.at < length m → Behind m r 16 (skipped m r.at)
  count : NoneLeft m r.at → (CountRight r.notes → ⊥) → Behind m r 14 (place_of Count r.notes)
  total : NoneLeft m r.at → CountRight r.notes → (TotalRight r.notes → ⊥) → Behind m r 15 (place_of Total r.notes)
