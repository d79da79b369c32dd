-- "One slip in an accepted message (a digit replaced, two unequal neighbouring digits exchanged, in a count, total, amount, IBAN or creditor identifier outside positions
-- 5 to 7 [..]) is always refused."
use Rattle.std.specs.Prelude.{ℕ, suc, ◌≤◌, ◌<◌, ◌≡◌, ◌≢◌, ◌⊎◌, true, List, [], ◌∷◌, ◌++◌, length}
use Rattle.text.specs.Classes.{digit}
use Rattle.profile.specs.declared.Kind.{Kind}
use Rattle.profile.specs.declared.Kind.TheVariants.{Plain, Count, Total, Amount, Code}
use Rattle.profile.specs.declared.Simple.{Simple}
use Rattle.profile.specs.declared.Simple.TheVariants.{Reference, EndToEnd, Text70, Text140, Date, Time, Bic, Bicfi, Iban, Identifier}
use Rattle.profile.specs.declared.Field.{Field}
use Rattle.reading.specs.Trace.{value, Entry, ◌at◌, message}
use Rattle.reading.specs.Noted.{noted}
use Rattle.reading.specs.Verdict.{Judged, refused}
use Rattle.reading.specs.Judged.{listed, place_of}
use Rattle.reading.specs.Items.{notes_of}

-- the places of a value, counted from 0, at which a slip is always found: all of a count, a total, an amount and an IBAN; of an identifier those outside positions 5 to 7
abbrev pub WatchedIn : Simple → ℕ → Type 0
WatchedIn Reference i = ⊥
WatchedIn EndToEnd i = ⊥
WatchedIn Text70 i = ⊥
WatchedIn Text140 i = ⊥
WatchedIn Date i = ⊥
WatchedIn Time i = ⊥
WatchedIn Bic i = ⊥
WatchedIn Bicfi i = ⊥
WatchedIn Iban i = Unit {0}
WatchedIn Identifier i = (i < 4) ⊎ (7 ≤ i)

abbrev pub Watched : Kind → ℕ → Type 0
Watched (Plain s) i = WatchedIn s i
Watched Count i = Unit {0}
Watched Total i = Unit {0}
Watched Amount i = Unit {0}
Watched (Code e) i = ⊥

-- a value, and the same value with one slip in it
pub data Slip (k : Kind) (v w : List ℕ) : Type 0 where
  replaced : (p q : List ℕ) (a b : ℕ) → Watched k (length p) → digit a ≡ true → digit b ≡ true → a ≢ b → v ≡ p ++ (a ∷ q) → w ≡ p ++ (b ∷ q) → Slip k v w
  exchanged : (p q : List ℕ) (a b : ℕ) → Watched k (length p) ⊎ Watched k (suc (length p)) → digit a ≡ true → digit b ≡ true → a ≢ b
      → v ≡ p ++ (a ∷ b ∷ q) → w ≡ p ++ (b ∷ a ∷ q) → Slip k v w

-- one of a list
abbrev pub In : {A : Type 0} → A → List A → Type 0
In x [] = ⊥
In x (y ∷ l) = (x ≡ y) ⊎ In x l

-- what was read of a message that is read to its end
abbrev pub entries : List ℕ → List Entry
entries m = notes_of (noted listed (message m) [])

-- a value of a kind stands at a place of a message: it is one of what was read, there
pub record StandsAt (m : List ℕ) (k : Kind) (place : ℕ) (v : List ℕ) : Type 0 where
  pub field : Field
  pub among : In (value k field v at place) (entries m)

-- how a slip in a value of a kind at a place is refused, where the header's total stands at place t: by 8 at the value, where it has check digits; by 14 at the count;
-- by 9 or by 15 at the total; by 9 at the amount, or by 15 at the header's total
abbrev pub Refused : ℕ → Kind → ℕ → Judged → Type 0
Refused t (Plain s) q j = j ≡ refused 8 q
Refused t Count q j = j ≡ refused 14 q
Refused t Total q j = (j ≡ refused 9 q) ⊎ (j ≡ refused 15 q)
Refused t Amount q j = (j ≡ refused 9 q) ⊎ (j ≡ refused 15 t)
Refused t (Code e) q j = ⊥

-- the place of the header's total in a message
abbrev pub total_place : List ℕ → ℕ
total_place m = place_of Total (entries m)
