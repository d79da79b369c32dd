-- Items that stand in a message one behind the other, each of which can be read again alone.
use Rattle.std.specs.Prelude.{ℕ, ◌≤◌, ◌≡◌, List, [], ◌∷◌, ◌++◌, length}
use Rattle.tags.specs.Tags.{skipped}
use Rattle.tags.specs.Values.{value_at}
use Rattle.profile.specs.declared.Version.{Version}
use Rattle.profile.specs.Limits.{most_bytes}
use Rattle.profile.specs.Profile.{profile}
use Rattle.reading.specs.Trace.{What, item_begins, item_ends, there, absent, value, Entry, ◌at◌, trace, from, opened, message}
use Rattle.reading.specs.Noted.{on, Ended, noted}
use Rattle.reading.specs.Judged.{whats, listed}
use Rattle.reading.specs.Items.{Item, the_items}
use Rattle.items.specs.Alone.{read_alone, first_in}

-- a value's bytes are those that lie at its place, behind a tag; and no item begins or ends here
abbrev pub LiesAt : List ℕ → What → ℕ → Type 0
LiesAt m item_begins p = ⊥
LiesAt m item_ends p = ⊥
LiesAt m (there n) p = Unit {0}
LiesAt m (absent n) p = Unit {0}
LiesAt m (value k f v) p = (value_at m p ≡ v) × (1 ≤ p)

abbrev pub AllLie : List ℕ → List Entry → Type 0
AllLie m [] = Unit {0}
AllLie m (e ∷ l) = LiesAt m e.what e.place × AllLie m l

-- what is noted of an item that is read alone
abbrev pub around : Item → List Entry → List Entry
around x inner = (item_begins at x.from) ∷ (inner ++ ((item_ends at x.to) ∷ []))

-- an item stands from a place on, behind white space
pub record Stands (v : Version) (m : List ℕ) (p : ℕ) (x : Item) : Type 0 where
  pub from : skipped m p ≡ x.from
  -- read alone it goes to its end, and what is noted within it is what it holds
  pub inner : List Entry
  pub alone : read_alone v m p ≡ on (record { at = x.to; notes = around x inner })
  pub holds : whats inner ≡ x.holds
  -- each value as it lies in the message
  pub lie : AllLie m inner
  pub within : x.to ≤ length m

pub data Chained (v : Version) (m : List ℕ) : ℕ → List Item → Type 0 where
  none : {p : ℕ} → Chained v m p []
  next : {p : ℕ} {x : Item} {l : List Item} → Stands v m p x → Chained v m x.to l → Chained v m p (x ∷ l)

-- a message of n items: how it was read, and its items
pub record Itemized (m : List ℕ) (n : ℕ) : Type 0 where
  pub short : length m ≤ most_bytes
  pub version : Version
  pub place : ℕ
  pub opens : opened m ≡ from version place
  -- what is noted up to the end of the root, and of the message: the same
  pub ended : Ended (List Entry)
  pub reads : noted listed (trace (profile version) m place) [] ≡ on ended
  pub last : ℕ
  pub goes : noted listed (message m) [] ≡ on (record { at = last; notes = ended.notes })
  -- its items, from the first one on
  pub within : first_in ended.notes ≤ length m
  pub chain : Chained version m (first_in ended.notes) (the_items m)
  pub many : length (the_items m) ≡ n
