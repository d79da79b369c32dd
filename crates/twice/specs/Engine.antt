-- The quick way: an index of numbers, of which each is 0 or that of an item, counted from 1. The mix of a value's bytes says where its search begins;
-- from there it goes on from slot to slot, round about, past the numbers of items with another value. Above the number stand the upper bits of that
-- item's mix: where they differ, so do the values, and no byte of them is read.
use Rattle.std.specs.Prelude.{◌≡◌, ℕ, zero, suc, ◌+◌, ◌-◌, ◌*◌, ◌/◌, ◌%◌, ◌^◌, ◌<◌, Bool, not, List, [], ◌∷◌, length, drop, ◌==◌, ◌≢◌, nat_le, slice_set}
use Rattle.text.specs.Truth.{both, pick, at, lead}
use Rattle.text.specs.Quoted.{alike}
use Rattle.tags.specs.Values.{in_value, value_at}
use Rattle.twice.specs.Twice.{least_index}

-- "a mixing sum that wraps at 32 bits"
abbrev pub wrapped : ℕ → ℕ
wrapped n = n % 2 ^ 32

unfoldable pub mix_on : ℕ → ℕ → ℕ
mix_on h n = wrapped (wrapped (h + wrapped (h * 2 ^ 5)) + n)

abbrev pub mix_bytes : ℕ → List ℕ → ℕ
mix_bytes h [] = h
mix_bytes h (c ∷ s) = mix_bytes (mix_on h c) s

-- four bytes at a time, as one number, and then those left
unfoldable pub as_one : ℕ → ℕ → ℕ → ℕ → ℕ
as_one a b c d = a + b * 2 ^ 8 + c * 2 ^ 16 + d * 2 ^ 24

abbrev pub mix_from : ℕ → List ℕ → ℕ
mix_from h [] = h
mix_from h (a ∷ []) = mix_bytes h (a ∷ [])
mix_from h (a ∷ b ∷ []) = mix_bytes h (a ∷ b ∷ [])
mix_from h (a ∷ b ∷ c ∷ []) = mix_bytes h (a ∷ b ∷ c ∷ [])
mix_from h (a ∷ b ∷ c ∷ d ∷ s) = mix_from (mix_on h (as_one a b c d)) s

-- and at the end the sum onto itself, so that its upper bits come down and neighbours are strewn
unfoldable pub lowered : ℕ → ℕ → ℕ
lowered bits h = wrapped (h + h / 2 ^ bits)

unfoldable pub raised : ℕ → ℕ → ℕ
raised bits h = wrapped (h + wrapped (h * 2 ^ bits))

unfoldable pub strewn : ℕ → ℕ
strewn h = lowered 13 (raised 11 (lowered 16 h))

unfoldable pub mix : List ℕ → ℕ
mix v = strewn (mix_from 0 v)

-- the items that the slots have room for: fewer than there are slots, so that one is always free
unfoldable pub most : ℕ
most = 10000

-- all slots are free
abbrev pub AllFree : List ℕ → Type 0
AllFree index = (slot : ℕ) → slot < least_index → at index slot ≡ 0

-- a value of n bytes ends where none or `<` follows
unfoldable pub ends_at : List ℕ → ℕ → Bool
ends_at s n = both (nat_le n (length s)) (lead in_value (drop n s) == 0)

-- the search for v goes on past a number: it is that of an item, whose value is another
unfoldable pub passed : List ℕ → List ℕ → List ℕ → ℕ → Bool
passed m places v n = both (not (n == 0)) (not (alike (value_at m (at places (n - 1))) v))

-- the slot in so many steps from where a mix points
unfoldable pub slot_at : ℕ → ℕ → ℕ
slot_at h step = (h + step) % least_index

-- where a walk stops that goes on past what passes, from a step on, for so many steps at most
abbrev pub walk_from : (ℕ → Bool) → ℕ → ℕ → ℕ
walk_from f step zero = step
walk_from f step (suc left) = pick (f step) (walk_from f (suc step) left) step

unfoldable pub steps : List ℕ → List ℕ → List ℕ → List ℕ → ℕ → ℕ
steps m places index v h = walk_from (λ step. passed m places v (at index (slot_at h step))) 0 least_index

-- ---- what the slots hold
-- the number in an entry of the index, and the upper bits of a mix, which stand above it
unfoldable pub number_in : ℕ → ℕ
number_in e = e % least_index

unfoldable pub upper_of : ℕ → ℕ
upper_of h = h / least_index

unfoldable pub entry_of : ℕ → ℕ → ℕ
entry_of n h = h - h % least_index + n

abbrev pub numbers_in : List ℕ → List ℕ
numbers_in [] = []
numbers_in (e ∷ index) = number_in e ∷ numbers_in index

-- an entry is 0, or that of an item
pub record Told (m places : List ℕ) (e : ℕ) : Type 0 where
  pub full : (e ≢ 0) → number_in e ≢ 0
  pub upper : (e ≢ 0) → upper_of e ≡ upper_of (mix (value_at m (at places (number_in e - 1))))

abbrev pub AllTold : List ℕ → List ℕ → List ℕ → Type 0
AllTold m places index = (slot : ℕ) → slot < least_index → Told m places (at index slot)

-- ---- by any mix
-- the slot where the search for a value stops
unfoldable pub probe : (List ℕ → ℕ) → List ℕ → List ℕ → List ℕ → List ℕ → ℕ
probe by m places index v = slot_at (by v) (steps m places index v (by v))

-- the places from item i on: at a free slot the item's number is written, and a number that stands there is that of an item with the same value
abbrev pub slots_from : (List ℕ → ℕ) → List ℕ → List ℕ → ℕ → List ℕ → List ℕ → ℕ
slots_from by m places i index [] = 0
slots_from by m places i index (p ∷ rest) =
    pick (p == 0) 0
    (pick (at index (probe by m places index (value_at m p)) == 0)
    (slots_from by m places (suc i) (slice_set index (probe by m places index (value_at m p)) (suc i)) rest)
    p)
