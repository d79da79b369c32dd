-- "Refuse exactly if two items have equal TxId bytes [..], at the earliest second one."
-- The places of the values are a list of numbers, in the message's order. A place 0 ends the list: no value begins at 0.
use Rattle.std.specs.Prelude.{ℕ, zero, suc, Option, None, Some, Bool, false, List, [], ◌∷◌, ◌++◌, length, replicate, ◌==◌, nat_le}
use Rattle.text.specs.Truth.{either, pick}
use Rattle.text.specs.Quoted.{alike}
use Rattle.tags.specs.Values.{value_at}

-- some of these places hold the bytes of v
abbrev pub stands_among : List ℕ → List ℕ → List ℕ → Bool
stands_among m v [] = false
stands_among m v (q ∷ places) = either (alike (value_at m q) v) (stands_among m v places)

-- the first of the places whose value stands among those before it; 0 where there is none
abbrev pub second_from : List ℕ → List ℕ → List ℕ → ℕ
second_from m before [] = 0
second_from m before (p ∷ places) =
    pick (p == 0) 0 (pick (stands_among m (value_at m p) before) p (second_from m (before ++ (p ∷ [])) places))

unfoldable pub second : List ℕ → List ℕ → ℕ
second m places = second_from m [] places

-- a place, where it is one
abbrev pub if_any : ℕ → Option ℕ
if_any zero = None
if_any (suc p) = Some (suc p)

-- 25: "index under 16,384 numbers"
unfoldable pub least_index : ℕ
least_index = 16384

-- "any index contents are allowed on entry and all entries are zero on return, but after 25": then the index is as it was
unfoldable pub cleared : List ℕ → List ℕ
cleared index = pick (nat_le least_index (length index)) (replicate (length index) 0) index
