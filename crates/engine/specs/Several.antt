-- Several items read in one call, one behind the other, and what is told of each.
use Rattle.std.specs.Prelude.{ℕ, zero, suc, ◌*◌, ◌/◌, ◌≡◌, List, [], ◌∷◌, ◌++◌, length, drop, leb}
use Rattle.text.specs.Truth.{pick}
use Rattle.profile.specs.declared.Version.{Version}
use Rattle.reading.specs.Noted.{Reading, on, stop, Ended}
use Rattle.notes.specs.declared.Notes.{Notes}
use Rattle.engine.specs.declared.Several.{Several}
use Rattle.engine.specs.Engine.{item_at}

-- what comes of an item that can be read, and nothing where it cannot
abbrev pub where_read : Reading (Ended Notes) → (Ended Notes → List (Ended Notes)) → List (Ended Notes)
where_read (on s) f = f s
where_read (stop n p) f = []

-- so many items from a place on, each from behind the one before it, and fewer where one cannot be read
abbrev pub items_from : Version → List ℕ → ℕ → ℕ → List (Ended Notes)
items_from v m zero p = []
items_from v m (suc k) p = where_read (item_at v m p) (λ s. s ∷ items_from v m k s.at)

-- the place behind them
abbrev pub behind : ℕ → List (Ended Notes) → ℕ
behind p [] = p
behind p (s ∷ l) = behind s.at l

-- what is told of an item: where the last value of each of the 27 fields begins, and the cents
abbrev pub row_length : ℕ
row_length = 28

abbrev pub row_of : Notes → List ℕ
row_of n = n.starts ++ (n.cents ∷ [])

abbrev pub rows_of : List (Ended Notes) → List ℕ
rows_of [] = []
rows_of (s ∷ l) = row_of s.notes ++ rows_of l

-- a row at the front of a part that has room for one
unfoldable pub told_in : Notes → List ℕ → List ℕ
told_in n part = pick (leb row_length (length part)) (row_of n ++ drop row_length part) part

-- as many items as rows have room for: how many were read, the place behind them, and their rows, before what the lent rows held there
pub record Tells (v : Version) (m : List ℕ) (p : ℕ) (rows : List ℕ) (s : Several) (after : List ℕ) : Type 0 where
  pub many : s.read ≡ length (items_from v m (length rows / row_length) p)
  pub place : s.at ≡ behind p (items_from v m (length rows / row_length) p)
  pub told : after ≡ rows_of (items_from v m (length rows / row_length) p) ++ drop (row_length * length (items_from v m (length rows / row_length) p)) rows
