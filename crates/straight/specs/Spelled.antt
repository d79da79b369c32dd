-- A run of tags as a message may spell it: white space may stand before each `<` of it.
use Rattle.std.specs.Prelude.{◌≡◌, ℕ, ◌-◌, ◌<◌, ◌≤◌, Bool, true, false, not, List, [], ◌∷◌, ◌++◌, length, ◌==◌}
use Rattle.text.specs.Truth.{both, pick, part, every}
use Rattle.tags.specs.Tags.{white}
use Rattle.straight.specs.Due.{Token, tight, spaced}

-- the bytes s spell the text t
abbrev pub spells : List ℕ → List ℕ → Bool
spells [] [] = true
spells [] (c ∷ t) = false
spells (b ∷ s) [] = false
spells (b ∷ s) (c ∷ t) = pick (both (c == 60) (white b)) (spells s (c ∷ t)) (both (b == c) (spells s t))

-- a tag: `<`, and no other
abbrev pub solid : List ℕ → Bool
solid t = every (λ c. not (c == 60)) t

abbrev pub is_tag : List ℕ → Bool
is_tag [] = false
is_tag (c ∷ t) = both (c == 60) (solid t)

-- tags, of which the first alone may be tight
abbrev pub loose : List Token → Bool
loose [] = true
loose (tight t ∷ ts) = false
loose (spaced t ∷ ts) = both (is_tag t) (loose ts)

abbrev pub tagged : List Token → Bool
tagged [] = true
tagged (tight t ∷ ts) = both (is_tag t) (loose ts)
tagged (spaced t ∷ ts) = both (is_tag t) (loose ts)

-- from p to r a message spells the text t
pub record Spelled (m : List ℕ) (p : ℕ) (t : List ℕ) (r : ℕ) : Type 0 where
  pub some : 0 < p
  pub from : p < r
  pub within : r ≤ length m
  pub spelt : spells (part p (r - p) m) t ≡ true

-- from p to r stands one byte c more of a text
pub record Onto (m : List ℕ) (p c r : ℕ) : Type 0 where
  pub some : 0 < p
  pub from : p < r
  pub within : r ≤ length m
  pub onto : (s t : List ℕ) → spells s t ≡ true → spells (part p (r - p) m ++ s) (c ∷ t) ≡ true
