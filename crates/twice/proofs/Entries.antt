-- The entries of the index: their numbers, and what the upper bits of a mix tell.
use Rattle.std.proofs.Common.{◌≡◌, ℕ, zero, suc, ◌+◌, ◌-◌, ◌<◌, Bool, true, false, List, [], ◌∷◌, length, drop, set, sym, refl, ap, ◌∙◌, arith, get_or-set_other, get_or-set_same}
use native.Mathlib.Decide.{ℕ_discrete}
use Rattle.text.specs.Truth.{at}
use Rattle.text.specs.Quoted.{alike}
use Rattle.tags.specs.Values.{value_at}
use Rattle.twice.specs.Twice.{least_index}
use Rattle.twice.specs.Engine.{mix, passed, number_in, upper_of, entry_of, numbers_in, Told, AllTold, AllFree, probe, slots_from}
use Rattle.twice.proofs.Values.{alike_equal}
use Rattle.twice.proofs.Walks.{passed_free, passed_other, slots_later}

-- ---- the numbers of all entries
pub number_free : (e : ℕ) → e ≡ 0 → number_in e ≡ 0
unfolding number_in least_index
number_free e z = omega arith

pub numbers_at_lem : (index : List ℕ) (s : ℕ) → at (numbers_in index) s ≡ number_in (at index s)
numbers_at_lem [] s = sym (number_free 0 refl)
numbers_at_lem (e ∷ index) zero = refl
numbers_at_lem (e ∷ index) (suc s) = numbers_at_lem index s

pub numbers_long : (index : List ℕ) → length (numbers_in index) ≡ length index
numbers_long [] = refl
numbers_long (e ∷ index) = ap suc (numbers_long index)

pub numbers_set : (index : List ℕ) (s e : ℕ) → numbers_in (set index s e) ≡ set (numbers_in index) s (number_in e)
numbers_set [] s e = refl
numbers_set (d ∷ index) zero e = refl
numbers_set (d ∷ index) (suc s) e = ap (λ (l : List ℕ). number_in d ∷ l) (numbers_set index s e)

-- ---- one entry
pub entry_number : (n h : ℕ) → n < least_index → number_in (entry_of n h) ≡ n
unfolding number_in entry_of least_index
entry_number n h g = omega arith

pub entry_upper : (n h : ℕ) → n < least_index → upper_of (entry_of n h) ≡ upper_of h
unfolding upper_of entry_of least_index
entry_upper n h g = omega arith

-- what the code learns of an entry
pub passes_free : (m places v : List ℕ) (e : ℕ) → e ≡ 0 → false ≡ passed m places v (number_in e)
passes_free m places v e z = passed_free m places v (number_in e) (number_free e z)

pub number_full : (m places : List ℕ) (e n : ℕ) → Told m places e → (e ≡ 0 → ⊥) → n ≡ number_in e → 0 < n
number_full m places e n told ne is =
    let z : n ≡ 0 → ⊥ = λ y. told.full ne (sym is ∙ y) in
    omega arith

module _ (m places v : List ℕ) (h e : ℕ) (is : h ≡ mix v) (told : Told m places e) where
  -- where the upper bits differ, so do the values
  pub passes_upper : (e ≡ 0 → ⊥) → (a b : ℕ) → a ≡ upper_of e → b ≡ upper_of h → (a ≡ b → ⊥) → true ≡ passed m places v (number_in e)
  passes_upper ne a b x y d = passed_other m places v (number_in e) (told.full ne) (go (alike w v) refl)
    where
      w : List ℕ
      w = value_at m (at places (number_in e - 1))

      go : (t : Bool) → alike w v ≡ t → t ≡ false
      go false f = refl
      go true f =
          let s : w ≡ v = alike_equal w v f in
          absurd (d (x ∙ told.upper ne ∙ ap (λ (u : List ℕ). upper_of (mix u)) s ∙ sym (ap upper_of is) ∙ sym y))

-- ---- all entries
pub free_told : (m places index : List ℕ) → AllFree index → AllTold m places index
free_told m places index free slot g = record { full = λ ne. absurd (ne (free slot g)); upper = λ ne. absurd (ne (free slot g)) }

module _ (m places index : List ℕ) (slot : ℕ) (told : AllTold m places index) where
  -- the number is 0 where the entry is
  pub number_of_free : at index slot ≡ 0 → at (numbers_in index) slot ≡ 0
  number_of_free z = numbers_at_lem index slot ∙ number_free (at index slot) z

  pub number_of_full : slot < least_index → (at index slot ≡ 0 → ⊥) → at (numbers_in index) slot ≡ 0 → ⊥
  number_of_full g ne z = (told slot g).full ne (sym (numbers_at_lem index slot) ∙ z)

  -- the entry of item i, counted from 0, is written
  module _ (i h x : ℕ) (few : i + 1 < least_index) (is : x ≡ entry_of (i + 1) h) where
    own : h ≡ mix (value_at m (at places i)) → Told m places x
    own e =
        let n : number_in x ≡ i + 1 = ap number_in is ∙ entry_number (i + 1) h few in
        let k : number_in x - 1 ≡ i = omega arith in
        record { full = λ ne z. omega arith; upper = λ ne. ap upper_of is ∙ entry_upper (i + 1) h few ∙ ap upper_of e ∙ rw k }

    pub told_on : slot < length index → h ≡ mix (value_at m (at places i)) → AllTold m places (set index slot x)
    told_on within e s g =
        elim (ℕ_discrete s slot) [
          | yes q ↦ rw (q, get_or-set_same index slot x 0 within) (own e)
          | no q ↦ rw (get_or-set_other index slot s x 0 q) (told s g)
        ]

    pub numbers_on : numbers_in (set index slot x) ≡ set (numbers_in index) slot (i + 1)
    numbers_on = numbers_set index slot x ∙ ap (set (numbers_in index) slot) (ap number_in is ∙ entry_number (i + 1) h few)

    -- and the search goes on
    pub slots_on : i < length places → (at places i ≡ 0 → ⊥) → slot ≡ probe mix m places (numbers_in index) (value_at m (at places i)) → at index slot ≡ 0
        → slots_from mix m places (i + 1) (numbers_in (set index slot x)) (drop (i + 1) places) ≡ slots_from mix m places i (numbers_in index) (drop i places)
    slots_on g ne at_slot z = rw numbers_on (sym (slots_later mix m places i (numbers_in index) g ne slot at_slot (number_of_free z)))

-- all free, their numbers are
pub numbers_free : (index : List ℕ) → AllFree index → AllFree (numbers_in index)
numbers_free index free slot g = numbers_at_lem index slot ∙ number_free (at index slot) (free slot g)
