-- How the code walks: over a value's bytes, from slot to slot, from item to item.
use Rattle.std.proofs.Common.{drop-drop, ◌≡◌, ℕ, zero, suc, ◌+◌, ◌-◌, ◌*◌, ◌/◌, ◌%◌, ◌<◌, ◌≤◌, Bool, not, true, false, List, [], ◌∷◌, length, get_or, take, drop, set, sym, refl, ap, ◌∙◌, add-one, arith, length-drop, drop_of_length-le, eq-eqb, ne_eqb}
use Rattle.std.specs.Simd.{first_chunks}
use Rattle.text.specs.Truth.{at}
use Rattle.text.specs.Quoted.{alike}
use Rattle.text.proofs.Truths.{never}
use Rattle.text.proofs.Scan.{next}
use Rattle.tags.specs.Values.{value_at}
use Rattle.twice.specs.Twice.{least_index}
use Rattle.twice.specs.Engine.{mix_on, mix_bytes, as_one, mix_from, mix, passed, slot_at, walk_from, steps, probe, slots_from}

-- ---- the mix of a value's bytes
module _ (v : List ℕ) (h i : ℕ) where
  pub bytes_next : i < length v → mix_bytes (mix_on h (at v i)) (drop (i + 1) v) ≡ mix_bytes h (drop i v)
  bytes_next g = rw (next v i g)

  pub bytes_end : length v ≤ i → h ≡ mix_bytes h (drop i v)
  bytes_end g = rw (drop_of_length-le v {i = i} g)

  four-of : i + 4 ≤ length v → drop i v ≡ at v i ∷ at v (i + 1) ∷ at v (i + 2) ∷ at v (i + 3) ∷ drop (i + 4) v
  four-of g =
      let two : i + 1 + 1 ≡ i + 2 = omega arith in
      let three : i + 2 + 1 ≡ i + 3 = omega arith in
      let four : i + 3 + 1 ≡ i + 4 = omega arith in
      rw
      (next v i (omega arith), next v (i + 1) (omega arith), two, next v (i + 2) (omega arith), three, next v (i + 3) (omega arith), four)

  -- the chunk of four that begins there, and its number x
  pub four_next : i + 4 ≤ length v → (w : List ℕ) → w ≡ take 4 (drop i v) → (x : ℕ) → x ≡ as_one (at w 0) (at w 1) (at w 2) (at w 3) → (j : ℕ) → j ≡ i + 4
      → mix_from (mix_on h x) (drop j v) ≡ mix_from h (drop i v)
  four_next g w is x e j f = rw (e, is, f, four-of g)

-- the chunks of four
pub chunk_at : (n : ℕ) (v : List ℕ) (k : ℕ) → k < n → get_or (first_chunks 4 n v) k [] ≡ take 4 (drop (4 * k) v)
chunk_at zero v k g = never (omega arith)
chunk_at (suc n) v zero g = refl
chunk_at (suc n) v (suc k) g =
    let e : 4 * suc k ≡ 4 + 4 * k = omega arith in
    chunk_at n (drop 4 v) k (omega arith) ∙ rw (e, drop-drop)

few_left : (s : List ℕ) (h : ℕ) → length s < 4 → mix_bytes h s ≡ mix_from h s
few_left [] h g = refl
few_left (a ∷ []) h g = refl
few_left (a ∷ b ∷ []) h g = refl
few_left (a ∷ b ∷ c ∷ []) h g = refl
few_left (a ∷ b ∷ c ∷ d ∷ s) h g = never (omega arith)

-- those left
pub mix_end : (v s : List ℕ) (h k r : ℕ) → s ≡ drop (length v / 4 * 4) v → k ≡ length v / 4 → r ≡ mix_bytes h s → r ≡ mix_from h (drop (4 * k) v)
mix_end v s h k r is e f =
    let g : length v / 4 * 4 ≡ 4 * k = omega arith in
    f ∙ few_left s h (omega (arith, ap length is, length-drop (length v / 4 * 4) v)) ∙ rw (is, g)

-- ---- whether the search for v goes on past a number
module _ (m places v : List ℕ) (n : ℕ) where
  pub passed_free : n ≡ 0 → false ≡ passed m places v n
  unfolding passed
  passed_free e = rw (eq-eqb n 0 e)

  module _ (ne : n ≡ 0 → ⊥) where
    pub passed_other : alike (value_at m (at places (n - 1))) v ≡ false → true ≡ passed m places v n
    unfolding passed
    passed_other e = rw (ne_eqb n 0 ne, e)

    pub passed_not : not (alike (value_at m (at places (n - 1))) v) ≡ passed m places v n
    unfolding passed
    passed_not = rw (ne_eqb n 0 ne)

-- ---- the slot of a step, as the code counts
at_slot : (h step : ℕ) → (h + step) % 16384 ≡ slot_at h step
unfolding slot_at least_index
at_slot h step = refl

-- ---- where the walk stops from a step on
unfoldable pub walked : List ℕ → List ℕ → List ℕ → List ℕ → ℕ → ℕ → ℕ
walked m places index v h step = walk_from (λ k. passed m places v (at index (slot_at h k))) step (least_index - step)

pub walk_begins : (m places index v : List ℕ) (h : ℕ) → walked m places index v h 0 ≡ steps m places index v h
unfolding walked steps least_index
walk_begins m places index v h = refl

module _ (m places index v : List ℕ) (h step : ℕ) where
  -- what the code learns of the number at a step
  module _ (r : Bool) (is : r ≡ passed m places v (at index ((h + step) % 16384))) (g : step < least_index) where
    pub walk_on : r ≡ true → walked m places index v h (step + 1) ≡ walked m places index v h step
    unfolding walked
    walk_on t =
        let y : passed m places v (at index (slot_at h step)) ≡ true = rw (← at_slot h step) (sym is ∙ t) in
        let z : least_index - step ≡ suc (least_index - suc step) = omega arith in
        rw (add-one step, z, y)

    pub walk_stop : r ≡ false → step ≡ walked m places index v h step
    unfolding walked
    walk_stop t =
        let y : passed m places v (at index (slot_at h step)) ≡ false = rw (← at_slot h step) (sym is ∙ t) in
        let z : least_index - step ≡ suc (least_index - suc step) = omega arith in
        rw (z, y)

  pub walk_end : least_index ≤ step → step ≡ walked m places index v h step
  unfolding walked
  walk_end g =
      let z : least_index - step ≡ 0 = omega arith in
      rw z

pub probe_is : (m places index v w : List ℕ) (h n : ℕ) → v ≡ w → h ≡ mix v → n ≡ steps m places index v h
    → ((h + n) % 16384 ≡ probe mix m places index w) × ((h + n) % 16384 < least_index)
unfolding probe least_index
probe_is m places index v w h n is mixed stops =
    (at_slot h n ∙ rw (stops, mixed, is), omega arith)

-- ---- the search by slots, from item i on
module _ (by : List ℕ → ℕ) (m places : List ℕ) (i : ℕ) (index : List ℕ) where
  pub slots_end : length places ≤ i → slots_from by m places i index (drop i places) ≡ 0
  slots_end h = rw (drop_of_length-le places {i = i} h)

  module _ (h : i < length places) where
    pub slots_zero : at places i ≡ 0 → slots_from by m places i index (drop i places) ≡ 0
    slots_zero e = rw (next places i h, e)

    module _ (ne : at places i ≡ 0 → ⊥) (slot : ℕ) (is : slot ≡ probe by m places index (value_at m (at places i))) where
      pub slots_here : (at index slot ≡ 0 → ⊥) → slots_from by m places i index (drop i places) ≡ at places i
      slots_here full = rw (next places i h, ne_eqb (at places i) 0 ne, ← is, ne_eqb (at index slot) 0 full)

      pub slots_later : at index slot ≡ 0
          → slots_from by m places i index (drop i places) ≡ slots_from by m places (i + 1) (set index slot (i + 1)) (drop (i + 1) places)
      slots_later free = rw (next places i h, ne_eqb (at places i) 0 ne, ← is, eq-eqb (at index slot) 0 free, add-one i)
