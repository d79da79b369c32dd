-- The search by slots gives the earliest second one, by any mix of the values' bytes.
use Rattle.std.proofs.Common.{◌≡◌, ℕ, zero, suc, ◌+◌, ◌-◌, ◌<◌, ◌≤◌, Bool, true, false, not, List, [], ◌∷◌, length, take, drop, set, sym, refl, ap, ◌∙◌, ⊎_elim, add-one, arith, length-set, length-take-le, get_or-set_other, get_or-take, get_or-set_same, ne_eqb}
use native.Mathlib.Decide.{ℕ_discrete}
use Rattle.text.specs.Truth.{either, at}
use Rattle.text.specs.Quoted.{alike}
use Rattle.text.proofs.Truths.{never, lt_or_ge}
use Rattle.tags.specs.Values.{value_at}
use Rattle.twice.specs.Twice.{stands_among, second_from, second, least_index}
use Rattle.twice.specs.Engine.{most, passed, slot_at, steps, probe, slots_from, AllFree}
use Rattle.twice.proofs.Values.{alike_equal}
use Rattle.twice.proofs.Pairs.{second_end, second_zero, second_here, second_later}
use Rattle.twice.proofs.Walks.{passed_free, passed_not, slots_end, slots_zero, slots_here, slots_later}
use Rattle.twice.proofs.Room.{taken, taken_none, taken_one, some_free, reach, Stopped, stops}

-- ---- whether a value stands among places, by their items
among_one : (m v l : List ℕ) (k : ℕ) → k < length l → alike (value_at m (at l k)) v ≡ true → stands_among m v l ≡ true
among_one m v [] k h e = never (omega arith)
among_one m v (q ∷ l) zero h e = rw e
among_one m v (q ∷ l) (suc k) h e = go (alike (value_at m q) v) (among_one m v l k (omega arith) e)
  where
    go : (b : Bool) → stands_among m v l ≡ true → either b (stands_among m v l) ≡ true
    go true i = refl
    go false i = i

among_none : (m v l : List ℕ) → ((k : ℕ) → k < length l → alike (value_at m (at l k)) v ≡ true → ⊥) → stands_among m v l ≡ false
among_none m v [] h = refl
among_none m v (q ∷ l) h = go (alike (value_at m q) v) refl (among_none m v l (λ k g. h (suc k) (omega arith)))
  where
    go : (b : Bool) → alike (value_at m q) v ≡ b → stands_among m v l ≡ false → either b (stands_among m v l) ≡ false
    go true e i = absurd (h zero (omega arith) e)
    go false e i = i

-- what a number tells that the search goes on past, and one that it stops at
module _ (m places v : List ℕ) (n : ℕ) where
  passed-tells : passed m places v n ≡ true → (n ≡ 0 → ⊥) × (alike (value_at m (at places (n - 1))) v ≡ true → ⊥)
  passed-tells e =
      let full : n ≡ 0 → ⊥ = λ z. let w : ◌≡◌ {A = ℕ} 0 1 = never_both (passed_free m places v n z) in omega arith in
      (full, λ y. let w : ◌≡◌ {A = ℕ} 0 1 = never_both (rw y at (passed_not m places v n full)) in omega arith)
    where
      never_both : false ≡ passed m places v n → ◌≡◌ {A = ℕ} 0 1
      never_both f = cc

  stopped-tells : passed m places v n ≡ false → (n ≡ 0 → ⊥) → alike (value_at m (at places (n - 1))) v ≡ true
  unfolding passed
  stopped-tells e ne = go (alike (value_at m (at places (n - 1))) v) (rw (ne_eqb n 0 ne) at e)
    where
      go : (b : Bool) → not b ≡ false → b ≡ true
      go true f = refl
      go false f = cc

-- ---- by any mix
module _ (by : List ℕ → ℕ) (m places : List ℕ) where
  abbrev value : ℕ → List ℕ
  value k = value_at m (at places k)

  -- item k is found from where its mix points, past numbers of items
  record Found (index : List ℕ) (k : ℕ) : Type 0 where
    step : ℕ
    stands : at index (slot_at (by (value k)) step) ≡ suc k
    past : (e : ℕ) → e < step → at index (slot_at (by (value k)) e) ≡ 0 → ⊥

  -- the index after i items
  record Kept (i : ℕ) (index : List ℕ) : Type 0 where
    long : least_index ≤ length index
    few : taken (at index) least_index ≤ i
    items : (slot : ℕ) → slot < least_index → at index slot ≤ i
    found : (k : ℕ) → k < i → Found index k

  kept_none : (index : List ℕ) → least_index ≤ length index → AllFree index → Kept 0 index
  kept_none index l h =
      record {
        long = l;
        few = omega (arith, taken_none (at index) least_index h);
        items = λ s g. omega (arith, h s g);
        found = λ k g. never (omega arith);
      }

  slot-within : (h step : ℕ) → slot_at h step < least_index
  unfolding least_index slot_at
  slot-within h step = omega arith

  module _ (i : ℕ) (index : List ℕ) (kept : Kept i index) (v : List ℕ) where
    abbrev on : ℕ → Bool
    on step = passed m places v (at index (slot_at (by v) step))

    -- a search stops: a free slot is met, since there is one
    comes : i < least_index → Stopped on 0 (steps m places index v (by v))
    unfolding steps
    comes room =
        let z = some_free (at index) least_index (omega (arith, kept.few)) in
        let r = reach (by v) z.slot z.within in
        let f : at index (slot_at (by v) r.step) ≡ 0 = rw r.reached z.free in
        stops on least_index 0 r.step (omega arith) (omega (arith, r.within)) (sym (passed_free m places v (at index (slot_at (by v) r.step)) f))

    module _ (step : ℕ) (stop : Stopped on 0 step) where
      abbrev slot : ℕ
      slot = slot_at (by v) step

      -- no item before lies on the way to a free slot, nor behind it
      apart : at index slot ≡ 0 → (k : ℕ) → Found index k → alike (value k) v ≡ true → ⊥
      apart z k f a =
          let e : value k ≡ v = alike_equal (value k) v a in
          let s : at index (slot_at (by v) f.step) ≡ suc k = rw (← e) f.stands in
          let n : at index (slot_at (by v) f.step) - 1 ≡ k = omega (arith, s) in
          ⊎_elim
          (λ l. (passed-tells m places v (at index (slot_at (by v) f.step)) (stop.before f.step (omega arith) l)).1 (rw n a))
          (λ g. elim (ℕ_discrete f.step step) [
            | yes q ↦ (let w : at index slot ≡ suc k = rw (← q) s in omega arith)
            | no q ↦ f.past step (omega arith) (rw e z)
          ])
          (lt_or_ge f.step step)

      -- at a free slot the value stands among none before
      free-none : at index slot ≡ 0 → i ≤ length places → stands_among m v (take i places) ≡ false
      free-none z w =
          among_none m v (take i places)
          (λ k h e. (let g : k < i = omega (arith, length-take-le i places w) in apart z k (kept.found k g) (rw (get_or-take i places k 0 g) at e)))

      -- at a number it is that item's
      full-one : (at index slot ≡ 0 → ⊥) → i ≤ length places → stands_among m v (take i places) ≡ true
      full-one ne w =
          let a = stopped-tells m places v (at index slot) stop.stopped ne in
          let g : at index slot - 1 < i = omega (arith, kept.items slot (slot-within (by v) step)) in
          among_one m v (take i places) (at index slot - 1) (omega (arith, length-take-le i places w)) (rw (get_or-take i places (at index slot - 1) 0 g) a)

      -- there the item's number is written, and the index is kept
      module _ (free : at index slot ≡ 0) where
        abbrev written : List ℕ
        written = set index slot (suc i)

        here : at written slot ≡ suc i
        here = get_or-set_same index slot (suc i) 0 (omega (arith, slot-within (by v) step, kept.long))

        other : (s : ℕ) → (s ≡ slot → ⊥) → at written s ≡ at index s
        other s ne = get_or-set_other index slot s (suc i) 0 ne

        still-free : (s : ℕ) → at written s ≡ 0 → at index s ≡ 0
        still-free s z = elim (ℕ_discrete s slot) [ yes q ↦ rw q free | no q ↦ sym (other s q) ∙ z ]

        found_before : (k : ℕ) → Found index k → Found written k
        found_before k f =
            let ne : slot_at (by (value k)) f.step ≡ slot → ⊥ = λ q. (let w : at index slot ≡ suc k = rw (← q) f.stands in omega arith) in
            record { step = f.step; stands = other _ ne ∙ f.stands; past = λ e l z. f.past e l (still-free _ z) }

        found-new : v ≡ value i → Found written i
        found-new e =
            let same : (k : ℕ) → at written (slot_at (by v) k) ≡ at written (slot_at (by (value i)) k) = λ k. ap (λ (w : List ℕ). at written (slot_at (by w) k)) e in
            record {
              step = step;
              stands = sym (same step) ∙ here;
              past = λ k l z. (passed-tells m places v _ (stop.before k (omega arith) l)).0 (still-free (slot_at (by v) k) (same k ∙ z));
            }

        kept_on : v ≡ value i → Kept (suc i) written
        kept_on e =
            record {
              long = rw (length-set index slot (suc i)) kept.long;
              few = omega (arith, taken_one (at index) (at written) slot other least_index, kept.few);
              items =
                  λ s g. elim (ℕ_discrete s slot) [ yes q ↦ (let w : at written s ≡ suc i = rw q here in omega arith) | no q ↦ omega (arith, other s q, kept.items s g) ];
              found = λ k g. elim (ℕ_discrete k i) [ yes q ↦ rw q (found-new e) | no q ↦ found_before k (kept.found k (omega arith)) ];
            }

  -- from item i on, so many of which are left
  module _ (room : length places ≤ most) where
    from-left : (left i : ℕ) (index : List ℕ) → Kept i index → i ≤ length places → length places ≤ i + left
        → slots_from by m places i index (drop i places) ≡ second_from m (take i places) (drop i places)
    unfolding least_index most probe
    from-left zero i index kept w l = slots_end by m places i index (omega arith) ∙ sym (second_end m places i (omega arith))
    from-left (suc left) i index kept w l =
        ⊎_elim
        (λ h. elim (ℕ_discrete (at places i) 0) [
          | yes z ↦ slots_zero by m places i index h z ∙ sym (second_zero m places i h z)
          | no ne ↦
              (let step = steps m places index (value i) (by (value i)) in
              let stop = comes i index kept (value i) (omega arith) in
              elim (ℕ_discrete (at index (slot_at (by (value i)) step)) 0) [
                | yes free ↦
                    slots_later by m places i index h ne (slot_at (by (value i)) step) refl free
                    ∙ from-left left (i + 1) (set index (slot_at (by (value i)) step) (i + 1))
                    (rw (add-one i) (kept_on i index kept (value i) step stop free refl)) (omega arith) (omega arith)
                    ∙ sym (second_later m places i h ne (free-none i index kept (value i) step stop free w))
                | no full ↦
                    slots_here by m places i index h ne (slot_at (by (value i)) step) refl full
                    ∙ sym (second_here m places i h ne (full-one i index kept (value i) step stop full w))
              ])
        ])
        (λ h. slots_end by m places i index h ∙ sym (second_end m places i h))
        (lt_or_ge i (length places))

    pub by_any_mix : (index : List ℕ) → least_index ≤ length index → AllFree index → slots_from by m places 0 index places ≡ second m places
    unfolding second
    by_any_mix index l free = from-left (length places) 0 index (kept_none index l free) (omega arith) (omega arith)
