-- Values that stand between two tags: from what the lanes tell to what the definitions ask.
use mathlib.Core.Path.{◌≡◌, refl, sym, ap, ◌∙◌}
use mathlib.Core.Bool.{Bool, true, false, not, ◌&&◌, ◌||◌}
use mathlib.Core.List.{List, [], ◌∷◌, ◌++◌}
use Prim.Native.Nat.{ℕ, zero, suc, ◌+◌, ◌-◌, ◌≤◌, ◌<◌}
use native.Mathlib.Omega.{arith}
use native.Mathlib.Nat.{add-zero}
use native.Mathlib.Decide.{dec_lt}
use borrow.Author.Tests.{ne_eqb, eqb-true}
use lib.Dec.{eqb}
use lib.ListN.{length, drop, get_or, length-drop, take-append-drop, get_or-eq_default}
use lib.Seq.{get_or-take, get_or-drop, length-take-le, drop-drop}
use Rattle.std.specs.Prelude.{IfSome}
use Rattle.std.specs.Bool.{then_some}
use Rattle.text.specs.Truth.{both, either, every, lead, part, first, last, between, all_of}
use Rattle.text.specs.Quoted.{among}
use Rattle.text.specs.Classes.{reference_set, text_set}
use Rattle.text.proofs.Truths.{both_false, between_of, pass, done}
use Rattle.text.proofs.Scan.{lead_before, next}
use Rattle.answers.specs.Given.{yes as said}
use Rattle.words.specs.Reference.{slash, two_slashes, slash_rule, reference_form, reference_given}
use Rattle.words.proofs.Legal.{reference_end_to_end, text_still}
use Rattle.words.specs.declared.Field.{Field}
use Rattle.words.specs.declared.Field.TheVariants.{Nm as a_nm, Ustrd as a_ustrd}
use Rattle.words.specs.Text.{longest, text_form, text_given}
use Rattle.profile.specs.declared.Simple.{Simple}
use Rattle.profile.specs.declared.Simple.TheVariants.{Reference, EndToEnd, Text70, Text140}
use Rattle.tags.specs.Values.{in_value}
use Rattle.kinds.specs.Given.{simple_given}
use Rattle.swift_values.specs.Lanes.{ref_pair, slashless, text_one, Run}
use Rattle.swift_values.specs.Stands.{Found, Stands}
use Rattle.swift_values.proofs.Lanes.{unlike, and_split}

-- ---- tests of each byte
pub every_of : (f : ℕ → Bool) (v : List ℕ) → ((i : ℕ) → i < length v → f (get_or v i 0) ≡ true) → every f v ≡ true
every_of f [] h = refl
every_of f (c ∷ v) h = rw (h 0 (omega arith)) (every_of f v (λ i l. h (suc i) (omega arith)))

no_two : (v : List ℕ) → ((i : ℕ) → i < length v → both (slash (get_or v i 0)) (slash (get_or v (suc i) 0)) ≡ false) → two_slashes v ≡ false
no_two [] h = refl
no_two (c ∷ v) h = rw (h 0 (omega arith)) (no_two v (λ i l. h (suc i) (omega arith)))

module _ (m : List ℕ) (p n : ℕ) (fits : p + n < length m) where
  pub part_long : length (part p n m) ≡ n
  part_long = length-take-le n (drop p m) (omega (arith, length-drop p m))

  pub part_at : (i : ℕ) → i < n → get_or (part p n m) i 0 ≡ get_or m (p + i) 0
  part_at i h = get_or-take n (drop p m) i 0 h ∙ get_or-drop p m i 0

  part-past : (i : ℕ) → n ≤ i → get_or (part p n m) i 0 ≡ 0
  part-past i h = get_or-eq_default (part p n m) 0 (omega (arith, part_long))

  -- every byte is of a value, and `<` stands behind: the value is just these
  pub value_ends : every in_value (part p n m) ≡ true → get_or m (p + n) 0 ≡ 60 → lead in_value (drop p m) ≡ n
  value_ends e h =
      let x : drop p m ≡ part p n m ++ (60 ∷ drop (p + n + 1) m) =
      sym (take-append-drop n (drop p m)) ∙ ap (λ (s : List ℕ). part p n m ++ s) (drop-drop n p m ∙ next m (p + n) fits ∙ ap (λ (c : ℕ). c ∷ drop (p + n + 1) m) h) in
      ap (lead in_value) x ∙ lead_before in_value (part p n m) 60 (drop (p + n + 1) m) e refl ∙ part_long

-- ---- a reference
abbrev inside : ℕ → Bool
inside c = either (not (reference_set c)) (in_value c)

-- a byte of the set is no `<`
pub ref_in : (c : ℕ) → reference_set c ≡ true → in_value c ≡ true
unfolding reference_set among
ref_in c e = go (eqb c 60) refl
  where
    go : (b : Bool) → eqb c 60 ≡ b → not b ≡ true
    go false h = refl
    go true h = rw (eqb-true c 60 h) at e

slash_free : (b c : ℕ) → ref_pair b c ≡ true → both (slash b) (either (slash c) (eqb c 60)) ≡ false
slash_free b c e = go (reference_set b) (slash b) (slash c) (eqb c 60) e
  where
    go : (r x y z : Bool) → (r && not (x && (y || z))) ≡ true → both x (either y z) ≡ false
    go r false y z h = refl
    go true true true z h = sym h
    go true true false true h = sym h
    go true true false false h = refl
    go false true y z h = absurd (let n : ◌≡◌ {A = ℕ} 0 1 = cc in omega arith)

module _ (m : List ℕ) (p n : ℕ) (fits : p + n < length m) (run : Run ref_pair m p n) (behind : get_or m (p + n) 0 ≡ 60)
    (begun : 0 < p) (some : 0 < n) (few : n ≤ 35) (start : get_or m p 0 ≡ 47 → ⊥) where
  ref-each : (i : ℕ) → i < n → reference_set (get_or m (p + i) 0) ≡ true
  ref-each i h = (and_split (reference_set (get_or m (p + i) 0)) _ (run.each i h)).0

  ref-every : every reference_set (part p n m) ≡ true
  ref-every = every_of reference_set (part p n m) (λ i h. let l : i < n = omega (arith, part_long m p n fits) in rw (part_at m p n fits i l) (ref-each i l))

  ref_value : every in_value (part p n m) ≡ true
  ref_value = every_of in_value (part p n m) (λ i h. let l : i < n = omega (arith, part_long m p n fits) in rw (part_at m p n fits i l) (ref_in (get_or m (p + i) 0) (ref-each i l)))

  first-free : not (slash (first (part p n m))) ≡ true
  first-free = rw (part_at m p n fits 0 some, add-zero p, ne_eqb (get_or m p 0) 47 start)

  last-free : not (slash (last (part p n m))) ≡ true
  last-free =
      let l : n - 1 < n = omega arith in
      let z : p + (n - 1) + 1 ≡ p + n = omega arith in
      let s = slash_free (get_or m (p + (n - 1)) 0) (get_or m (p + (n - 1) + 1) 0) (run.each (n - 1) l) in
      rw (part_long m p n fits, part_at m p n fits (n - 1) l) (go (slash (get_or m (p + (n - 1)) 0)) (get_or m (p + (n - 1) + 1) 0) (rw z behind) s)
    where
      go : (x : Bool) (c : ℕ) → c ≡ 60 → both x (either (slash c) (eqb c 60)) ≡ false → not x ≡ true
      go false c e h = refl
      go true c e h = sym (rw e at h)

  none-two : two_slashes (part p n m) ≡ false
  none-two = no_two (part p n m) pair
    where
      first_of : (x y z : Bool) → both x (either y z) ≡ false → both x y ≡ false
      first_of false y z h = refl
      first_of true false z h = refl
      first_of true true z h = h

      pair : (i : ℕ) → i < length (part p n m) → both (slash (get_or (part p n m) i 0)) (slash (get_or (part p n m) (suc i) 0)) ≡ false
      pair i h =
          elim (dec_lt (suc i) n) [
            | yes a ↦
                let z : p + suc i ≡ p + i + 1 = omega arith in
                rw (part_at m p n fits i (omega arith), part_at m p n fits (suc i) a, z)
                (first_of (slash (get_or m (p + i) 0)) (slash (get_or m (p + i + 1) 0)) (eqb (get_or m (p + i + 1) 0) 60) (slash_free (get_or m (p + i) 0) (get_or m (p + i + 1) 0) (run.each i (omega arith))))
            | no a ↦ rw (part-past m p n fits (suc i) (omega arith)) (both_false (slash (get_or (part p n m) i 0)))
          ]

  pub reference_stands : Stands Reference m p (p + n)
  unfolding simple_given reference_given reference_form slash_rule
  reference_stands =
      let z : p + n - p ≡ n = omega arith in
      record {
        some = begun;
        from = omega arith;
        behind = fits;
        upto = rw z (value_ends m p n fits ref_value behind);
        given = rw (z, form) refl;
      }
    where
      slashes : all_of (not (slash (first (part p n m))) ∷ not (slash (last (part p n m))) ∷ not (two_slashes (part p n m)) ∷ []) ≡ true
      slashes = pass _ _ _ first-free (pass _ _ _ last-free (pass _ _ _ (ap not none-two) done))

      form : all_of (between 1 35 (length (part p n m)) ∷ every reference_set (part p n m) ∷ all_of (not (slash (first (part p n m))) ∷ not (slash (last (part p n m))) ∷ not (two_slashes (part p n m)) ∷ []) ∷ []) ≡ true
      form = pass _ _ _ (rw (part_long m p n fits) (between_of 1 35 n some few)) (pass _ _ _ ref-every (pass _ _ _ slashes done))

-- a reference in which no slash stands
module _ (m : List ℕ) (p n : ℕ) (fits : p + n < length m) (run : Run slashless m p n) (behind : get_or m (p + n) 0 ≡ 60) (begun : 0 < p) (some : 0 < n) (few : n ≤ 35) where
  pairs : Run ref_pair m p n
  pairs = record { each = λ j h. go (reference_set (get_or m (p + j) 0)) (eqb (get_or m (p + j) 0) 47) _ (run.each j h) }
    where
      go : (r x y : Bool) → (r && not x) ≡ true → (r && not (x && y)) ≡ true
      go r false y e = e
      go true true y e = absurd (let z : ◌≡◌ {A = ℕ} 0 1 = cc in omega arith)
      go false true y e = e

  starts : get_or m p 0 ≡ 47 → ⊥
  starts e = let h : (reference_set 47 && false) ≡ true = rw (add-zero p, e) at (run.each 0 some) in unlike (and_split (reference_set 47) false h).1

  pub usual_stands : Stands Reference m p (p + n)
  usual_stands = reference_stands m p n fits pairs behind begun some few starts

-- a reference is an EndToEndId
pub as_end_to_end : (m : List ℕ) (p r : ℕ) → Stands Reference m p r → Stands EndToEnd m p r
unfolding simple_given
as_end_to_end m p r h =
    record { some = h.some; from = h.from; behind = h.behind; upto = h.upto; given = reference_end_to_end (part p (r - p) m) h.given }

-- ---- a place that was found
-- where a test has passed
pub if_passed : (b : Bool) (r : ℕ) (P : ℕ → Type 0) → (b ≡ true → P r) → IfSome (then_some b r) P
if_passed true r P h = h refl
if_passed false r P h = tt

pub found : (P : ℕ → Type 0) (r : ℕ) → P r → Found P r
found P zero h = tt
found P (suc r) h = h

pub found_at : (P : ℕ → Type 0) (r : ℕ) → 0 < r → Found P r → P r
found_at P zero h f = absurd (let z : ⊥ = omega arith in z)
found_at P (suc r) h f = f

-- fewer bytes of a run
pub run_less : (f : ℕ → ℕ → Bool) (s : List ℕ) (p n k : ℕ) → Run f s p n → k ≤ n → Run f s p k
run_less f s p n k a h = record { each = λ j l. a.each j (omega arith) }

-- one run behind another
pub run_join : (f : ℕ → ℕ → Bool) (s : List ℕ) (p n k : ℕ) → Run f s p n → Run f s (p + n) k → Run f s p (n + k)
run_join f s p n k a b = record { each = each }
  where
    each : (j : ℕ) → j < n + k → f (get_or s (p + j) 0) (get_or s (p + j + 1) 0) ≡ true
    each j h =
        elim (dec_lt j n) [
          | yes l ↦ a.each j l
          | no l ↦
              let z : p + n + (j - n) ≡ p + j = omega arith in
              ap (λ (x : ℕ). f (get_or s x 0) (get_or s (x + 1) 0)) (sym z) ∙ b.each (j - n) (omega arith)
        ]

-- ---- a text
text_in : (c : ℕ) → text_set c ≡ true → in_value c ≡ true
unfolding text_set reference_set among
text_in c e = go (eqb c 60) refl
  where
    go : (b : Bool) → eqb c 60 ≡ b → not b ≡ true
    go false h = refl
    go true h = rw (eqb-true c 60 h) at e

module _ (f : Field) (m : List ℕ) (p n : ℕ) (fits : p + n < length m) (run : Run text_one m p n) (behind : get_or m (p + n) 0 ≡ 60)
    (begun : 0 < p) (some : 0 < n) (few : n ≤ longest f) (start : get_or m p 0 ≡ 32 → ⊥) where
  text_every : every text_set (part p n m) ≡ true
  text_every = every_of text_set (part p n m) (λ i h. let l : i < n = omega (arith, part_long m p n fits) in rw (part_at m p n fits i l) (run.each i l))

  text-value : every in_value (part p n m) ≡ true
  text-value = every_of in_value (part p n m) (λ i h. let l : i < n = omega (arith, part_long m p n fits) in rw (part_at m p n fits i l) (text_in (get_or m (p + i) 0) (run.each i l)))

  text-first : not (eqb (first (part p n m)) 32) ≡ true
  text-first = rw (part_at m p n fits 0 some, add-zero p, ne_eqb (get_or m p 0) 32 start)

  text-yes : text_given f (part p n m) ≡ said
  unfolding text_form
  text-yes = text_still f (part p n m) form
    where
      form : all_of (between 1 (longest f) (length (part p n m)) ∷ every text_set (part p n m) ∷ not (eqb (first (part p n m)) 32) ∷ []) ≡ true
      form = pass _ _ _ (rw (part_long m p n fits) (between_of 1 (longest f) n some few)) (pass _ _ _ text_every (pass _ _ _ text-first done))

  pub text_stands : (j : Simple) → simple_given j (part p n m) ≡ text_given f (part p n m) → Stands j m p (p + n)
  text_stands j q =
      let z : p + n - p ≡ n = omega arith in
      record {
        some = begun;
        from = omega arith;
        behind = fits;
        upto = rw z (value_ends m p n fits text-value behind);
        given = rw z (q ∙ text-yes);
      }

pub name_is : (v : List ℕ) → simple_given Text70 v ≡ text_given a_nm v
unfolding simple_given
name_is v = refl

pub remittance_is : (v : List ℕ) → simple_given Text140 v ≡ text_given a_ustrd v
unfolding simple_given
remittance_is v = refl

pub run_none : (f : ℕ → ℕ → Bool) (s : List ℕ) (p : ℕ) → Run f s p 0
run_none f s p = record { each = λ j h. absurd (let z : ⊥ = omega arith in z) }

-- one byte more
pub run_next : (f : ℕ → ℕ → Bool) (s : List ℕ) (p n k : ℕ) (b : Bool) → k ≡ n + 1 → Run f s p n → b ≡ f (get_or s (p + n) 0) (get_or s (p + k) 0) → b ≡ true → Run f s p k
run_next f s p n k b i a e h = record { each = each }
  where
    each : (j : ℕ) → j < k → f (get_or s (p + j) 0) (get_or s (p + j + 1) 0) ≡ true
    each j l =
        elim (dec_lt j n) [
          | yes q ↦ a.each j q
          | no q ↦
              let z : j ≡ n = omega arith in
              let y : p + n + 1 ≡ p + k = omega arith in
              ap (λ (x : ℕ). f (get_or s (p + x) 0) (get_or s (p + x + 1) 0)) z ∙ ap (λ (x : ℕ). f (get_or s (p + n) 0) (get_or s x 0)) y ∙ sym e ∙ h
        ]
