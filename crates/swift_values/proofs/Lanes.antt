-- The loop over 32 lanes: the minimum of the keys is how many bytes pass first.
use mathlib.Core.Path.{◌≡◌, refl}
use mathlib.Core.Bool.{Bool, true, false, ◌&&◌}
use mathlib.Core.List.{List}
use Prim.Native.Nat.{ℕ, ◌+◌, ◌≤◌, ◌<◌}
use native.Mathlib.Omega.{arith}
use native.Mathlib.Decide.{dec_lt}
use lib.ListN.{get_or}
use Rattle.text.proofs.Truths.{never}
use Rattle.swift_values.specs.Lanes.{Run, Passed}

-- a test that failed did not pass
pub unlike : {A : Type 0} → false ≡ true → A
unlike e = never (cc)

-- two tests that hold together
pub and_split : (a b : Bool) → (a && b) ≡ true → (a ≡ true) × (b ≡ true)
and_split true b e = (refl, e)
and_split false b e = (e, (cc))

-- every lane before i that the minimum leaves has passed
pub record Seen (P : ℕ → ℕ → Bool → Type 0) (s : List ℕ) (p i r : ℕ) : Type 0 where
  pub each : (j : ℕ) → j < i → j < r → P (get_or s (p + j) 0) (get_or s (p + j + 1) 0) true

module _ (P : ℕ → ℕ → Bool → Type 0) (s : List ℕ) (p : ℕ) where
  pub seen_none : (r : ℕ) → Seen P s p 0 r
  seen_none r = record { each = λ j h g. absurd (let z : ⊥ = omega arith in z) }

  pub seen_on : (i r k q : ℕ) (b : Bool) → Seen P s p i r → P (get_or s (p + i) 0) (get_or s (p + i + 1) 0) b → (b ≡ false → k ≡ i) → q ≤ r → q ≤ k → Seen P s p (i + 1) q
  seen_on i r k q b z e w h g = record { each = go }
    where
      lane : (x : Bool) → P (get_or s (p + i) 0) (get_or s (p + i + 1) 0) x → (x ≡ false → k ≡ i) → i < q → P (get_or s (p + i) 0) (get_or s (p + i + 1) 0) true
      lane true y v l = y
      lane false y v l = absurd (let n : ⊥ = omega (arith, v refl) in n)

      go : (j : ℕ) → j < i + 1 → j < q → P (get_or s (p + j) 0) (get_or s (p + j + 1) 0) true
      go j l n =
          elim (dec_lt j i) [
            | yes a ↦ z.each j a (omega arith)
            | no a ↦
                let o : j ≡ i = omega arith in
                rw o (lane b e w (omega arith))
          ]

  pub seen_all : (i r : ℕ) → r ≤ i → Seen P s p i r → Passed P s p r
  seen_all i r h z = record { each = λ j l. z.each j (omega arith) l }

  -- what each pass tells of the two bytes
  pub run_of : (f : ℕ → ℕ → Bool) → ((b c : ℕ) → P b c true → f b c ≡ true) → (n : ℕ) → Passed P s p n → Run f s p n
  run_of f h n a = record { each = λ j l. h _ _ (a.each j l) }
