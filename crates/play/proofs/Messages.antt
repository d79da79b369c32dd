-- Where a message lies in the buffer.
use mathlib.Core.Path.{◌≡◌, refl, sym, ◌∙◌}
use mathlib.Core.Bool.{true, false}
use mathlib.Core.List.{List, [], ◌∷◌}
use mathlib.Core.Logic.{◌⊎◌, inl, inr}
use Prim.Native.Nat.{ℕ, zero, suc, ◌-◌, ◌≤◌, ◌<◌}
use native.Mathlib.Omega.{arith}
use borrow.Author.Tests.{lt-ltb, le-ltb, le-leb, lt-leb, leb-true, ltb-true}
use lib.Dec.{leb, ltb}
use lib.ListN.{length, get_or, get_or-eq_default}
use Rattle.text.proofs.Truths.{never, fails, passes, pass, lastly}
use Rattle.std.proofs.Common.{Option, Some, None, Bor}
use Rattle.std.specs.Option.{option_map}
use Rattle.std.specs.List.{PartBy}
use Rattle.play.specs.Play.{begins, stops, lies, message_at}
use Rattle.play.specs.Code.{message_in}

-- within a list it is the same what would stand behind
pub within : (l : List ℕ) (i d : ℕ) → i < length l → get_or l i d ≡ get_or l i 0
within [] i d h = never (omega arith)
within (x ∷ l) zero d h = refl
within (x ∷ l) (suc i) d h = within l i d (omega arith)

module _ (ends : List ℕ) (j : ℕ) where
  pub begins_at : (j ≡ 0 → ⊥) → get_or ends (j - 1) 0 ≡ begins ends j
  begins_at h = go j h
    where
      go : (k : ℕ) → (k ≡ 0 → ⊥) → get_or ends (k - 1) 0 ≡ get_or (0 ∷ ends) k 0
      go zero h = absurd (h refl)
      go (suc k) h =
          let z : suc k - 1 ≡ k = omega arith in
          rw z

  module _ (buffer : List ℕ) where
    pub none_left : length ends ≤ j → None ≡ message_in buffer ends j
    unfolding lies
    none_left h = rw (fails (ltb j (length ends) ∷ leb (begins ends j) (stops ends j) ∷ leb (stops ends j) (length buffer) ∷ []) 0 (le-ltb j (length ends) h))

    -- from the end before it to its own, where that is a part of the buffer
    pub part_of : (from to : ℕ) (r : Option (Bor (List ℕ))) → from ≡ begins ends j → to ≡ stops ends j → j < length ends
        → PartBy (λ (x : Bor (List ℕ)). x.now) buffer from to r → option_map (λ m. m.now) r ≡ message_in buffer ends j
    unfolding lies message_at
    part_of from to None e f h p =
        let l = ltb j (length ends) ∷ leb (begins ends j) (stops ends j) ∷ leb (stops ends j) (length buffer) ∷ [] in
        elim p.0 [
          | inl g ↦ rw (fails l 1 (lt-leb (begins ends j) (stops ends j) (omega (arith, g, e, f))))
          | inr g ↦ rw (fails l 2 (lt-leb (stops ends j) (length buffer) (omega (arith, g, f))))
        ]
    part_of from to (Some x) e f h p =
        let k : lies buffer ends j ≡ true =
        pass _ _ _ (lt-ltb j (length ends) h) (pass _ _ _ (le-leb (begins ends j) (stops ends j) (omega (arith, p.0.0, e, f))) (lastly _ _ refl)) ∙ le-leb (stops ends j) (length
        buffer) (omega (arith, p.0.1, f)) in
        rw (k, p.0.2, e, f)

    pub in_ends : lies buffer ends j ≡ true → j < length ends
    unfolding lies
    in_ends e = ltb-true j (length ends) (passes _ e 0)
