-- Digits written from the last one on.
use mathlib.Core.Path.{◌≡◌, ap, ◌∙◌}
use mathlib.Core.List.{List, ◌∷◌, ◌++◌, append_assoc}
use Prim.Native.Nat.{ℕ, zero, suc, ◌+◌, ◌-◌, ◌/◌, ◌%◌, ◌≤◌, ◌<◌}
use native.Mathlib.Nat.{add-zero}
use native.Mathlib.Omega.{arith}
use lib.ListN.{length, take, drop, set, length-set, take-append-drop}
use lib.Seq.{drop-cons, get_or-set_same, take-set-le, drop-set-lt}
use Rattle.text.proofs.Truths.{never}
use Rattle.postings.specs.Record.{digits}
use Rattle.postings.proofs.Long.{length_digits}
use Rattle.records.specs.Engine.{laid}

module _ (at : ℕ) where
  -- the digits that are still to come, before those that are written
  abbrev pub due : ℕ → ℕ → List ℕ → List ℕ
  due i c out = take at out ++ (digits i c ++ drop (at + i) out)

  pub due_all : (n c : ℕ) (rec : List ℕ) → due n c rec ≡ laid at (digits n c) rec
  unfolding laid
  due_all n c rec = rw (length_digits n c)

  pub due_none : (i c : ℕ) (out : List ℕ) → i ≤ 0 → due i c out ≡ out
  unfolding digits
  due_none i c out h =
      let z : i ≡ 0 = omega arith in
      rw (z, add-zero at) (take-append-drop at out)

  pub due_less : (i c : ℕ) (out : List ℕ) → 0 < i → at + i ≤ length out → due (i - 1) (c / 10) (set out (at + (i - 1)) (48 + c % 10)) ≡ due i c out
  unfolding digits
  due_less zero c out h g = never (omega arith)
  due_less (suc j) c out h g =
      let b = 48 + c % 10 in
      let out' = set out (at + j) b in
      let y : suc j - 1 ≡ j = omega arith in
      let z : suc (at + j) ≡ at + suc j = omega arith in
      let n : at + j < length out' = simp length-set (omega arith) in
      let e : drop (at + j) out' ≡ b ∷ drop (at + suc j) out =
      drop-cons out' (at + j) 0 n
      ∙ ap (λ (k : ℕ). k ∷ drop (suc (at + j)) out') (get_or-set_same out (at + j) b 0 (omega arith))
      ∙ ap (λ (l : List ℕ). b ∷ l) (drop-set-lt (suc (at + j)) out (at + j) b (omega arith) ∙ ap (λ (k : ℕ). drop k out) z) in
      rw (y, take-set-le at out (at + j) b (omega arith), e, append_assoc)
