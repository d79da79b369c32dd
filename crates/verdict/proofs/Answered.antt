-- The line of an input: too long, or what the judge says of it.
use Rattle.std.proofs.Common.{◌≡◌, ℕ, ◌+◌, ◌≤◌, ◌<◌, ◌⊎◌, inl, inr, List, ◌++◌, length, take, codes, Some, None, IfSome, Result, Ok, Err, MatchResult, IfOk, OnOk, IsErr, is_ok, false}
use Rattle.std.proofs.Common.{refl, sym, ap, ◌∙◌, subst, arith, length-append, length-take-le, append-nil}
use Rattle.std.proofs.lemmas.Result.{IfOk-at_ok, IfOk-from_err}
use Rattle.std.specs.Io.KnownBytes.{Consumes, IsAtEnd, Appends}
use Rattle.std.specs.declared.option.Option.{Option}
use Rattle.text.proofs.Truths.{lt_or_ge, never}
use borrow.Author.Tests.{lt-ltb, le-ltb}
use Rattle.reading.specs.Judged.{judged}
use Rattle.twice.specs.Twice.{least_index}
use Rattle.judge.specs.Index.{judged_with, or_short}
use Rattle.verdict.specs.Line.{told, answered}

pub too_long : (m : List ℕ) → 65536 < length m → codes "too long\n" ≡ answered m
unfolding answered
too_long m h = rw (lt-ltb 65536 (length m) h)

pub of_judged : (m : List ℕ) → length m ≤ 65536 → told (judged m) ≡ answered m
unfolding answered
of_judged m h = rw (le-ltb 65536 (length m) h)

pub of_index : (index m : List ℕ) → 16384 ≤ length index → judged_with index m ≡ judged m
unfolding or_short least_index
of_index index m h = rw (le-ltb (length index) 16384 h)

-- ---- what stands in the area tells the line of all that the reader held
-- bytes of which the first are too many are too many
too_many : (m front rest : List ℕ) → m ≡ front ++ rest → length front ≡ 65537 → answered front ≡ answered m
too_many m front rest e h =
    let all : length m ≡ length front + length rest = ap length e ∙ length-append front rest in
    sym (too_long front (omega arith)) ∙ too_long m (omega arith)

pub of_taken : (a b : Option (List ℕ)) (n : ℕ) (area : List ℕ) → length area ≡ 65537 → n ≤ length area → Consumes a b (take n area)
    → (n < length area → IsAtEnd b) → IfSome a (λ m. answered (take n area) ≡ answered m)
of_taken None b n area e h c last = tt
of_taken (Some m) None n area e h c last = absurd c
of_taken (Some m) (Some rest) n area e h c last = go (lt_or_ge n (length area))
  where
    go : (n < length area) ⊎ (length area ≤ n) → answered (take n area) ≡ answered m
    go (inl p) = ap answered (sym (c ∙ ap (λ l. take n area ++ l) (last p) ∙ append-nil (take n area)))
    go (inr p) = too_many m (take n area) rest c (length-take-le n area h ∙ omega arith)

-- ---- of a result of which the error alone was made another
module _ {T E F : Type 0} (s : Result T F) (Q : E → Type 0) where
  -- what holds of the value holds of it still
  pub came : (r : Result T E) (x : T) → MatchResult r (λ y. s ≡ Ok y) Q → is_ok s ≡ is_ok r → s ≡ Ok x → (P : T → Type 0) → IfOk r P → P x
  came (Ok y) x h k e P p = IfOk-at_ok P (sym h ∙ e) p
  came (Err y) x h k e P p = never (cc (sym (ap is_ok e) ∙ k))

  pub of_whole : (r : Result T E) → MatchResult r (λ y. s ≡ Ok y) Q → is_ok s ≡ is_ok r → (a x y : Option (List ℕ)) (v : List ℕ)
      → IfSome a (λ m. v ≡ answered m) → OnOk r (Appends x y v) → OnOk s (IfSome a (λ m. Appends x y (answered m)))
  of_whole (Ok z) h k None x y v e p = rw h tt
  of_whole (Ok z) h k (Some m) x y v e p = rw h (subst (Appends x y) e p)
  of_whole (Err z) h k a x y v e p = IfOk-from_err s _ (is_err_of s k)
    where
      is_err_of : (s : Result T F) → is_ok s ≡ false → IsErr s
      is_err_of (Ok w) e = never (cc e)
      is_err_of (Err w) e = refl
