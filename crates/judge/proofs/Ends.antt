-- The end of a message, as the code reads it.
use mathlib.Core.Path.{◌≡◌, sym}
use mathlib.Core.List.{List}
use Prim.Native.Nat.{ℕ, ◌≤◌, ◌<◌}
use borrow.Author.Tests.{lt-ltb, le-ltb, eq-eqb, ne_eqb}
use lib.ListN.{length}
use Rattle.tags.specs.Tags.{skipped}
use Rattle.reading.specs.Noted.{Reading, on, Ended}
use Rattle.reading.specs.Verdict.{accepted}
use Rattle.notes.specs.declared.Notes.{Notes}
use Rattle.notes.specs.Steps.{Fine}
use Rattle.judge.specs.Found.{denied}
use Rattle.judge.specs.Engine.{compared_in, finished_in}

module _ (n : Notes) where
  pub count_other : (n.number ≡ n.count → ⊥) → denied 14 n.numberat ≡ compared_in n
  unfolding compared_in
  count_other h = rw (ne_eqb n.number n.count h)

  module _ (h : n.number ≡ n.count) where
    pub total_other : (n.total ≡ n.sum → ⊥) → denied 15 n.totalat ≡ compared_in n
    unfolding compared_in
    total_other g = rw (eq-eqb n.number n.count h, ne_eqb n.total n.sum g)

    pub all_right : n.total ≡ n.sum → record { verdict = accepted n.count n.sum; first = n.first } ≡ compared_in n
    unfolding compared_in
    all_right g = rw (eq-eqb n.number n.count h, eq-eqb n.total n.sum g)

module _ (m : List ℕ) (s : Ended Notes) (q : ℕ) (at : q ≡ skipped m s.at) where
  pub bytes_left : q < length m → denied 16 q ≡ finished_in m s
  unfolding finished_in
  bytes_left h = rw (← at, lt-ltb q (length m) h)

  pub none_left : length m ≤ q → compared_in s.notes ≡ finished_in m s
  unfolding finished_in
  none_left h = rw (← at, le-ltb q (length m) h)

-- a reading that went through
pub fine_at : (m : List ℕ) (s : Ended Notes) (x : Reading (Ended Notes)) → on s ≡ x → Fine m 0 x → s.at ≤ length m
fine_at m s x e f = (rw (sym e) at f).0.within
