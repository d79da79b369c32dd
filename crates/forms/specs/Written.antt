-- What is answered where the plain form is asked for, and the lent area afterwards.
use Rattle.std.specs.Prelude.{ℕ, ◌≡◌, List, ◌++◌, length, drop, ltb}
use Rattle.text.specs.Truth.{pick}
use Rattle.profile.specs.Limits.{most_bytes}
use Rattle.reading.specs.Verdict as judge
use Rattle.reading.specs.Judged.{judged}
use Rattle.forms.specs.Plain.{PlainForm}

-- how many bytes were written; or why none were, with a number and a place
pub data Answered : Type 0 where
  written : ℕ → Answered
  refused : ℕ → ℕ → Answered

pub record Outcome : Type 0 where
  pub answer : Answered
  pub area : List ℕ

-- "Refusals, area unchanged"
abbrev pub unchanged : ℕ → ℕ → List ℕ → Outcome
unchanged n p a = record { answer = refused n p; area = a }

-- "then 1, place 0, when the plain form would pass 16,777,216 bytes; then 17 when it is longer than the lent area". "Bytes after it stay."
abbrev pub placed : List ℕ → List ℕ → Outcome
placed f a =
    pick (ltb most_bytes (length f))
    (unchanged 1 0 a)
    (pick (ltb (length a) (length f)) (unchanged 17 0 a) (record { answer = written (length f); area = f ++ drop (length f) a }))

-- of a message and a lent area: "the judge's own" refusal, or its plain form in its place
pub data Wrote (m a : List ℕ) (o : Outcome) : Type 0 where
  as_judged : (n p : ℕ) → judged m ≡ judge.refused n p → o ≡ unchanged n p a → Wrote m a o
  in_form : (f : List ℕ) → PlainForm m f → o ≡ placed f a → Wrote m a o
