-- What is answered about a message, in this paper's numbers.
use Rattle.std.specs.Prelude.{ℕ, ◌≡◌}

-- accepted, with the count and the cents; or refused, with the number and the place
pub data Judged : Type 0 where
  accepted : ℕ → ℕ → Judged
  refused : ℕ → ℕ → Judged

-- an answer that is a refusal
pub record Refusal (j : Judged) : Type 0 where
  pub number : ℕ
  pub place : ℕ
  pub is : j ≡ refused number place

-- where an item lies: from the `<` of its start tag to behind the `>` of its end tag
pub data Located : Type 0 where
  lies : ℕ → ℕ → Located
  not_there : ℕ → ℕ → Located
