-- What the code's group of digits stands for.
use Rattle.std.specs.Prelude.{ℕ, ◌+◌, ◌*◌, ◌^◌, ◌<◌, ◌≤◌}

-- the number that ends in the group: what stands before it, by its remainder, and the group behind
abbrev pub whole : ℕ → ℕ → ℕ → ℕ
whole before weight worth = before * weight + worth

-- a remainder by 97, and at most seven digits
pub record Fits (before weight worth : ℕ) : Type 0 where
  pub remainder : before < 97
  pub seven : weight ≤ 10 ^ 7
  pub within : worth < weight
