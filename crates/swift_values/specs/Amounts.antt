-- Digits that write a number, and the cents behind them.
use Rattle.std.specs.Prelude.{ℕ, ◌+◌, ◌≡◌, List, get_or}
use Rattle.text.specs.Truth.{part}
use Rattle.text.specs.Quoted.{followed_by}
use Rattle.text.specs.Classes.{digit}
use Rattle.swift_values.specs.Blocks.{All}

-- the k bytes from p on are digits, and write n
pub record Written (s : List ℕ) (p k n : ℕ) : Type 0 where
  pub digits : All digit s p k
  pub number : n ≡ followed_by 0 (part p k s)

-- at q stand a point, two digits and `<`
pub record Cents (s : List ℕ) (q : ℕ) : Type 0 where
  pub point : get_or s q 0 ≡ 46
  pub digits : All digit s (q + 1) 2
  pub behind : get_or s (q + 3) 0 ≡ 60
