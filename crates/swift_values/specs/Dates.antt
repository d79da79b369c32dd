-- Ten bytes that are a date.
use Rattle.std.specs.Prelude.{ℕ, ◌+◌, ◌-◌, ◌*◌, ◌≤◌, ◌≡◌, List, get_or}
use Rattle.text.specs.Classes.{digit}
use Rattle.calendar.specs.Date.{days_in}
use Rattle.swift_values.specs.Blocks.{All}

-- two bytes as a number: 528 more than two digits write
abbrev pub pair_at : List ℕ → ℕ → ℕ
pair_at s p = get_or s p 0 * 10 + get_or s (p + 1) 0

-- digits and hyphens, as in YYYY-MM-DD
pub record Dated (s : List ℕ) (p : ℕ) : Type 0 where
  pub century : All digit s p 2
  pub year : All digit s (p + 2) 2
  pub hyphen : get_or s (p + 4) 0 ≡ 45
  pub month : All digit s (p + 5) 2
  pub dash : get_or s (p + 7) 0 ≡ 45
  pub day : All digit s (p + 8) 2

-- not the year 0, and a day that the month has in any year
pub record RealDay (s : List ℕ) (p : ℕ) : Type 0 where
  pub year : 1057 ≤ pair_at s p + pair_at s (p + 2)
  pub month : (529 ≤ pair_at s (p + 5)) × (pair_at s (p + 5) ≤ 540)
  pub day : 529 ≤ pair_at s (p + 8)
  pub within : (y : ℕ) → pair_at s (p + 8) ≤ days_in y (pair_at s (p + 5) - 528) + 528
