-- "Limits 1 and 12 belong to the profile."
use Rattle.std.specs.Prelude.{ℕ}

-- 1: "over 16,777,216 bytes"
abbrev pub most_bytes : ℕ
most_bytes = 16777216

-- 12: "item 10,001 begins"
abbrev pub most_items : ℕ
most_items = 10000
