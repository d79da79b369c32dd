-- "Amount: 1 to 15 digits, optionally `.` and one or two digits. Its worth in cents is the digits before the point times 100, plus the fraction as two digits."
-- "Header total: 1 to 99,999,999,999,999,999 cents. Item: 1 to 99,999,999,999 cents."
use Rattle.std.specs.Prelude.{ℕ, ◌+◌, ◌*◌, Bool, List, [], ◌∷◌, ◌++◌, length, take, drop, eqb}
use Rattle.text.specs.Truth.{either, all_of, every, lead, between, first}
use Rattle.text.specs.Quoted.{bytes, byte, is, decimal}
use Rattle.text.specs.Classes.{digit}
use Rattle.answers.specs.Given.{Given, worth, in_order, ◌else◌}
use Rattle.money.specs.declared.Range.{Range}
use Rattle.money.specs.declared.Range.TheVariants.{Item, Total}

-- the digits before the point, and what stands behind them
abbrev pub euros : List ℕ → List ℕ
euros s = take (lead digit s) s

abbrev pub behind_euros : List ℕ → List ℕ
behind_euros s = drop (lead digit s) s

-- `.` and one or two digits
unfoldable pub point_form : List ℕ → Bool
point_form s =
    all_of
    (eqb (first s) (byte ".")
    ∷ between 1 2 (length (drop 1 s))
    ∷ every digit (drop 1 s)
    ∷ [])

unfoldable pub amount_form : List ℕ → Bool
amount_form s =
    all_of
    (between 1 15 (length (euros s))
    ∷ either (is "" (behind_euros s)) (point_form (behind_euros s))
    ∷ [])

-- the fraction as two digits: 3 is 30, and none is 00
abbrev pub as_two_digits : List ℕ → List ℕ
as_two_digits f = take 2 (f ++ bytes "00")

unfoldable pub cents : List ℕ → ℕ
cents s = decimal (euros s) * 100 + decimal (as_two_digits (drop 1 (behind_euros s)))

abbrev pub most : Range → ℕ
most Item = 99999999999
most Total = 99999999999999999

unfoldable pub amount_given : Range → List ℕ → Given
amount_given k s = in_order (amount_form s else 7 ∷ between 1 (most k) (cents s) else 9 ∷ []) (worth (cents s))
