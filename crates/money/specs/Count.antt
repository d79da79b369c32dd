-- "Count: 1 to 15 digits."
use Rattle.std.specs.Prelude.{ℕ, Bool, List, [], ◌∷◌, length}
use Rattle.text.specs.Truth.{all_of, every, between}
use Rattle.text.specs.Quoted.{decimal}
use Rattle.text.specs.Classes.{digit}
use Rattle.answers.specs.Given.{Given, worth, in_order, ◌else◌}

unfoldable pub count_form : List ℕ → Bool
count_form s =
    all_of
    (between 1 15 (length s)
    ∷ every digit s
    ∷ [])

unfoldable pub count_given : List ℕ → Given
count_given s = in_order (count_form s else 7 ∷ []) (worth (decimal s))
