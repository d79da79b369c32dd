-- The first eight bytes of a BIC, in either form.
use Rattle.std.specs.Prelude.{ℕ, Bool, true, false, ◌&&◌, eqb, leb}
use Rattle.text.specs.Truth.{pick}
use Rattle.text.specs.Quoted.{byte}
use Rattle.text.specs.Classes.{capital_or_digit}
use Rattle.profile.specs.declared.Simple.{Simple}
use Rattle.profile.specs.declared.Simple.TheVariants.{Bic, Bicfi}

-- where a capital is due, it is a capital or digit from A on; the seventh is from 2 on, and any other from 0 on
abbrev pub lowest : Bool → ℕ → ℕ
lowest true i = pick (leb 4 i && leb i 5) (byte "A") (byte "0")
lowest false i = pick (leb i 5) (byte "A") (pick (eqb i 6) (byte "2") (byte "0"))

abbrev pub in_bic : Bool → ℕ → ℕ → Bool
in_bic wider i c = capital_or_digit c && leb (lowest wider i) c

-- the kind, by the form
abbrev pub bic_kind : Bool → Simple
bic_kind true = Bicfi
bic_kind false = Bic
