-- "The cases marked P go into a single table under a single statement": the kind of value, its text, and what is given.
-- (Of request 1: a German IBAN one shorter and one longer, with the right check digits and with wrong ones, and a country that is not listed.)
use Rattle.std.specs.Prelude.{ℕ, ◌≡◌, refl, List, [], ◌∷◌, map}
use Prim.Native.String.{String}
use Rattle.text.specs.Truth.{all_of}
use Rattle.text.specs.Quoted.{bytes, among, decimal}
use Rattle.text.specs.Classes.{digit, capital, small, capital_or_digit, letter_or_digit, reference_set}
use Rattle.answers.specs.Given.{Given, yes, worth, refused}
use Rattle.check97.specs.Check.{spell, leaves_one, in_range, iban_checked, identifier_checked}
use Rattle.money.specs.declared.Range.TheVariants.{Item}
use Rattle.money.specs.Amount.{point_form, amount_form, cents, amount_given}
use Rattle.calendar.specs.Pattern.{letter, stands, written}
use Rattle.calendar.specs.Date.{leap, days_in, real_day, date_form, date_given}
use Rattle.accounts.specs.Head.{head}
use Rattle.accounts.specs.Iban.{iban_form, iban_length, iban_given}
use Rattle.accounts.specs.Lengths.{lengths, length_of}
use Rattle.accounts.specs.Identifier.{identifier_form, identifier_given}

pub data Kind : Type 0 where
  item iban identifier date : Kind

pub answer : Kind → List ℕ → Given
answer item s = amount_given Item s
answer iban s = iban_given s
answer identifier s = identifier_given s
answer date s = date_given s

pub record Case : Type 0 where
  pub kind : Kind
  pub text : String
  pub answered : Given

infix 50 ◌of◌is◌
abbrev ◌of◌is◌ : Kind → String → Given → Case
◌of◌is◌ k t g = record { kind = k; text = t; answered = g }

pub cases : List Case
cases =
    (item of "0.01" is worth 1)
    ∷ (item of "0.00" is refused 9)
    ∷ (item of "5.3" is worth 530)
    ∷ (item of "5." is refused 7)
    ∷ (item of "0005.00" is worth 500)
    ∷ (item of "999999999.99" is worth 99999999999)
    ∷ (item of "1000000000" is refused 9)
    ∷ (iban of "DE87200500001234567890" is yes)
    ∷ (iban of "DE87200500001234567891" is refused 8)
    ∷ (iban of "DE1220050000123456789" is refused 19)
    ∷ (iban of "DE342005000012345678901" is refused 19)
    ∷ (iban of "DE872005000012345678901" is refused 19)
    ∷ (iban of "XX44200500001234567890" is refused 19)
    ∷ (identifier of "DE98ZZZ09999999999" is yes)
    ∷ (identifier of "DE98ABC09999999999" is yes)
    ∷ (identifier of "DE00ZZZ09999999999" is refused 8)
    ∷ (date of "2000-02-29" is yes)
    ∷ (date of "1900-02-29" is refused 7)
    ∷ []

pub as_listed : map (λ (c : Case). answer c.kind (bytes c.text)) cases ≡ map (λ (c : Case). c.answered) cases
unfolding cases answer all_of among decimal digit capital small capital_or_digit letter_or_digit reference_set spell leaves_one in_range iban_checked identifier_checked point_form amount_form cents amount_given letter stands written leap days_in real_day date_form date_given head iban_form lengths length_of iban_length iban_given identifier_form identifier_given
as_listed = refl
