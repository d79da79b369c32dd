-- One record of a recording: "64-byte records, no header. Bytes 0 to 24 hold a time without fraction, always with a written offset; byte 25 `E` or `W`;
-- 26 to 29 service and 30 to 40 BIC, space-padded; 41 to 50 settlement date; 51 to 62 MsgId, at most 12 bytes, space-padded; 63 LF."
use Rattle.std.specs.Prelude.{ℕ, Bool, true, false, List, [], ◌∷◌, length, drop, replicate, eqb, Option, Some, None}
use Rattle.text.specs.Truth.{both, pick, all_of, at, part}
use Rattle.text.specs.Quoted.{byte, among}
use Rattle.answers.specs.Given.{Given, number_of}
use Rattle.words.specs.Collapsed.{space, up_to_last}
use Rattle.words.specs.Reference.{reference_given}
use Rattle.codes.specs.declared.Element.TheVariants.{LclInstrm}
use Rattle.codes.specs.Listed.{code_given}
use Rattle.calendar.specs.Date.{date_given}
use Rattle.calendar.specs.Time.{offset_form, time_given}
use Rattle.accounts.specs.Bic.{bicfi_given}
use Rattle.naming.specs.Key.{key_length, key_with}
use Rattle.recording.specs.declared.Side.{Side}
use Rattle.recording.specs.declared.Side.TheVariants.{Entry, Withdrawal}
use Rattle.recording.specs.declared.Line as code
use Rattle.recording.specs.Instant.{instant}

abbrev pub line_length : ℕ
line_length = 64

-- "space-padded": a field's value, without the spaces behind it
unfoldable pub unpadded : List ℕ → List ℕ
unpadded f = up_to_last space f

abbrev pub time_in : List ℕ → List ℕ
time_in r = part 0 25 r

abbrev pub service_in : List ℕ → List ℕ
service_in r = unpadded (part 26 4 r)

abbrev pub bic_in : List ℕ → List ℕ
bic_in r = unpadded (part 30 11 r)

abbrev pub date_in : List ℕ → List ℕ
date_in r = part 41 10 r

abbrev pub id_in : List ℕ → List ℕ
id_in r = unpadded (part 51 12 r)

-- a value is of its kind: what its checker gives is no refusal
abbrev pub taken : Given → Bool
taken g = eqb (number_of g) 0

-- "a time without fraction, always with a written offset": behind the seconds stands an offset
unfoldable pub stamp_form : List ℕ → Bool
stamp_form s = both (taken (time_given s)) (offset_form (drop 19 s))

-- the four that name a bulk are of their kinds, "BIC the wider form"
unfoldable pub names_form : List ℕ → Bool
names_form r =
    all_of
    (taken (code_given LclInstrm (service_in r))
    ∷ taken (bicfi_given (bic_in r))
    ∷ taken (date_given (date_in r))
    ∷ taken (reference_given (id_in r))
    ∷ [])

-- "26 a field not of its kind [..] or a wrong last length": else these bytes are a record
unfoldable pub record_form : List ℕ → Bool
record_form r =
    all_of
    (eqb (length r) line_length
    ∷ stamp_form (time_in r)
    ∷ among "E W" (at r 25)
    ∷ names_form r
    ∷ eqb (at r 63) (byte "\n")
    ∷ [])

-- what a record says: that it fits, whether it is an entry or a withdrawal, of which key, at which instant
pub record Line : Type 0 where
  pub fits : Bool
  pub entering : Bool
  pub key : List ℕ
  pub instant : ℕ

abbrev pub key_in : List ℕ → List ℕ
key_in r = key_with (service_in r) (id_in r) (bic_in r) (date_in r)

abbrev pub said : List ℕ → Line
said r = record { fits = true; entering = eqb (at r 25) (byte "E"); key = key_in r; instant = instant (time_in r) }

-- of bytes that are no record only this is said
abbrev pub no_line : Line
no_line = record { fits = false; entering = false; key = replicate key_length (byte " "); instant = 0 }

unfoldable pub line_of : List ℕ → Line
line_of r = pick (record_form r) (said r) no_line

-- the paper's line of the code's
abbrev pub enters : Side → Bool
enters Entry = true
enters Withdrawal = false

abbrev pub line_as : Option code.Line → Line
line_as (Some l) = record { fits = true; entering = enters l.side; key = l.key; instant = l.instant }
line_as None = no_line
