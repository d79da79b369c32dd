-- Times of request 13 in one table under one statement: a text, and its instant where it is a time of a record; and whole records.
use Rattle.std.specs.Prelude.{ℕ, ◌+◌, ◌≡◌, refl, true, false, List, [], ◌∷◌, map}
use Prim.Native.String.{String}
use Rattle.std.proofs.Math.Option.{Option, none, some}
use Rattle.text.specs.Truth.{pick, all_of}
use Rattle.text.specs.Quoted.{bytes, among, decimal}
use Rattle.text.specs.Classes.{digit, capital, capital_or_digit, reference_set}
use Rattle.words.specs.Reference.{slash_rule, reference_form, reference_given}
use Rattle.codes.specs.Listed.{code_given}
use Rattle.calendar.specs.Pattern.{letter, stands, written}
use Rattle.calendar.specs.Date.{leap, days_in, real_day, date_form, date_given}
use Rattle.calendar.specs.Time.{clock_form, offset_form, zone_form, end_form, time_form, time_given}
use Rattle.accounts.specs.Bic.{bicfi_form, bicfi_given}
use Rattle.postings.specs.Record.{padded}
use Rattle.naming.specs.Key.{key_with}
use Rattle.recording.specs.Instant.{years_days, months_days, days_before, seconds_before, offset_seconds, as_written, instant}
use Rattle.recording.specs.Record.{unpadded, stamp_form, names_form, record_form, Line, no_line, line_of}

pub record Case : Type 0 where
  pub text : String
  pub read : Option ℕ

infix 50 ◌at◌
abbrev ◌at◌ : String → ℕ → Case
◌at◌ t n = record { text = t; read = some n }

abbrev no_time : String → Case
no_time t = record { text = t; read = none }

pub instant_in : List ℕ → Option ℕ
instant_in s = pick (stamp_form s) (some (instant s)) none

-- the hour that comes twice when summer time ends; the first and the last instant; no offset; a fraction; 14:00 is the most
pub cases : List Case
cases =
    ("2026-10-25T02:30:00+02:00" at 63928535400)
    ∷ ("2026-10-25T02:30:00+01:00" at 63928539000)
    ∷ ("0001-01-01T00:00:00+14:00" at 0)
    ∷ ("9999-12-31T23:59:59-14:00" at 315537998399)
    ∷ no_time "2026-10-25T02:30:00Z"
    ∷ no_time "2026-10-25T02:30:00Z     "
    ∷ no_time "2026-10-25T02:30:00"
    ∷ no_time "2026-10-25T02:30:00      "
    ∷ no_time "2026-10-25T02:30:00.000Z "
    ∷ no_time "2026-10-25T02:30:00.000+01:00"
    ∷ no_time "2026-10-25T02:30:00+14:01"
    ∷ []

pub as_listed : map (λ (c : Case). instant_in (bytes c.text)) cases ≡ map (λ (c : Case). c.read) cases
unfolding cases instant_in all_of among decimal digit letter stands written leap days_in real_day date_form clock_form offset_form zone_form end_form time_form time_given
    years_days months_days days_before seconds_before offset_seconds as_written instant stamp_form
as_listed = refl

-- the two of that hour: an hour lies between their instants, though both are written 02:30
pub one_hour_later : instant (bytes "2026-10-25T02:30:00+01:00") ≡ instant (bytes "2026-10-25T02:30:00+02:00") + 3600
unfolding decimal leap days_in years_days months_days days_before seconds_before offset_seconds as_written instant
one_hour_later = refl

-- ---- whole records: entered, with a BIC of the wider form, and withdrawn; and what is none: a time without offset, another letter, a space before a value, no MsgId, no LF
pub record Example : Type 0 where
  pub text : String
  pub line : Line

infix 50 ◌says◌
abbrev ◌says◌ : String → Line → Example
◌says◌ t l = record { text = t; line = l }

abbrev entry : String → ℕ → Line
entry k n = record { fits = true; entering = true; key = bytes k; instant = n }

abbrev withdrawal : String → ℕ → Line
withdrawal k n = record { fits = true; entering = false; key = bytes k; instant = n }

pub examples : List Example
examples =
    ("2026-10-25T02:30:00+02:00ECORE1234DEFF   2026-10-26MSG-1       \n" says entry "COREMSG-1                              1234DEFF   2026-10-26" 63928535400)
    ∷ ("2026-10-25T02:30:00+01:00WB2B BANKDEFFXXX2026-10-26MESSAGE/0012\n" says withdrawal "B2B MESSAGE/0012                       BANKDEFFXXX2026-10-26" 63928539000)
    ∷ ("2026-10-25T02:30:00Z     ECORE1234DEFF   2026-10-26MSG-1       \n" says no_line)
    ∷ ("2026-10-25T02:30:00+02:00DCORE1234DEFF   2026-10-26MSG-1       \n" says no_line)
    ∷ ("2026-10-25T02:30:00+02:00E B2B1234DEFF   2026-10-26MSG-1       \n" says no_line)
    ∷ ("2026-10-25T02:30:00+02:00ECORE1234DEFF   2026-10-26 MSG-1      \n" says no_line)
    ∷ ("2026-10-25T02:30:00+02:00ECORE1234DEFF   2026-10-26            \n" says no_line)
    ∷ ("2026-10-25T02:30:00+02:00ECORE1234DEFF   2026-10-26MSG-1        " says no_line)
    ∷ ("2026-10-25T02:30:00+02:00ECORE1234DEFF   2026-10-26MSG-1       " says no_line)
    ∷ []

pub examples_listed : map (λ (e : Example). line_of (bytes e.text)) examples ≡ map (λ (e : Example). e.line) examples
unfolding examples all_of among decimal digit capital capital_or_digit reference_set letter stands written leap days_in real_day date_form date_given clock_form offset_form zone_form end_form time_form time_given
    slash_rule reference_form reference_given code_given bicfi_form bicfi_given padded key_with
    years_days months_days days_before seconds_before offset_seconds as_written instant unpadded stamp_form names_form record_form line_of
examples_listed = refl
