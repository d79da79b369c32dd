-- What a message is found to be, and of an accepted one its service and where the last value of each field begins.
use Rattle.std.specs.Prelude.{ℕ, suc, List, [], ◌∷◌, replicate, Option, Some, None, Result, Ok, Err}
use Rattle.answers.specs.declared.Refused.{Refused}
use Rattle.answers.specs.Refusals.{refusal_number}
use Rattle.answers.specs.Given.{Given, yes, worth, refused as no}
use Rattle.codes.specs.declared.Element.TheVariants.{LclInstrm}
use Rattle.codes.specs.Listed.{code_given}
use Rattle.profile.specs.declared.Kind.TheVariants.{Code}
use Rattle.profile.specs.declared.Field.{Field}
use Rattle.profile.specs.Listed.{fields, many_fields}
use Rattle.reading.specs.Trace.{What, Entry, message}
use Rattle.reading.specs.Noted.{Reading, Ended, noted}
use Rattle.reading.specs.Verdict.{Judged, accepted, refused}
use Rattle.reading.specs.Rules.{values_of, first_of}
use Rattle.reading.specs.Judged.{whats, listed}
use Rattle.reading.specs.Items.{notes_of}
use Rattle.items.specs.Places.{field_place}
use Rattle.judge.specs.declared.Survey.{Survey}
use Rattle.judge.specs.Found.{Found, denied, found_as, found_by}

pub record Surveyed : Type 0 where
  pub found : Found
  pub service : ℕ
  pub places : List ℕ

-- the service: the first LclInstrm's place in its list, counted from 1
abbrev pub place_from_one : Given → ℕ
place_from_one yes = 0
place_from_one (worth i) = suc i
place_from_one (no n) = 0

unfoldable pub service_number : List What → ℕ
service_number ws = place_from_one (code_given LclInstrm (first_of [] (values_of (Code LclInstrm) ws)))

-- where the last value of each of some fields begins
abbrev pub places_of : List Field → List Entry → List ℕ
places_of [] es = []
places_of (f ∷ l) es = field_place f es ∷ places_of l es

unfoldable pub places : List Entry → List ℕ
places es = places_of fields es

-- of a message that is refused, nothing
abbrev pub without : Found → Surveyed
without f = record { found = f; service = 0; places = replicate many_fields 0 }

-- a place in a list, counted from 1: 0 where there is none
abbrev pub from_one : Option ℕ → ℕ
from_one (Some i) = suc i
from_one None = 0

abbrev pub surveyed_as : Result Survey Refused → Surveyed
surveyed_as (Ok s) = record { found = found_as (Ok s.finding); service = from_one s.service; places = s.starts }
surveyed_as (Err r) = without (denied (refusal_number r.why) r.at)

abbrev pub surveyed_if : Judged → Found → ℕ → List ℕ → Surveyed
surveyed_if (accepted count cents) f s l = record { found = f; service = s; places = l }
surveyed_if (refused n p) f s l = without f

abbrev pub surveyed : Found → ℕ → List ℕ → Surveyed
surveyed f s l = surveyed_if f.verdict f s l

abbrev pub survey_by : Reading (Ended (List Entry)) → Surveyed
survey_by x = surveyed (found_by x) (service_number (whats (notes_of x))) (places (notes_of x))

unfoldable pub survey : List ℕ → Surveyed
survey m = survey_by (noted listed (message m) [])
