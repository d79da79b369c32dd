-- What each function of the keys writes, by what the judge noted.
use Rattle.std.specs.Prelude.{ℕ, zero, suc, List, [], get_or, replicate, Result, Ok, Err}
use Rattle.answers.specs.declared.Refused.{Refused}
use Rattle.answers.specs.Refusals.{refusal_number}
use Rattle.text.specs.Quoted.{bytes, byte}
use Rattle.tags.specs.Values.{value_at}
use Rattle.profile.specs.declared.Field.{Field}
use Rattle.profile.specs.declared.Field.TheVariants.{MsgId, InstgBic, IntrBkSttlmDt}
use Rattle.profile.specs.Fields.{field_number}
use Rattle.reading.specs.Verdict.{Judged, accepted, refused}
use Rattle.naming.specs.Key.{key_length, Keyed as KeyedBulk, key_with}
use Rattle.judge.specs.Survey.{Surveyed}
use Rattle.keys.specs.declared.Keyed.{Keyed}
use Rattle.keys.specs.Indexed.{unkeyed}

abbrev pub keyed_as : Result Keyed Refused → KeyedBulk
keyed_as (Ok k) = record { verdict = accepted k.accepted.count k.accepted.cents; key = k.key }
keyed_as (Err r) = unkeyed (refusal_number r.why) r.at

-- the service, by its number: LclInstrm's place in its list, counted from 1
abbrev pub service_text : ℕ → List ℕ
service_text zero = []
service_text (suc zero) = bytes "CORE"
service_text (suc (suc zero)) = bytes "B2B"
service_text (suc (suc (suc n))) = []

-- the value of a field, where its start was noted
abbrev pub field_at : List ℕ → List ℕ → Field → List ℕ
field_at m starts f = value_at m (get_or starts (field_number f) 0)

unfoldable pub key_from : List ℕ → ℕ → List ℕ → List ℕ
key_from m service starts = key_with (service_text service) (field_at m starts MsgId) (field_at m starts InstgBic) (field_at m starts IntrBkSttlmDt)

-- of what was found and noted: the verdict, and the key of an accepted message
abbrev pub made_if : Judged → List ℕ → List ℕ
made_if (accepted count cents) k = k
made_if (refused n p) k = replicate key_length (byte " ")

unfoldable pub keyed_from : List ℕ → Surveyed → KeyedBulk
keyed_from m s = record { verdict = s.found.verdict; key = made_if s.found.verdict (key_from m s.service s.places) }
