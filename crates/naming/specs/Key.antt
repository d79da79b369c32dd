-- "A bulk's key, after document 001, is service (its items' LclInstrm), MsgId, instructing BIC and settlement date."
use Rattle.std.specs.Prelude.{ℕ, List, [], ◌++◌, replicate}
use Rattle.text.specs.Quoted.{byte}
use Rattle.codes.specs.declared.Element as code
use Rattle.profile.specs.declared.Kind.TheVariants.{Code}
use Rattle.profile.specs.declared.Field.TheVariants.{MsgId, InstgBic, IntrBkSttlmDt}
use Rattle.reading.specs.Trace.{What, message}
use Rattle.reading.specs.Noted.{noted}
use Rattle.reading.specs.Verdict.{Judged, accepted, refused}
use Rattle.reading.specs.Rules.{values_of, first_of}
use Rattle.reading.specs.Judged.{whats, listed, judged}
use Rattle.reading.specs.Items.{notes_of}
use Rattle.postings.specs.Record.{padded, value_for}

-- the four as bytes of one length: 4, 35, 11 and 10, each value and spaces behind it
abbrev pub key_length : ℕ
key_length = 60

unfoldable pub key_with : List ℕ → List ℕ → List ℕ → List ℕ → List ℕ
key_with service id bic date = padded 4 service ++ (padded 35 id ++ (padded 11 bic ++ padded 10 date))

-- the service is the first LclInstrm that stands there (all the others are the same)
abbrev pub service_of : List What → List ℕ
service_of ws = first_of [] (values_of (Code code.TheVariants.LclInstrm) ws)

abbrev pub key_of : List What → List ℕ
key_of ws = key_with (service_of ws) (value_for ws MsgId) (value_for ws InstgBic) (value_for ws IntrBkSttlmDt)

-- what the judge says of a message, and its key: that of an accepted bulk, and spaces where there is none
pub record Keyed : Type 0 where
  pub verdict : Judged
  pub key : List ℕ

abbrev pub key_if : Judged → List What → List ℕ
key_if (accepted count cents) ws = key_of ws
key_if (refused n p) ws = replicate key_length (byte " ")

-- what is read in a message
abbrev pub read_in : List ℕ → List What
read_in m = whats (notes_of (noted listed (message m) []))

unfoldable pub keyed : List ℕ → Keyed
keyed m = record { verdict = judged m; key = key_if (judged m) (read_in m) }
