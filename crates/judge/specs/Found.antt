-- What a message is found to be: the verdict, and where the first item of an accepted one begins.
use Rattle.std.specs.Prelude.{ℕ, List, [], Result, Ok, Err}
use Rattle.answers.specs.declared.Refused.{Refused}
use Rattle.answers.specs.Refusals.{refusal_number}
use Rattle.reading.specs.Trace.{Entry, message}
use Rattle.reading.specs.Noted.{Reading, Ended, noted}
use Rattle.reading.specs.Verdict.{Judged, accepted, refused}
use Rattle.reading.specs.Judged.{listed, verdict}
use Rattle.reading.specs.Items.{notes_of}
use Rattle.items.specs.Alone.{first_in}
use Rattle.judge.specs.declared.Finding.{Finding}

pub record Found : Type 0 where
  pub verdict : Judged
  pub first : ℕ

abbrev pub denied : ℕ → ℕ → Found
denied n p = record { verdict = refused n p; first = 0 }

abbrev pub found_as : Result Finding Refused → Found
found_as (Ok f) = record { verdict = accepted f.accepted.count f.accepted.cents; first = f.first }
found_as (Err r) = denied (refusal_number r.why) r.at

abbrev pub found_in : Judged → List Entry → Found
found_in (accepted count cents) es = record { verdict = accepted count cents; first = first_in es }
found_in (refused n p) es = denied n p

abbrev pub found_by : Reading (Ended (List Entry)) → Found
found_by x = found_in (verdict x) (notes_of x)

unfoldable pub found : List ℕ → Found
found m = found_by (noted listed (message m) [])
