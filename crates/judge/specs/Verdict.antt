-- What the judge's answers mean: this paper's number and values for each case.
use Rattle.std.specs.Prelude.{ℕ, List, Result, Ok, Err}
use Rattle.answers.specs.declared.Refused.{Refused}
use Rattle.answers.specs.Refusals.{refusal_number}
use Rattle.profile.specs.declared.Version.{Version}
use Rattle.profile.specs.declared.Version.TheVariants.{V02}
use Rattle.reading.specs.Trace as reading
use Rattle.reading.specs.Verdict.{Judged, accepted, refused, Located, lies, not_there}
use Rattle.judge.specs.declared.Accepted.{Accepted}
use Rattle.judge.specs.declared.Extent.{Extent}
use Rattle.judge.specs.declared.Opened.{Opened}

abbrev pub meant : Result Accepted Refused → Judged
meant (Ok a) = accepted a.count a.cents
meant (Err r) = refused (refusal_number r.why) r.at

abbrev pub located : Result Extent Refused → Located
located (Ok x) = lies x.from x.to
located (Err r) = not_there (refusal_number r.why) r.at

abbrev pub opened_as : Result Opened Refused → reading.Opened
opened_as (Ok o) = reading.from o.version o.at
opened_as (Err r) = reading.faulty (refusal_number r.why) r.at

-- the version that a message's root names; the first one where it names none
abbrev pub version_in : reading.Opened → Version
version_in (reading.from v p) = v
version_in (reading.faulty number place) = V02

unfoldable pub version_of : List ℕ → Version
version_of m = version_in (reading.opened m)
