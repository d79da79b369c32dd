-- What the answer means: how many bytes were written, or a refusal's number and place.
use Rattle.std.specs.Prelude.{ℕ, Result, Ok, Err}
use Rattle.answers.specs.declared.Refused.{Refused}
use Rattle.answers.specs.Refusals.{refusal_number}
use Rattle.forms.specs.Written.{Answered, written, refused}

abbrev pub answered : Result ℕ Refused → Answered
answered (Ok n) = written n
answered (Err r) = refused (refusal_number r.why) r.at
