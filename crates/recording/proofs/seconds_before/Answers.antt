-- `recording::seconds_before` meets its contract.
use native.Mathlib.Omega.{arith}
use Rattle.recording.specs.Instant.{seconds_before}
use Rattle.recording.proofs.seconds_before.Goals as goal

pub returns : goal.returns
unfolding seconds_before
returns c = record { value = rw (c.two_at.ensures.value, c.two_at-2.ensures.value, c.two_at-3.ensures.value); upper_bound = omega arith }
