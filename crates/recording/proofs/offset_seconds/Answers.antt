-- `recording::offset_seconds` meets its contract.
use native.Mathlib.Omega.{arith}
use Rattle.recording.specs.Instant.{offset_seconds}
use Rattle.recording.proofs.Stamps.{long_offset, offset_most}
use Rattle.recording.proofs.offset_seconds.Goals as goal

pub two_at-requires : goal.two_at-requires
two_at-requires c = omega (arith, long_offset _ c.requires)

pub two_at-requires-2 : goal.two_at-requires-2
two_at-requires-2 c = omega (arith, long_offset _ c.requires)

pub returns : goal.returns
unfolding offset_seconds
returns c =
    record { value = rw (c.two_at.ensures.value, c.two_at-2.ensures.value); upper_bound = omega (arith, offset_most _ c.requires) }
