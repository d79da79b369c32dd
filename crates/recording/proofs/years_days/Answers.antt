-- `recording::years_days` meets its contract.
use native.Mathlib.Omega.{arith}
use Rattle.recording.proofs.Days.{years_sum}
use Rattle.recording.proofs.years_days.Goals as goal

pub returns : goal.returns
returns c =
    let n = c.args.n in record { value = omega (arith, years_sum n); upper_bound = omega (arith, years_sum n) }
