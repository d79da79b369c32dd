-- `recording::days_before` meets its contract.
use native.Mathlib.Omega.{arith}
use mathlib.Core.Path.{◌≡◌}
use mathlib.Core.List.{List}
use Prim.Native.Nat.{ℕ}
use Rattle.text.specs.Truth.{part}
use Rattle.text.specs.Quoted.{decimal}
use Rattle.recording.proofs.Stamps.{long_date, year_in, month_in, day_in, Halves, year_is, days_are}
use Rattle.recording.proofs.days_before.Goals as goal

halves : {s : List ℕ} {a b m d : ℕ} → a ≡ decimal (part 0 2 s) → b ≡ decimal (part 2 2 s) → m ≡ decimal (part 5 2 s) → d ≡ decimal (part 8 2 s) → Halves s a b m d
halves p q u v = record { before = p; behind = q; month_read = u; day_read = v }

pub two_at-requires : goal.two_at-requires
two_at-requires c = omega (arith, long_date _ c.requires)

pub two_at-requires-2 : goal.two_at-requires-2
two_at-requires-2 c = omega (arith, long_date _ c.requires)

pub two_at-m-requires : goal.two_at-m-requires
two_at-m-requires c = omega (arith, long_date _ c.requires)

pub two_at-d-requires : goal.two_at-d-requires
two_at-d-requires c = omega (arith, long_date _ c.requires)

pub overflow_sub-y : goal.overflow_sub-y
overflow_sub-y c = omega (arith, year_in _ c.requires, year_is _ c.requires (halves c.two_at.ensures.value c.two_at-2.ensures.value c.two_at-m.ensures.value c.two_at-d.ensures.value))

pub months_days-requires : goal.months_days-requires
months_days-requires c =
    let e = c.requires in
    let y = year_in _ e in
    let m = month_in _ e in
    let l = halves c.two_at.ensures.value c.two_at-2.ensures.value c.two_at-m.ensures.value c.two_at-d.ensures.value in
    let k = year_is _ e l in
    (omega arith, omega arith, omega arith, omega arith)

pub overflow_sub-result : goal.overflow_sub-result
overflow_sub-result c = omega (arith, day_in _ c.requires)

pub returns : goal.returns
returns c =
    let l = halves c.two_at.ensures.value c.two_at-2.ensures.value c.two_at-m.ensures.value c.two_at-d.ensures.value in
    record { value = days_are _ c.requires l _ _ c.years_days.ensures.value c.months_days.ensures.value; upper_bound = omega arith }
