-- A message that was judged is entered under a record's key.
use mathlib.Core.Path.{◌≡◌, sym, ap, ◌∙◌}
use mathlib.Core.Bool.{true, false}
use mathlib.Core.List.{List, [], ◌∷◌, ◌++◌}
use Prim.Native.Nat.{ℕ, suc, ◌+◌}
use native.Mathlib.Numerals.{add-one}
use native.Mathlib.Omega.{arith}
use borrow.Author.Tests.{le-leb}
use lib.ListN.{take}
use Rattle.std.proofs.Common.{Some, Ok, Err}
use Rattle.text.specs.Quoted.{alike}
use Rattle.answers.specs.declared.Refused.{Refused}
use Rattle.answers.specs.Refusals.{refusal_number}
use Rattle.money.specs.declared.Range.TheVariants.{Total}
use Rattle.money.specs.Amount.{most}
use Rattle.reading.specs.Verdict.{Judged, accepted}
use Rattle.reading.specs.Judged.{judged}
use Rattle.items.proofs.Sums.{bulk_most}
use Rattle.naming.specs.Key.{Keyed as KeyedBulk, keyed}
use Rattle.keys.specs.declared.Keyed.{Keyed}
use Rattle.keys.specs.Engine.{keyed_as}
use Rattle.recording.specs.declared.Line.{Line}
use Rattle.recording.specs.Record.{line_as}
use Rattle.sums.specs.declared.Lot.{Lot}
use Rattle.sums.specs.Sums.{lot_of}
use Rattle.book.specs.declared.Entry.{Entry}
use Rattle.book.specs.Calls.{bulk_of, enter}
use Rattle.book.specs.Stored.{kept}
use Rattle.book.specs.Code.{in_range, lent}
use Rattle.play.specs.declared.Run.{Run}
use Rattle.play.specs.Play.{Step, refuses, carried_on, enters_if, enters}
use Rattle.play.specs.Code.{run_as}

-- a record's line, a run, and the entries beside it
module _ (line : Line) (run : Run) (l : List Entry) (m : List ℕ) where
  abbrev pub EntersIt : Step → Type 0
  EntersIt s = s ≡ enters m (line_as (Some line)) (run_as l run)

  pub unfit : (r : Refused) → keyed_as (Err r) ≡ keyed m → EntersIt (refuses (refusal_number r.why))
  unfolding enters
  unfit r is = rw (← ap (λ (x : KeyedBulk). x.verdict) is)

  module _ (k : Keyed) (is : keyed_as (Ok k) ≡ keyed m) where
    verdict_is : accepted k.accepted.count k.accepted.cents ≡ (keyed m).verdict
    verdict_is = ap (λ (x : KeyedBulk). x.verdict) is

    key_is : k.key ≡ (keyed m).key
    key_is = ap (λ (x : KeyedBulk). x.key) is

    pub other_key : alike k.key line.key ≡ false → EntersIt (refuses 28)
    unfolding enters
    other_key f = rw (← verdict_is, ← key_is, f)

    judged-is : judged m ≡ accepted k.accepted.count k.accepted.cents
    unfolding keyed
    judged-is = sym verdict_is

    bulk_is : in_range (record { key = k.key; cents = k.accepted.cents }) ≡ bulk_of (keyed m)
    bulk_is = rw (le-leb k.accepted.cents (most Total) (omega (arith, bulk_most m k.accepted.count k.accepted.cents judged-is)), ← is)

    pub same_key : alike k.key line.key ≡ true → (lot : Lot) → lot ≡ lot_of m → (s : Step)
        → s ≡ carried_on (kept (enter (in_range (record { key = k.key; cents = k.accepted.cents }))) (lent l run.numbers)) (take run.numbers.opened run.lots ++ (lot ∷ [])) (run.taken + 1) line.instant
        → EntersIt s
    unfolding enters
    same_key f lot g s w = go (keyed m).verdict (sym verdict_is)
      where
        same : alike (keyed m).key line.key ≡ true
        same = ap (λ (x : List ℕ). alike x line.key) (sym key_is) ∙ f

        it : s ≡ carried_on (kept (enter (bulk_of (keyed m))) (lent l run.numbers)) (take run.numbers.opened run.lots ++ (lot_of m ∷ [])) (suc run.taken) line.instant
        it = rw (← bulk_is, ← g, ← add-one run.taken) w

        go : (v : Judged) → v ≡ accepted k.accepted.count k.accepted.cents → s ≡ enters_if v m (line_as (Some line)) (run_as l run)
        go v y = rw (y, same) it
