-- The call that enters a message, from its key and its verdict.
use mathlib.Core.Path.{◌≡◌, ap, sym, ◌∙◌}
use mathlib.Core.List.{List}
use Prim.Native.Nat.{ℕ, ◌≤◌}
use native.Mathlib.Omega.{arith}
use borrow.Author.Tests.{le-leb}
use Rattle.std.specs.Prelude.{Ok, Err}
use Rattle.answers.specs.declared.Refused.{Refused}
use Rattle.reading.specs.Verdict.{accepted, refused}
use Rattle.reading.specs.Judged.{judged}
use Rattle.items.proofs.Sums.{bulk_most}
use Rattle.naming.specs.Key.{Keyed as KeyedBulk, keyed}
use Rattle.judge.specs.Index.{or_short}
use Rattle.judge.proofs.Index.{made_of, in_room, accepted_room}
use Rattle.money.specs.declared.Range.TheVariants.{Total}
use Rattle.money.specs.Amount.{most}
use Rattle.book.specs.declared.Call.TheVariants.{Enter, Unfit}
use Rattle.book.specs.Calls.{bulk_of, enter}
use Rattle.book.specs.Code.{call_as}
use Rattle.keys.specs.declared.Keyed.{Keyed}
use Rattle.keys.specs.Engine.{keyed_as}
use Rattle.keys.specs.Indexed.{unkeyed, keyed_with}

module _ (index m : List ℕ) where
  pub unfit_call : (r : Refused) → keyed_as (Err r) ≡ keyed_with index m → call_as (Unfit r) ≡ enter (bulk_of (keyed_with index m))
  unfit_call r e = rw (← e)

  -- no accepted bulk has more cents than a header can say
  in_range_lem : (k : Keyed) → keyed_as (Ok k) ≡ keyed_with index m → k.accepted.cents ≤ most Total
  unfolding keyed
  in_range_lem k e =
      let j : accepted k.accepted.count k.accepted.cents ≡ or_short index (refused 25 0) (judged m) =
      ap (λ (x : KeyedBulk). x.verdict) e ∙ made_of (λ (x : KeyedBulk). x.verdict) index (unkeyed 25 0) (keyed m) in
      let r = accepted_room index k.accepted (judged m) j in
      let z : judged m ≡ accepted k.accepted.count k.accepted.cents = sym (j ∙ in_room index (refused 25 0) (judged m) r) in
      omega (arith, bulk_most m k.accepted.count k.accepted.cents z)

  pub fit_call : (k : Keyed) → keyed_as (Ok k) ≡ keyed_with index m → call_as (Enter (record { key = k.key; cents = k.accepted.cents })) ≡ enter (bulk_of (keyed_with index m))
  fit_call k e = rw (← e, le-leb k.accepted.cents (most Total) (in_range_lem k e))
