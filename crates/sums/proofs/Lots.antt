-- What the code answers, from what the judge noted, is what the message adds to the table.
use mathlib.Core.Path.{◌≡◌, ap, sym, ◌∙◌}
use mathlib.Core.List.{List}
use mathlib.Core.Logic.{inl, inr}
use Prim.Native.Nat.{ℕ, ◌≤◌}
use native.Mathlib.Omega.{arith}
use Rattle.std.specs.Prelude.{Option, Some, None, Result, Ok, Err}
use Rattle.answers.specs.declared.Refusal.{Refusal}
use Rattle.answers.specs.declared.Refused.{Refused}
use Rattle.answers.specs.Refusals.{refusal_number}
use Rattle.answers.specs.Given.{given_worth}
use Rattle.codes.specs.declared.Element.TheVariants.{SeqTp}
use Rattle.codes.specs.Listed.{code_given}
use Rattle.reading.specs.Verdict.{refused}
use Rattle.reading.specs.Judged.{judged}
use Rattle.items.specs.Places.{held_at}
use Rattle.naming.specs.Key.{read_in}
use Rattle.judge.specs.declared.Survey.{Survey}
use Rattle.judge.specs.Found.{denied}
use Rattle.judge.specs.Survey.{Surveyed, from_one, surveyed_as, without, service_number, survey}
use Rattle.judge.specs.Index.{survey_with}
use Rattle.judge.proofs.Index.{Indexed, short, roomy, indexed, in_short, in_room, survey_room}
use Rattle.judge.proofs.Walks.{verdict_surveyed}
use Rattle.records.proofs.Walk.{accepted_is}
use Rattle.keys.proofs.Whole.{noted_is}
use Rattle.sums.specs.declared.Lot.{Lot}
use Rattle.sums.specs.Sums.{sums_of, no_lot, lot_of, lot_with}
use Rattle.sums.specs.Engine.{type_at}
use Rattle.sums.proofs.Laws.{service_row}

-- ---- the type at a place, by what its checker gives
abbrev pub worth_of : Result ℕ Refusal → Option ℕ
worth_of (Ok i) = Some i
worth_of (Err r) = None

module _ (m : List ℕ) (start : ℕ) where
  pub type_given : (v : List ℕ) → v ≡ held_at m start → (r : Result ℕ Refusal) → given_worth r ≡ code_given SeqTp v → worth_of r ≡ type_at m start
  unfolding type_at
  type_given v e (Ok i) h = rw (← e, ← h)
  type_given v e (Err r) h = rw (← e, ← h)

-- ---- what is added to the table
module _ (m : List ℕ) where
  module _ (s : Survey) (e : surveyed_as (Ok s) ≡ survey m) where
    service_is : from_one s.service ≡ service_number (read_in m)
    service_is = ap (λ (x : Surveyed). x.service) (e ∙ noted_is m s.finding.accepted.count s.finding.accepted.cents (accepted_is m s e))

    pub the_lot : (k : ℕ) → k ≡ from_one s.service → (l : List ℕ) → l ≡ sums_of m → record { service = k; sums = l } ≡ lot_of m
    unfolding lot_of
    the_lot k f l g = rw (f, accepted_is m s e, service_is, g)

    -- the service is one of two
    pub service_few : from_one s.service ≤ 2
    unfolding lot_of
    service_few =
        let z : (lot_of m).service ≡ from_one s.service = rw (accepted_is m s e) (sym service_is) in
        elim (service_row m s.finding.accepted.count s.finding.accepted.cents (accepted_is m s e)) [
          | inl h ↦ omega (arith, h.0, z)
          | inr h ↦ omega (arith, h.0, z)
        ]

  -- nothing of one that is refused
  refused_lot : (r : Refused) → surveyed_as (Err r) ≡ survey m → no_lot ≡ lot_of m
  unfolding lot_of
  refused_lot r e =
      let z : refused (refusal_number r.why) r.at ≡ judged m = verdict_surveyed m (surveyed_as (Err r)) e in
      rw (← z)

  -- ---- with an index
  module _ (index : List ℕ) where
    pub no_lot_lem : (r : Refused) → surveyed_as (Err r) ≡ survey_with index m → no_lot ≡ lot_with index m
    no_lot_lem r e = go (indexed index)
      where
        go : Indexed index → no_lot ≡ lot_with index m
        go (short h) = sym (in_short index no_lot (lot_of m) h)
        go (roomy h) = rw (in_room index no_lot (lot_of m) h) (refused_lot r (e ∙ in_room index (without (denied 25 0)) (survey m) h))

    pub lot_with_lem : (s : Survey) → surveyed_as (Ok s) ≡ survey_with index m → (l : Lot) → l ≡ lot_of m → l ≡ lot_with index m
    lot_with_lem s e l g = g ∙ sym (in_room index no_lot (lot_of m) (survey_room index m s e))
