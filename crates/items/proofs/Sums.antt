-- The running sum of any message, read so far, is at most 10,000 times 99,999,999,999: the law of the sum that never overflows.
use mathlib.Core.Path.{◌≡◌, refl, ap, ◌∙◌}
use mathlib.Core.Bool.{Bool, true, false}
use mathlib.Core.List.{List, [], ◌∷◌, ◌++◌}
use Prim.Native.Nat.{ℕ, ◌+◌, ◌*◌, ◌≤◌}
use native.Mathlib.Omega.{arith}
use lib.Dec.{ltb}
use lib.ListN.{length}
use Rattle.text.specs.Truth.{pick}
use Rattle.text.proofs.Truths.{never}
use Rattle.answers.specs.Given.{yes, in_order}
use Rattle.codes.specs.declared.Element.TheVariants.{SttlmMtd, SvcLvl, LclInstrm, SeqTp, ChrgBr, Prtry}
use Rattle.tags.specs.Tags.{skipped}
use Rattle.money.specs.declared.Range.TheVariants.{Item as an_item, Total as the_total}
use Rattle.money.specs.Amount.{most}
use Rattle.profile.specs.declared.Kind.{Kind}
use Rattle.profile.specs.declared.Kind.TheVariants.{Plain, Count, Total, Amount, Code}
use Rattle.profile.specs.Limits.{most_bytes}
use Rattle.profile.specs.Kinds.{same_kind}
use Rattle.profile.specs.Profile.{profile}
use Rattle.kinds.specs.Given.{kind_given}
use Rattle.reading.specs.Trace.{What, item_begins, item_ends, there, absent, value, Entry, Trace, met, up_to, fault, trace, Opened, from, faulty, opened, behind_all, inside, message}
use Rattle.reading.specs.Noted.{Reading, on, stop, Ended, noted}
use Rattle.reading.specs.Rules.{begun, items_in, of_kind, sum_of, cents_in, rules, weighed}
use Rattle.reading.specs.Verdict.{accepted}
use Rattle.reading.specs.Judged.{whats, listed, verdict, judged}
use Rattle.reading.proofs.Lists.{whats_append, items_append}
use Rattle.reading.proofs.Flat.{through, taken}
use Rattle.documents.specs.Holds.{Passes}
use Rattle.documents.proofs.Lists.{Kept, kept_none, kept_more, both_pass, sums_more, on_listed, compared_is, in_range_lem}
use Rattle.items.specs.Sums.{most_sum, SoFar, here, past, an_amount}
use Rattle.items.proofs.Room.{profile_fair, profile_none, paid, Leaves, within, message_leaves}

is_amount_lem : (k : Kind) → same_kind k Amount ≡ true → k ≡ Amount
is_amount_lem Amount e = refl
is_amount_lem (Plain j) e = never (cc)
is_amount_lem Count e = never (cc)
is_amount_lem Total e = never (cc)
is_amount_lem (Code SttlmMtd) e = never (cc)
is_amount_lem (Code SvcLvl) e = never (cc)
is_amount_lem (Code LclInstrm) e = never (cc)
is_amount_lem (Code SeqTp) e = never (cc)
is_amount_lem (Code ChrgBr) e = never (cc)
is_amount_lem (Code Prtry) e = never (cc)

-- ---- one entry that passes: an amount is in its range
module _ (e : Entry) (es us : List Entry) (q : listed e es ≡ on us) where
  one_more : whats us ≡ whats es ++ (e.what ∷ [])
  one_more = ap whats (taken e es us q) ∙ whats_append es (e ∷ [])

  kept_on : Kept (whats es) → Kept (whats us)
  kept_on h = rw one_more (kept_more (whats es) e.what h (on_listed e es us q))

  step : (cents_in (whats us) ≤ cents_in (whats es) + paid an_amount e.what * most an_item) × (items_in (whats us) ≡ items_in (whats es) + begun e.what)
  step = rw one_more (go e.what (on_listed e es us q))
    where
      amount : (k : Kind) (v : List ℕ) (b : Bool) → same_kind k Amount ≡ b → Passes (kind_given k v) → sum_of (pick b (v ∷ []) []) ≤ pick b 1 0 * most an_item
      amount k v true z p = omega (arith, in_range_lem an_item v (rw (is_amount_lem k z) at p))
      amount k v false z p = omega arith

      own : (w : What) → Passes (weighed (whats es) w) → sum_of (of_kind Amount w) ≤ paid an_amount w * most an_item
      own item_begins p = omega arith
      own item_ends p = omega arith
      own (there n) p = omega arith
      own (absent n) p = omega arith
      own (value k f v) p = amount k v (same_kind k Amount) refl (both_pass (kind_given k v) (in_order (rules (whats es) (value k f v)) yes) p).0

      go : (w : What) → Passes (weighed (whats es) w) → (cents_in (whats es ++ (w ∷ [])) ≤ cents_in (whats es) + paid an_amount w * most an_item) × (items_in (whats es ++ (w ∷ [])) ≡ items_in (whats es) + begun w)
      go w p = (omega (arith, sums_more (whats es) w, own w p), omega (arith, items_append (whats es) (w ∷ [])))

-- ---- all along a message
abbrev sum : List Entry → ℕ
sum es = cents_in (whats es)

abbrev count : List Entry → ℕ
count es = items_in (whats es)

abbrev Within : Trace → List Entry → Type 0
Within = Leaves an_amount listed sum count step 0

message_within : (m : List ℕ) → Within (message m) []
message_within m = message_leaves an_amount listed sum count step m profile_fair profile_none [] (omega arith)

so_far : (t : Trace) (es now : List Entry) → Within t es → Kept (whats es) → SoFar t es now → cents_in (whats now) ≤ most_sum
so_far t es now h k here = omega (arith, within an_amount listed sum count step 0 t es h, k.few)
so_far (met e t) es now h k (past {us = us} q r) = so_far t us now (h.1 us q) (kept_on e es us q k) r

-- **The running sum of any message, read so far, is at most 999,999,999,990,000 cents**, accepted or not.
pub running_sum : (m : List ℕ) (es : List Entry) → SoFar (message m) [] es → cents_in (whats es) ≤ most_sum
running_sum m es = so_far (message m) [] es (message_within m) kept_none

pub in_figures : most_sum ≡ 999999999990000
in_figures = refl

-- So it never leaves the header total's range.
pub below_total : (m : List ℕ) (es : List Entry) → SoFar (message m) [] es → cents_in (whats es) ≤ most the_total
below_total m es h = omega (arith, running_sum m es h)

-- ---- where it goes through, all is read
all_read : (t : Trace) (es : List Entry) (r : Ended (List Entry)) → noted listed t es ≡ on r → SoFar t es r.notes
all_read (met e t) es r q =
    let z = through (listed e es) (noted listed t) r q in
    past z.first (all_read t z.mid r z.then)
all_read (up_to p) es r q = let z : es ≡ r.notes = cc in rw (← z) here
all_read (fault n p) es r q = never (cc)

-- **An accepted bulk has at most 10,000 times 99,999,999,999 cents.**
pub bulk_most : (m : List ℕ) (n c : ℕ) → judged m ≡ accepted n c → c ≤ most_sum
unfolding judged
bulk_most m n c = go (noted listed (message m) []) refl
  where
    go : (x : Reading (Ended (List Entry))) → noted listed (message m) [] ≡ x → verdict x ≡ accepted n c → c ≤ most_sum
    go (on r) z e = omega (arith, (compared_is r.notes n c e).sum, running_sum m r.notes (all_read (message m) [] r z))
    go (stop i p) z e = never (cc)
