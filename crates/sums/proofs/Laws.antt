-- The four sums of an accepted message come to its cents; so none is greater. And its service is one of the two.
use mathlib.Core.Path.{◌≡◌, refl, sym, ap, ◌∙◌}
use mathlib.Core.Bool.{true}
use mathlib.Core.Logic.{◌⊎◌, inl, inr}
use mathlib.Core.List.{List, [], ◌∷◌, ◌++◌, append_assoc}
use Prim.Native.Nat.{ℕ, zero, suc, ◌+◌, ◌≤◌}
use native.Mathlib.Omega.{arith}
use lib.ListN.{length, get_or}
use Rattle.text.specs.Quoted.{bytes}
use Rattle.text.proofs.Truths.{never}
use Rattle.codes.specs.declared.Element.TheVariants.{SttlmMtd, SvcLvl, LclInstrm, SeqTp, ChrgBr, Prtry}
use Rattle.codes.specs.Listed.{codes_of, code_given}
use Rattle.money.specs.Amount.{cents}
use Rattle.profile.specs.declared.Kind.{Kind}
use Rattle.profile.specs.declared.Kind.TheVariants.{Plain, Count, Total, Amount, Code}
use Rattle.profile.specs.declared.Field as field
use Rattle.profile.specs.declared.Version.{Version}
use Rattle.profile.specs.declared.Version.TheVariants.{V02, V08}
use Rattle.profile.specs.Kinds.{same_kind}
use Rattle.profile.specs.Profile.{in_header, in_item}
use Rattle.kinds.specs.Given.{kind_given}
use Rattle.reading.specs.Trace.{What, item_ends}
use Rattle.reading.specs.Verdict.{Judged, accepted, refused}
use Rattle.reading.specs.Rules.{sum_of, cents_in}
use Rattle.reading.specs.Judged.{last_of, judged}
use Rattle.reading.specs.Items.{Item, the_header, the_items}
use Rattle.reading.proofs.Lists.{cents_append}
use Rattle.postings.specs.Record.{value_for, cents_for}
use Rattle.documents.specs.Said.{said}
use Rattle.documents.specs.Holds.{Passes}
use Rattle.items.specs.Sums.{most_sum}
use Rattle.items.proofs.Sums.{bulk_most}
use Rattle.bulks.specs.Bulk.{DocItem, item_text, front, items_from}
use Rattle.bulks.specs.Accepted.{Bulked}
use Rattle.bulks.proofs.Trees.{accepted_bulk}
use Rattle.bulks.proofs.Parts.{items_said, said_parts}
use Rattle.bulks.proofs.Items.{bulk_holds, its_judgement, accepted_items, accepted_header}
use Rattle.bulks.proofs.Typed.{sequence, no_kind_above}
use Rattle.padding.specs.Agree.{AcceptedItem}
use Rattle.padding.proofs.Values.{Sorted, version, wherever_one, amount_one}
use Rattle.naming.specs.Key.{read_in, service_of}
use Rattle.naming.proofs.Own.{service_written}
use Rattle.judge.specs.Survey.{service_number}
use Rattle.records.proofs.Values.{amount_below}
use Rattle.keys.specs.Engine.{service_text}
use Rattle.keys.proofs.Whole.{service_text_lem}
use Rattle.sums.specs.Sums.{each_type, sums_of, total, no_lot, lot_if, lot_of}
use Rattle.sums.proofs.Types.{all_shared, no_more}

-- ---- SeqTp is a listed code, in the header and in an item
sequence_code : (k : Kind) (v : List ℕ) → same_kind k (Code SeqTp) ≡ true → Passes (kind_given k v) → Passes (code_given SeqTp v)
sequence_code (Plain s) v e h = never (cc)
sequence_code Count v e h = never (cc)
sequence_code Total v e h = never (cc)
sequence_code Amount v e h = never (cc)
sequence_code (Code SttlmMtd) v e h = never (cc)
sequence_code (Code SvcLvl) v e h = never (cc)
sequence_code (Code LclInstrm) v e h = never (cc)
sequence_code (Code SeqTp) v e h = h
sequence_code (Code ChrgBr) v e h = never (cc)
sequence_code (Code Prtry) v e h = never (cc)

sequence_sorted : (v : Version) → Sorted (λ k. same_kind k (Code SeqTp)) field.TheVariants.SeqTp v
unfolding in_header in_item
sequence_sorted V02 = record { header = (refl, refl); item = (refl, refl) }
sequence_sorted V08 = record { header = (refl, refl); item = (refl, refl) }

-- ---- the cents of some items, under a header and by themselves
abbrev pub all_cents : List What → List Item → ℕ
all_cents h [] = 0
all_cents h (x ∷ l) = cents_for (h ++ x.holds) + all_cents h l

abbrev all_held : List Item → ℕ
all_held [] = 0
all_held (x ∷ l) = cents_in x.holds + all_held l

module _ (h : List What) where
  pub all_append : (a b : List Item) → all_cents h (a ++ b) ≡ all_cents h a + all_cents h b
  all_append [] b = omega arith
  all_append (x ∷ a) b = omega (arith, all_append a b)

  pub at_most : (l : List Item) → total (each_type (codes_of SeqTp) h l) ≤ all_cents h l
  at_most [] = omega arith
  at_most (x ∷ l) = omega (arith, at_most l, no_more (value_for (h ++ x.holds) field.TheVariants.SeqTp) (cents_for (h ++ x.holds)))

held_said : (v : Version) (p : ℕ) (l : List (DocItem v)) → cents_in (items_said v l) ≡ all_held (items_from v p l)
held_said v p [] = refl
held_said v p (x ∷ l) =
    let s = said (in_item v) x.held in
    omega (arith, cents_append (s ++ (item_ends ∷ [])) (items_said v l), cents_append s (item_ends ∷ []), held_said v (p + length (item_text v x)) l)

-- a sum of some is at most all of them
pub one_of_all : (l : List ℕ) (i : ℕ) → get_or l i 0 ≤ total l
one_of_all [] i = omega arith
one_of_all (x ∷ l) zero = omega arith
one_of_all (x ∷ l) (suc i) = omega (arith, one_of_all l i)

-- ---- an accepted message
module _ (m : List ℕ) (n c : ℕ) (e : judged m ≡ accepted n c) where
  abbrev k : Bulked m
  k = accepted_bulk m n c e

  abbrev v : Version
  v = k.version

  abbrev H : List What
  H = the_header m

  header-none : cents_in H ≡ 0
  header-none =
      let b = amount_below v in
      ap sum_of (no_kind_above m n c e k Amount b.0 b.1)

  abbrev its : (a : List Item) (x : Item) (l : List Item) → the_items m ≡ a ++ (x ∷ l) → AcceptedItem m
  its a x l is = record { count = n; cents = c; accepted = e; before = a; item = x; after = l; is = is }

  -- an item has one amount, and it is its own
  item-cents : (a : List Item) (x : Item) (l : List Item) → the_items m ≡ a ++ (x ∷ l) → cents_for (H ++ x.holds) ≡ cents_in x.holds
  item-cents a x l is =
      let o = amount_one (its a x l is) in
      let f : cents_for (H ++ x.holds) ≡ cents o.it = ap (λ (l : List (List ℕ)). cents (last_of [] l)) o.is in
      let s : cents_in (H ++ x.holds) ≡ cents o.it + 0 = ap sum_of o.is in
      omega (arith, f, s, cents_append H x.holds, header-none)

  -- and one sequence type, which is listed
  item_type : (a : List Item) (x : Item) (l : List Item) → the_items m ≡ a ++ (x ∷ l) → Passes (code_given SeqTp (value_for (H ++ x.holds) field.TheVariants.SeqTp))
  item_type a x l is =
      let i = its a x l is in
      let o = wherever_one i (λ k. same_kind k (Code SeqTp)) (λ v. Passes (code_given SeqTp v)) sequence_code field.TheVariants.SeqTp sequence (sequence_sorted (version i)) in
      rw o.is o.known

  -- so of all of them, from any on
  each_item : (a l : List Item) → the_items m ≡ a ++ l → (all_cents H l ≡ all_held l) × (total (each_type (codes_of SeqTp) H l) ≡ all_cents H l)
  each_item a [] is = (refl, refl)
  each_item a (x ∷ l) is =
      let r = each_item (a ++ (x ∷ [])) l (is ∙ sym (append_assoc a (x ∷ []) l)) in (
        omega (arith, r.0, item-cents a x l is),
        omega (arith, r.1, all_shared (value_for (H ++ x.holds) field.TheVariants.SeqTp) (cents_for (H ++ x.holds)) (item_type a x l is)),
      )

  pub all_cents_lem : all_cents H (the_items m) ≡ c
  all_cents_lem =
      let S = said (in_header v) k.bulk.header.held in
      let I = items_said v k.bulk.items in
      let p = length (front k.bulk) in
      let s : cents_in (S ++ I) ≡ c = ap cents_in (sym (said_parts k.bulk)) ∙ (bulk_holds k.bulk k.lawful n c (its_judgement m n c e k)).cents in
      let h : cents_in S ≡ 0 = ap cents_in (sym (accepted_header m n c e k)) ∙ header-none in
      let i : all_held (the_items m) ≡ cents_in I = ap all_held (accepted_items m n c e k) ∙ sym (held_said v p k.bulk.items) in
      omega (arith, s, h, i, cents_append S I, (each_item [] (the_items m) refl).0)

  -- **The four sums of an accepted message come to its cents.**
  pub sums_whole : total (sums_of m) ≡ c
  unfolding sums_of
  sums_whole = (each_item [] (the_items m) refl).1 ∙ all_cents_lem

  -- **So none of them is greater**, nor greater than 10,000 times 99,999,999,999.
  pub sums_most : ((i : ℕ) → get_or (sums_of m) i 0 ≤ c) × (c ≤ most_sum)
  sums_most = (λ i. omega (arith, one_of_all (sums_of m) i, sums_whole), bulk_most m n c e)

  -- **Its service is CORE, which is 1, or B2B, which is 2.**
  pub service_row : (((lot_of m).service ≡ 1) × (service_of (read_in m) ≡ bytes "CORE")) ⊎ (((lot_of m).service ≡ 2) × (service_of (read_in m) ≡ bytes "B2B"))
  unfolding lot_of
  service_row = rw e (go (service_number (read_in m)) (service_text_lem m) (service_written m n c e))
    where
      go : (s : ℕ) → service_text s ≡ service_of (read_in m) → 1 ≤ length (service_of (read_in m)) → ((s ≡ 1) × (service_of (read_in m) ≡ bytes "CORE")) ⊎ ((s ≡ 2) × (service_of (read_in m) ≡ bytes "B2B"))
      go zero t w = never (omega (arith, ap length t, w))
      go (suc zero) t w = inl (refl, sym t)
      go (suc (suc zero)) t w = inr (refl, sym t)
      go (suc (suc (suc s))) t w = never (omega (arith, ap length t, w))

-- ---- of any message: four sums, and none greater
pub lot_long : (m : List ℕ) → length (lot_of m).sums ≡ 4
unfolding lot_of sums_of
lot_long m = go (judged m)
  where
    go : (j : Judged) → length (lot_if j m).sums ≡ 4
    go (accepted n c) = refl
    go (refused n p) = refl

pub lot_most : (m : List ℕ) (i : ℕ) → get_or (lot_of m).sums i 0 ≤ most_sum
unfolding lot_of
lot_most m i = go (judged m) refl
  where
    go : (j : Judged) → judged m ≡ j → get_or (lot_if j m).sums i 0 ≤ most_sum
    go (accepted n c) e = omega (arith, (sums_most m n c e).0 i, (sums_most m n c e).1)
    go (refused n p) e = omega (arith, one_of_all no_lot.sums i)
