-- A list of what was read that is noted through and accepted, and the same list with a slip in one value: how the other is refused.
use mathlib.Core.Path.{◌≡◌, refl, sym, ap, ◌∙◌}
use mathlib.Core.Logic.{◌≢◌, ◌⊎◌, inl, inr}
use mathlib.Core.Bool.{Bool, true, false}
use mathlib.Core.List.{List, [], ◌∷◌, ◌++◌}
use Prim.Native.Nat.{ℕ, ◌+◌}
use native.Mathlib.Omega.{arith}
use borrow.Author.Tests.{eq-eqb, ne_eqb}
use lib.ListN.{length, length-append}
use Rattle.text.specs.Truth.{pick}
use Rattle.text.specs.Quoted.{decimal}
use Rattle.answers.specs.Given.{refused as no}
use Rattle.codes.specs.declared.Element.TheVariants.{LclInstrm}
use Rattle.money.specs.declared.Range as range
use Rattle.money.specs.Amount.{cents}
use Rattle.profile.specs.declared.Kind.{Kind}
use Rattle.profile.specs.declared.Kind.TheVariants.{Plain, Count, Total, Amount, Code}
use Rattle.profile.specs.declared.Simple.{Simple}
use Rattle.profile.specs.declared.Field.{Field}
use Rattle.profile.specs.declared.Field.TheVariants.{TxId}
use Rattle.profile.specs.Kinds.{same_kind}
use Rattle.profile.specs.Fields.{same_field}
use Rattle.kinds.specs.Given.{kind_given}
use Rattle.reading.specs.Trace.{value, Entry, ◌at◌}
use Rattle.reading.specs.Rules.{items_in, of_kind, values_of, sum_of, cents_in, own_kind}
use Rattle.reading.specs.Judged.{whats, last_of, only_of, place_in, place_from, place_of, compared}
use Rattle.reading.specs.Verdict.{accepted, refused}
use Rattle.reading.proofs.Lists.{whats_append, values_append, place_append, sum_append}
use Rattle.reading.proofs.Flat.{never}
use Rattle.documents.specs.Document.{Each}
use Rattle.documents.specs.Holds.{Passes}
use Rattle.documents.specs.Standing.{OneHeader}
use Rattle.documents.proofs.Each.{each_both, each_first, each_rest}
use Rattle.documents.proofs.Often.{weight, weight_append}
use Rattle.documents.proofs.Standing.{is_reference, stray_ids}
use Rattle.documents.proofs.Lists.{Kept, kept_first, kept_listed, listed_stops, listed_all, Compared, is_compared, decided}
use Rattle.replaced.proofs.Near.{Near, changed, Unlike, near_append, near_itself, near_items, near_types, near_place, near_values, near_at}
use Rattle.slips.specs.Slip.{Slip, Refused}
use Rattle.slips.proofs.Values.{plain_slip, count_slip, amount_slip, unwatched}

-- ---- what is compared at the end
count_told : (es : List Entry) → decimal (only_of Count es) ≢ items_in (whats es) → compared es ≡ refused 14 (place_of Count es)
unfolding compared
count_told es ne = rw (ne_eqb (decimal (only_of Count es)) (items_in (whats es)) ne)

total_told : (es : List Entry) → decimal (only_of Count es) ≡ items_in (whats es) → cents (only_of Total es) ≢ cents_in (whats es) → compared es ≡ refused 15 (place_of Total es)
unfolding compared
total_told es e ne = rw (eq-eqb (decimal (only_of Count es)) (items_in (whats es)) e, ne_eqb (cents (only_of Total es)) (cents_in (whats es)) ne)

-- ---- one of a kind
lone : (a : List (List ℕ)) (u : List ℕ) (b : List (List ℕ)) → length (a ++ (u ∷ b)) ≡ 1 → (a ≡ []) × (b ≡ [])
lone [] u [] e = (refl, refl)
lone [] u (x ∷ b) e = never (omega arith)
lone (x ∷ a) u b e = never (omega (arith, length-append a (u ∷ b)))

no_place : (j : Kind) (l : List Entry) (q : ℕ) → values_of j (whats l) ≡ [] → place_from q j l ≡ q
no_place j [] q e = refl
no_place j (x ∷ l) q e = go (of_kind j x.what) e (no_place j l q)
  where
    go : (a : List (List ℕ)) → a ++ values_of j (whats l) ≡ [] → (values_of j (whats l) ≡ [] → place_from q j l ≡ q) → place_from (place_in a x.place q) j l ≡ q
    go [] h k = k h
    go (y ∷ a) h k = never (cc)

-- what a list that was accepted is
pub record Sound (l : List Entry) (n c : ℕ) : Type 0 where
  pub kept : Kept (whats l)
  pub compared : Compared (whats l) n c
  pub one : OneHeader (whats l)
  pub ids : weight stray_ids (whats l) ≡ 0

module _ (k : Kind) (f : Field) (q : ℕ) (v w : List ℕ) (xs ys : List Entry) (n c : ℕ) where
  -- the list with a value u there
  abbrev pub with : List ℕ → List Entry
  with u = xs ++ ((value k f u at q) ∷ ys)

  whats-with : (u : List ℕ) → whats (with u) ≡ whats xs ++ (value k f u ∷ whats ys)
  whats-with u = whats_append xs ((value k f u at q) ∷ ys)

  values-with : (j : Kind) (u : List ℕ) → values_of j (whats (with u)) ≡ values_of j (whats xs) ++ (pick (same_kind k j) (u ∷ []) [] ++ values_of j (whats ys))
  values-with j u = ap (values_of j) (whats-with u) ∙ values_append j (whats xs) (value k f u ∷ whats ys)

  abbrev This : Kind → Field → Type 0
  This j g = (j ≡ k) × (g ≡ f)

  near : Near This v w (with v) (with w)
  near = near_append This v w (near_itself This v w xs) (changed (refl, refl) (near_itself This v w ys))

  unlike : (j : Kind) → same_kind k j ≡ false → Unlike This v w j
  unlike j h i g e = rw e.0 h

  -- the only value of its kind
  module _ (j : Kind) (is : same_kind k j ≡ true) (once : length (values_of j (whats (with v))) ≡ 1) where
    alone : (values_of j (whats xs) ≡ []) × (values_of j (whats ys) ≡ [])
    alone = lone (values_of j (whats xs)) v (values_of j (whats ys)) (rw is at (ap length (sym (values-with j v)) ∙ once))

    only-is : (u : List ℕ) → only_of j (with u) ≡ u
    only-is u = ap (last_of []) (values-with j u) ∙ rw (alone.0, is, alone.1)

    pub place_is : place_of j (with w) ≡ q
    place_is = place_append j xs ((value k f w at q) ∷ ys) 0 ∙ rw is (no_place j ys q alone.1)

  module _ (s : Sound (with v) n c) where
    kinds : Each (λ x. Passes (own_kind x)) (whats xs ++ (value k f v ∷ whats ys))
    kinds = rw (whats-with v) at s.kept.kinds

    pub passed : Passes (kind_given k v)
    passed = (each_rest (λ x. Passes (own_kind x)) (whats xs) (value k f v ∷ whats ys) kinds).0

    -- its own kind refuses it
    pub refused_own : (i : ℕ) → kind_given k w ≡ no i → decided (listed_all (with w) []) ≡ refused i q
    refused_own i e =
        ap decided (listed_stops xs (value k f w at q) ys i (kept_first (whats xs) (value k f v ∷ whats ys) (rw (whats-with v) at s.kept)) (rw e))

    -- only a reference is a TxId
    pub no_id : is_reference k ≡ false → same_field f TxId ≡ false
    no_id e = go (same_field f TxId) (is_reference k) e (omega (arith, ap (weight stray_ids) (sym (whats-with v)) ∙ s.ids, weight_append stray_ids (whats xs) (value k f v ∷ whats ys)))
      where
        go : (a b : Bool) → b ≡ false → ◌≡◌ {A = ℕ} (pick a (pick b 0 1) 0) 0 → a ≡ false
        go false b e h = refl
        go true true e h = never (cc)
        go true false e h = never (omega (arith, h))

    -- it passes, and the others do too, where it is no LclInstrm and no TxId
    module _ (fits : Passes (kind_given k w)) (service : same_kind k (Code LclInstrm) ≡ false) (id : same_field f TxId ≡ false) where
      kinds-too : Each (λ x. Passes (own_kind x)) (whats (with w))
      kinds-too =
          rw (whats-with w)
          (each_both (λ x. Passes (own_kind x)) (whats xs) (value k f w ∷ whats ys) (each_first (λ x. Passes (own_kind x)) (whats xs) (value k f v ∷ whats ys) kinds)
          (fits, (each_rest (λ x. Passes (own_kind x)) (whats xs) (value k f v ∷ whats ys) kinds).1))

      items-too : items_in (whats (with w)) ≡ n
      items-too = sym (near_items This v w near) ∙ s.compared.items

      kept-too : Kept (whats (with w))
      kept-too =
          record {
            kinds = kinds-too;
            typed = rw (near_types This v w near) at s.kept.typed;
            alike = rw (near_values This v w (Code LclInstrm) (unlike (Code LclInstrm) service) near) at s.kept.alike;
            apart = rw (near_at This v w TxId (λ i g e. rw e.1 id) near) at s.kept.apart;
            few = omega (arith, near_items This v w near, s.kept.few);
          }

      pub goes_on : decided (listed_all (with w) []) ≡ compared (with w)
      goes_on = ap decided (kept_listed (with w) [] kept-too)

      -- the header's values of another kind say what they said
      same-only : (j : Kind) → same_kind k j ≡ false → only_of j (with w) ≡ only_of j (with v)
      same-only j h = ap (last_of []) (sym (near_values This v w j (unlike j h) near))

      count-right : same_kind k Count ≡ false → decimal (only_of Count (with w)) ≡ items_in (whats (with w))
      count-right h = ap decimal (same-only Count h) ∙ s.compared.count ∙ sym items-too

-- A plain value that passes in the place of another, and is no TxId: the list is accepted as it was.
pub plain_passes : (j : Simple) (f : Field) (q : ℕ) (v w : List ℕ) (xs ys : List Entry) (n c : ℕ) → Sound (with (Plain j) f q v w xs ys n c v) n c
    → same_field f TxId ≡ false → Passes (kind_given (Plain j) w) → decided (listed_all (with (Plain j) f q v w xs ys n c w) []) ≡ accepted n c
plain_passes j f q v w xs ys n c s id fits =
    let only = same-only (Plain j) f q v w xs ys n c s fits refl id in
    let sums = ap sum_of (near_values (This (Plain j) f q v w xs ys n c) v w Amount (unlike (Plain j) f q v w xs ys n c Amount refl) (near (Plain j) f q v w xs ys n c)) in
    goes_on (Plain j) f q v w xs ys n c s fits refl id
    ∙ is_compared (with (Plain j) f q v w xs ys n c w) n c
    (record {
      items = items-too (Plain j) f q v w xs ys n c s fits refl id;
      count = ap decimal (only Count refl) ∙ s.compared.count;
      sum = sym sums ∙ s.compared.sum;
      total = ap cents (only Total refl) ∙ s.compared.total;
    })

-- How a slip is refused, in the list.
pub slip_told : (k : Kind) (f : Field) (q : ℕ) (v w : List ℕ) (xs ys : List Entry) (n c : ℕ) → Sound (with k f q v w xs ys n c v) n c → Slip k v w
    → Refused (place_of Total (with k f q v w xs ys n c v)) k q (decided (listed_all (with k f q v w xs ys n c w) []))
slip_told (Plain j) f q v w xs ys n c s l = refused_own (Plain j) f q v w xs ys n c s 8 (plain_slip j v w l (passed (Plain j) f q v w xs ys n c s))
slip_told Count f q v w xs ys n c s l =
    let r = count_slip v w l (passed Count f q v w xs ys n c s) in
    let only = only-is Count f q v w xs ys n c Count refl s.one.count in
    goes_on Count f q v w xs ys n c s r.0 refl (no_id Count f q v w xs ys n c s refl)
    ∙ count_told (with Count f q v w xs ys n c w)
    (λ e. r.1 (ap decimal (sym (only v)) ∙ s.compared.count ∙ sym (items-too Count f q v w xs ys n c s r.0 refl (no_id Count f q v w xs ys n c s refl)) ∙ sym e ∙ ap decimal (only w)))
    ∙ ap (refused 14) (place_is Count f q v w xs ys n c Count refl s.one.count)
slip_told Total f q v w xs ys n c s l = go r.0
  where
    r : ((kind_given Total w ≡ no 9) ⊎ Passes (kind_given Total w)) × (cents v ≢ cents w)
    r = amount_slip Total range.TheVariants.Total v w l (passed Total f q v w xs ys n c s)

    go : (kind_given Total w ≡ no 9) ⊎ Passes (kind_given Total w) → Refused (place_of Total (with Total f q v w xs ys n c v)) Total q (decided (listed_all (with Total f q v w xs ys n c w) []))
    go (inl e) = inl (refused_own Total f q v w xs ys n c s 9 e)
    go (inr fits) =
        let only = only-is Total f q v w xs ys n c Total refl s.one.total in
        let sums = ap sum_of (near_values (This Total f q v w xs ys n c) v w Amount (unlike Total f q v w xs ys n c Amount refl) (near Total f q v w xs ys n c)) in
        inr (
        goes_on Total f q v w xs ys n c s fits refl (no_id Total f q v w xs ys n c s refl)
        ∙ total_told (with Total f q v w xs ys n c w) (count-right Total f q v w xs ys n c s fits refl (no_id Total f q v w xs ys n c s refl) refl)
        (λ e. r.1 (ap cents (sym (only v)) ∙ s.compared.total ∙ sym s.compared.sum ∙ sums ∙ sym e ∙ ap cents (only w)))
        ∙ ap (refused 15) (place_is Total f q v w xs ys n c Total refl s.one.total))
slip_told Amount f q v w xs ys n c s l = go r.0
  where
    r : ((kind_given Amount w ≡ no 9) ⊎ Passes (kind_given Amount w)) × (cents v ≢ cents w)
    r = amount_slip Amount range.TheVariants.Item v w l (passed Amount f q v w xs ys n c s)

    sum-with : (u : List ℕ) → cents_in (whats (with Amount f q v w xs ys n c u)) ≡ cents_in (whats xs) + (cents u + cents_in (whats ys))
    sum-with u =
        ap sum_of (values-with Amount f q v w xs ys n c Amount u) ∙ sum_append (values_of Amount (whats xs)) (u ∷ values_of Amount (whats ys))

    go : (kind_given Amount w ≡ no 9) ⊎ Passes (kind_given Amount w) → Refused (place_of Total (with Amount f q v w xs ys n c v)) Amount q (decided (listed_all (with Amount f q v w xs ys n c w) []))
    go (inl e) = inl (refused_own Amount f q v w xs ys n c s 9 e)
    go (inr fits) =
        inr (
        goes_on Amount f q v w xs ys n c s fits refl (no_id Amount f q v w xs ys n c s refl)
        ∙ total_told (with Amount f q v w xs ys n c w) (count-right Amount f q v w xs ys n c s fits refl (no_id Amount f q v w xs ys n c s refl) refl)
        (λ e. r.1 (omega (arith, e, ap cents (same-only Amount f q v w xs ys n c s fits refl (no_id Amount f q v w xs ys n c s refl) Total refl), s.compared.total, s.compared.sum, sum-with v, sum-with w)))
        ∙ ap (refused 15) (sym (near_place (This Amount f q v w xs ys n c) v w Total 0 (near Amount f q v w xs ys n c))))
slip_told (Code e) f q v w xs ys n c s l = unwatched (λ x h. h) l
