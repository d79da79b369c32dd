-- What noting a list of entries one by one comes to: it goes through exactly where every value is of its kind and the rules are kept, and is then accepted
-- exactly where the header's count and total are those of the list. No message is spoken of here.
use mathlib.Core.Path.{◌≡◌, refl, sym, ap, ◌∙◌}
use mathlib.Core.Bool.{Bool, true, false, not}
use mathlib.Core.List.{List, [], ◌∷◌, ◌++◌, append-nil, append_assoc}
use Prim.Native.Nat.{ℕ, zero, suc, ◌+◌, ◌≤◌}
use native.Mathlib.Omega.{arith}
use borrow.Author.Tests.{eqb-true, eq-eqb, ltb-true, lt-ltb}
use lib.Dec.{eqb, ltb}
use lib.ListN.{length, replicate}
use Rattle.text.specs.Truth.{pick, between}
use Rattle.text.specs.Quoted.{alike, decimal}
use Rattle.text.proofs.Truths.{between_true}
use Rattle.answers.specs.Given.{Given, yes, worth, refused as no, ◌else◌, in_order}
use Rattle.codes.specs.declared.Element.TheVariants.{LclInstrm}
use Rattle.money.specs.declared.Range as range
use Rattle.money.specs.Amount.{amount_form, cents, most, amount_given}
use Rattle.profile.specs.declared.Kind.{Kind}
use Rattle.profile.specs.declared.Kind.TheVariants.{Count, Total, Amount, Code}
use Rattle.profile.specs.declared.Field.{Field}
use Rattle.profile.specs.declared.Field.TheVariants.{TxId}
use Rattle.profile.specs.Limits.{most_items}
use Rattle.profile.specs.Kinds.{same_kind}
use Rattle.profile.specs.Fields.{same_field}
use Rattle.profile.specs.Profile.{is_type}
use Rattle.kinds.specs.Given.{kind_given}
use Rattle.reading.specs.Trace.{What, item_begins, item_ends, there, absent, value, Entry, Trace, met, up_to, fault, message}
use Rattle.reading.specs.Noted.{Reading, on, stop, onward, Ended, noted}
use Rattle.reading.specs.Rules.{items_in, of_kind, values_of, of_field, values_at, sum_of, cents_in, of_type, types_in, first_of, stands_in, ◌so◌, unlike_first, rules, own_kind, fitting, weighed}
use Rattle.reading.specs.Verdict.{Judged, accepted, refused}
use Rattle.reading.specs.Judged.{whats, or_refused, listed, last_of, only_of, place_of, compared, verdict, judged}
use Rattle.reading.proofs.Lists.{whats_append, items_append, values_append, at_append, types_append, cents_append, alike_itself, alike_same}
use Rattle.reading.proofs.Flat.{never, flat, Whole, same_end, through, taken, goes_whole}
use Rattle.documents.specs.Document.{Each}
use Rattle.documents.specs.Holds.{Passes, AsFirst, Alike, Apart, TypeStands, in_header, in_items, numbers, amounts, Holds}
use Rattle.documents.specs.Standing.{OneHeader}
use Rattle.documents.proofs.Each.{each_both, each_first, each_rest}
use Rattle.documents.proofs.Apart.{apart_first, apart_more, apart_last}

-- of each of the others what is not said of the first
abbrev pub Unlike : List Bool → Type 0
Unlike = AsFirst (λ x y. y ≡ not x)

pub as_first : {A : Type 0} (R : A → A → Type 0) (x y : List A) → AsFirst R (x ++ y) → AsFirst R x
as_first R [] y e = tt
as_first R (v ∷ x) y e = each_first (R v) x y e

-- ---- the rules, kept by a list of what was read
pub record Kept (ws : List What) : Type 0 where
  -- every value is of its kind
  pub kinds : Each (λ w. Passes (own_kind w)) ws
  -- the payment type stands in the items where it does not stand in the header
  pub typed : Unlike (types_in ws)
  -- LclInstrm is the first one's
  pub alike : Alike (values_of (Code LclInstrm) ws)
  -- no TxId stands twice
  pub apart : Apart (values_at TxId ws)
  -- 10,000 items at most
  pub few : items_in ws ≤ most_items

pub kept_none : Kept []
kept_none = record { kinds = tt; typed = tt; alike = tt; apart = tt; few = omega arith }

pub kept_first : (a b : List What) → Kept (a ++ b) → Kept a
kept_first a b h =
    record {
      kinds = each_first (λ w. Passes (own_kind w)) a b h.kinds;
      typed = as_first (λ x y. y ≡ not x) (types_in a) (types_in b) (rw (types_append a b) at h.typed);
      alike = as_first (λ v w. w ≡ v) (values_of (Code LclInstrm) a) (values_of (Code LclInstrm) b) (rw (values_append (Code LclInstrm) a b) at h.alike);
      apart = apart_first (values_at TxId a) (values_at TxId b) (rw (at_append TxId a b) at h.apart);
      few = omega (arith, h.few, items_append a b);
    }

-- ---- one more: it is kept exactly where what is met passes, after what was read before
passes_both : (g h : Given) → Passes g → Passes h → Passes (fitting g h)
passes_both yes h p q = q
passes_both (worth n) h p q = q
passes_both (no n) h p q = absurd p

pub both_pass : (g h : Given) → Passes (fitting g h) → Passes g × Passes h
both_pass yes h p = (tt, p)
both_pass (worth n) h p = (tt, p)
both_pass (no n) h p = absurd p

rule_passes : (a : Bool) (i : ℕ) → Passes (in_order (a else i ∷ []) yes) → a ≡ true
rule_passes true i p = refl
rule_passes false i p = absurd p

rules_pass : (a b : Bool) (i j : ℕ) → Passes (in_order (a else i ∷ b else j ∷ []) yes) → (a ≡ true) × (b ≡ true)
rules_pass true true i j p = (refl, refl)
rules_pass true false i j p = absurd p
rules_pass false b i j p = absurd p

-- the payment type, with one place more where it may stand or none
unlike_more : (i b : Bool) (l : List Bool) → Unlike l → (i so unlike_first b l) ≡ true → Unlike (l ++ pick i (b ∷ []) [])
unlike_more false b l h e = rw (append-nil l) h
unlike_more true b [] h e = tt
unlike_more true b (x ∷ l) h e = each_both (λ y. y ≡ not x) l (b ∷ []) h (other x b e, tt)
  where
    other : (x b : Bool) → pick x (not b) b ≡ true → b ≡ not x
    other true b e = go b e
      where
        go : (b : Bool) → not b ≡ true → b ≡ false
        go true e = never (cc)
        go false e = refl
    other false b e = e

pub unlike_last : (i b : Bool) (l : List Bool) → Unlike (l ++ pick i (b ∷ []) []) → (i so unlike_first b l) ≡ true
unlike_last false b l h = refl
unlike_last true b [] h = refl
unlike_last true b (x ∷ l) h = let e : b ≡ not x = (each_rest (λ y. y ≡ not x) l (b ∷ []) h).0 in rw e (other x)
  where
    other : (x : Bool) → pick x (not (not x)) (not x) ≡ true
    other true = refl
    other false = refl

-- LclInstrm, with one value more or none
alike_more : (b : Bool) (l : List (List ℕ)) (v : List ℕ) → Alike l → (b so alike (first_of v l) v) ≡ true → Alike (l ++ pick b (v ∷ []) [])
alike_more false l v h e = rw (append-nil l) h
alike_more true [] v h e = tt
alike_more true (x ∷ l) v h e = each_both (λ w. w ≡ x) l (v ∷ []) h (sym (alike_same x v e), tt)

alike_last : (b : Bool) (l : List (List ℕ)) (v : List ℕ) → Alike (l ++ pick b (v ∷ []) []) → (b so alike (first_of v l) v) ≡ true
alike_last false l v h = refl
alike_last true [] v h = alike_itself v
alike_last true (x ∷ l) v h = let e : v ≡ x = (each_rest (λ w. w ≡ x) l (v ∷ []) h).0 in rw e (alike_itself x)

module _ (a : List What) where
  pub values_more : (j : Kind) (w : What) → values_of j (a ++ (w ∷ [])) ≡ values_of j a ++ of_kind j w
  values_more j w = values_append j a (w ∷ []) ∙ ap (λ (l : List (List ℕ)). values_of j a ++ l) (append-nil (of_kind j w))

  pub at_more : (g : Field) (w : What) → values_at g (a ++ (w ∷ [])) ≡ values_at g a ++ of_field g w
  at_more g w = at_append g a (w ∷ []) ∙ ap (λ (l : List (List ℕ)). values_at g a ++ l) (append-nil (of_field g w))

  pub sums_more : (w : What) → cents_in (a ++ (w ∷ [])) ≡ cents_in a + sum_of (of_kind Amount w)
  sums_more w = cents_append a (w ∷ []) ∙ ap (λ (l : List (List ℕ)). cents_in a + sum_of l) (append-nil (of_kind Amount w))

  pub types_more : (w : What) → types_in (a ++ (w ∷ [])) ≡ types_in a ++ of_type w
  types_more w = types_append a (w ∷ []) ∙ ap (λ (l : List Bool). types_in a ++ l) (append-nil (of_type w))

  -- what says nothing of the payment type
  untyped : (w : What) → of_type w ≡ [] → Kept a → Unlike (types_in (a ++ (w ∷ [])))
  untyped w e h = rw (types_more w, e, append-nil (types_in a)) h.typed

  -- what is no value and no item's beginning
  still : (w : What) → ((j : Kind) → of_kind j w ≡ []) → ((g : Field) → of_field g w ≡ []) → items_in (w ∷ []) ≡ 0 → Passes (own_kind w) → Unlike (types_in (a ++ (w ∷ []))) → Kept a → Kept (a ++ (w ∷ []))
  still w v u i p t h =
      record {
        kinds = each_both (λ w. Passes (own_kind w)) a (w ∷ []) h.kinds (p, tt);
        typed = t;
        alike = rw (values_more (Code LclInstrm) w, v (Code LclInstrm), append-nil (values_of (Code LclInstrm) a)) h.alike;
        apart = rw (at_more TxId w, u TxId, append-nil (values_at TxId a)) h.apart;
        few = omega (arith, h.few, items_append a (w ∷ []), i);
      }

  pub kept_more : (w : What) → Kept a → Passes (weighed a w) → Kept (a ++ (w ∷ []))
  kept_more item_ends h p = still item_ends (λ j. refl) (λ g. refl) refl tt (untyped item_ends refl h) h
  kept_more (there n) h p =
      still (there n) (λ j. refl) (λ g. refl) refl tt
      (rw (types_more (there n)) (unlike_more (is_type n) true (types_in a) h.typed (rule_passes (is_type n so unlike_first true (types_in a)) 23 p))) h
  kept_more (absent n) h p =
      still (absent n) (λ j. refl) (λ g. refl) refl tt
      (rw (types_more (absent n)) (unlike_more (is_type n) false (types_in a) h.typed (rule_passes (is_type n so unlike_first false (types_in a)) 4 p))) h
  kept_more item_begins h p =
      record {
        kinds = each_both (λ w. Passes (own_kind w)) a (item_begins ∷ []) h.kinds (tt, tt);
        typed = untyped item_begins refl h;
        alike = rw (values_more (Code LclInstrm) item_begins, append-nil (values_of (Code LclInstrm) a)) h.alike;
        apart = rw (at_more TxId item_begins, append-nil (values_at TxId a)) h.apart;
        few = omega (arith, items_append a (item_begins ∷ []), below (ltb (items_in a) most_items) refl p);
      }
    where
      below : (b : Bool) → ltb (items_in a) most_items ≡ b → Passes (in_order (b else 12 ∷ []) yes) → suc (items_in a) ≤ most_items
      below true e p = omega (arith, ltb-true (items_in a) most_items e)
      below false e p = absurd p
  kept_more (value k f v) h p =
      let b = both_pass (kind_given k v) (in_order (rules a (value k f v)) yes) p in
      let r =
      rules_pass (same_kind k (Code LclInstrm) so alike (first_of v (values_of (Code LclInstrm) a)) v) (same_field f TxId so not (stands_in v (values_at TxId a))) 11 24 b.1 in
      record {
        kinds = each_both (λ w. Passes (own_kind w)) a (value k f v ∷ []) h.kinds (b.0, tt);
        typed = untyped (value k f v) refl h;
        alike = rw (values_more (Code LclInstrm) (value k f v)) (alike_more (same_kind k (Code LclInstrm)) (values_of (Code LclInstrm) a) v h.alike r.0);
        apart = rw (at_more TxId (value k f v)) (apart_more (same_field f TxId) (values_at TxId a) v h.apart r.1);
        few = omega (arith, h.few, items_append a (value k f v ∷ []));
      }

  pub more_kept : (w : What) → Kept (a ++ (w ∷ [])) → Passes (weighed a w)
  more_kept item_ends h = tt
  more_kept (there n) h = rw (unlike_last (is_type n) true (types_in a) (rw (types_more (there n)) at h.typed)) tt
  more_kept (absent n) h = rw (unlike_last (is_type n) false (types_in a) (rw (types_more (absent n)) at h.typed)) tt
  more_kept item_begins h = rw (lt-ltb (items_in a) most_items (omega (arith, h.few, items_append a (item_begins ∷ [])))) tt
  more_kept (value k f v) h =
      passes_both (kind_given k v) (in_order (rules a (value k f v)) yes)
      (each_rest (λ w. Passes (own_kind w)) a (value k f v ∷ []) h.kinds).0
      (rw (
        alike_last (same_kind k (Code LclInstrm)) (values_of (Code LclInstrm) a) v (rw (values_more (Code LclInstrm) (value k f v)) at h.alike),
        apart_last (same_field f TxId) (values_at TxId a) v (rw (at_more TxId (value k f v)) at h.apart),
      ) tt)

-- ---- entries noted one by one, after others
abbrev pub listed_all : List Entry → List Entry → Reading (List Entry)
listed_all [] es = on es
listed_all (e ∷ l) es = onward (listed e es) (listed_all l)

pub listed_on : (e : Entry) (es : List Entry) → Passes (weighed (whats es) e.what) → listed e es ≡ on (es ++ (e ∷ []))
listed_on e es = go (weighed (whats es) e.what)
  where
    go : (g : Given) → Passes g → or_refused g e.place (es ++ (e ∷ [])) ≡ on (es ++ (e ∷ []))
    go yes h = refl
    go (worth n) h = refl
    go (no n) h = absurd h

pub on_listed : (e : Entry) (es u : List Entry) → listed e es ≡ on u → Passes (weighed (whats es) e.what)
on_listed e es u = go (weighed (whats es) e.what)
  where
    go : (g : Given) → or_refused g e.place (es ++ (e ∷ [])) ≡ on u → Passes g
    go yes h = tt
    go (worth n) h = tt
    go (no n) h = never (cc)

whats_more : (es : List Entry) (e : Entry) (l : List Entry) → whats ((es ++ (e ∷ [])) ++ l) ≡ whats (es ++ (e ∷ l))
whats_more es e l = ap whats (append_assoc es (e ∷ []) l)

-- where the rules are kept, noting goes through
pub kept_listed : (l es : List Entry) → Kept (whats (es ++ l)) → listed_all l es ≡ on (es ++ l)
kept_listed [] es h = rw (append-nil es)
kept_listed (e ∷ l) es h =
    let k : Kept (whats ((es ++ (e ∷ [])) ++ l)) = rw (whats_more es e l) h in
    let f : Kept (whats es ++ (e.what ∷ [])) = rw (← whats_append es (e ∷ [])) (kept_first (whats (es ++ (e ∷ []))) (whats l) (rw (whats_append (es ++ (e ∷ [])) l) at k)) in
    rw (listed_on e es (more_kept (whats es) e.what f)) (kept_listed l (es ++ (e ∷ [])) k ∙ ap on (append_assoc es (e ∷ []) l))

-- and where it goes through, they are
pub listed_kept : (l es u : List Entry) → Kept (whats es) → listed_all l es ≡ on u → Kept (whats (es ++ l)) × (u ≡ es ++ l)
listed_kept [] es u h e =
    let z : es ≡ u = same_end es u e in
    (rw (append-nil es) h, rw (append-nil es) (sym z))
listed_kept (x ∷ l) es u h e =
    let t = through (listed x es) (listed_all l) u e in
    let z : t.mid ≡ es ++ (x ∷ []) = taken x es t.mid t.first in
    let k : Kept (whats (es ++ (x ∷ []))) = rw (whats_append es (x ∷ [])) (kept_more (whats es) x.what h (on_listed x es t.mid t.first)) in
    let r = listed_kept l (es ++ (x ∷ [])) u k (rw z at t.then) in
    (rw (whats_more es x l) at r.0, r.1 ∙ append_assoc es (x ∷ []) l)

-- the first that does not pass is refused at its place
pub listed_stops : (a : List Entry) (e : Entry) (b : List Entry) (n : ℕ) → Kept (whats a) → weighed (whats a) e.what ≡ no n → listed_all (a ++ (e ∷ b)) [] ≡ stop n e.place
listed_stops a e b n h q = listed_then a [] (e ∷ b) ∙ rw (kept_listed a [] h, q)
  where
    listed_then : (a es b : List Entry) → listed_all (a ++ b) es ≡ onward (listed_all a es) (listed_all b)
    listed_then [] es b = refl
    listed_then (x ∷ a) es b = go (listed x es) (λ u. listed_then a u b)
      where
        go : (r : Reading (List Entry)) → ((u : List Entry) → listed_all (a ++ b) u ≡ onward (listed_all a u) (listed_all b))
            → onward r (listed_all (a ++ b)) ≡ onward (onward r (listed_all a)) (listed_all b)
        go (on u) k = k u
        go (stop i p) k = refl

-- ---- what the header says is compared
pub record Compared (ws : List What) (n c : ℕ) : Type 0 where
  pub items : items_in ws ≡ n
  pub count : decimal (last_of [] (values_of Count ws)) ≡ n
  pub sum : cents_in ws ≡ c
  pub total : cents (last_of [] (values_of Total ws)) ≡ c

pub compared_is : (es : List Entry) (n c : ℕ) → compared es ≡ accepted n c → Compared (whats es) n c
unfolding compared
compared_is es n c = go (eqb nb items) (eqb total sum) refl refl
  where
    nb : ℕ
    nb = decimal (only_of Count es)

    items : ℕ
    items = items_in (whats es)

    total : ℕ
    total = cents (only_of Total es)

    sum : ℕ
    sum = cents_in (whats es)

    go : (a b : Bool) → eqb nb items ≡ a → eqb total sum ≡ b → pick a (pick b (accepted items sum) (refused 15 (place_of Total es))) (refused 14 (place_of Count es)) ≡ accepted n c
        → Compared (whats es) n c
    go true true x y e =
        let p : items ≡ n = cc in
        let q : sum ≡ c = cc in
        record { items = p; count = eqb-true nb items x ∙ p; sum = q; total = eqb-true total sum y ∙ q }
    go true false x y e = never (cc)
    go false b x y e = never (cc)

pub is_compared : (es : List Entry) (n c : ℕ) → Compared (whats es) n c → compared es ≡ accepted n c
unfolding compared
is_compared es n c h = rw (h.items, h.count, h.sum, h.total, eq-eqb n n refl, eq-eqb c c refl)

-- one of a kind: what it says
pub lone : (l : List (List ℕ)) → length l ≡ 1 → l ≡ last_of [] l ∷ []
lone [] h = never (omega arith)
lone (x ∷ []) h = refl
lone (x ∷ y ∷ l) h = never (omega arith)

module _ (f : List ℕ → ℕ) (fs : List (List ℕ) → List ℕ) (nil : fs [] ≡ []) (more : (v : List ℕ) (l : List (List ℕ)) → fs (v ∷ l) ≡ f v ∷ fs l) where
  said-once : (l : List (List ℕ)) (n : ℕ) → length l ≡ 1 → f (last_of [] l) ≡ n → fs l ≡ n ∷ []
  said-once l n h e = ap fs (lone l h) ∙ more (last_of [] l) [] ∙ rw (e, nil)

  once-said : (l : List (List ℕ)) (n : ℕ) → fs l ≡ n ∷ [] → f (last_of [] l) ≡ n
  once-said [] n e = cc
  once-said (x ∷ []) n e = let z : f x ∷ fs [] ≡ n ∷ [] = sym (more x []) ∙ e in cc
  once-said (x ∷ y ∷ l) n e =
      let z : f x ∷ f y ∷ fs l ≡ n ∷ [] = ap (λ (t : List ℕ). f x ∷ t) (sym (more y l)) ∙ sym (more x (y ∷ l)) ∙ e in
      never (cc)

-- ---- an amount that passed is in its range
pub in_range_lem : (r : range.Range) (v : List ℕ) → Passes (amount_given r v) → cents v ≤ most r
unfolding amount_given
in_range_lem r v = go (amount_form v) (between 1 (most r) (cents v)) refl
  where
    go : (a b : Bool) → between 1 (most r) (cents v) ≡ b → Passes (in_order (a else 7 ∷ b else 9 ∷ []) (worth (cents v))) → cents v ≤ most r
    go true true e h = (between_true 1 (most r) (cents v) e).1
    go true false e h = absurd h
    go false b e h = absurd h

-- ---- the payment type stands in the header or in every item, exactly where each item has it unlike the header and it may stand once in the header and in each item
all_as : (b : Bool) (l : List Bool) → Each (λ y. y ≡ b) l → l ≡ replicate (length l) b
all_as b [] h = refl
all_as b (x ∷ l) h = rw (h.0, ← all_as b l h.1)

as_all : (b : Bool) (n : ℕ) → Each (λ y. y ≡ b) (replicate n b)
as_all b zero = tt
as_all b (suc n) = (refl, as_all b n)

pub stands_unlike : (ws : List What) → TypeStands ws → Unlike (types_in ws)
stands_unlike ws (in_header e) = rw e (as_all false (items_in ws))
stands_unlike ws (in_items e) = rw e (as_all true (items_in ws))

unlike_stands : (ws : List What) → length (types_in ws) ≡ suc (items_in ws) → Unlike (types_in ws) → TypeStands ws
unlike_stands ws n = go (types_in ws) refl n
  where
    go : (l : List Bool) → types_in ws ≡ l → length l ≡ suc (items_in ws) → Unlike l → TypeStands ws
    go [] e n h = never (omega arith)
    go (true ∷ l) e n h =
        let z : length l ≡ items_in ws = omega (arith, n) in
        in_header (e ∙ ap (λ (l : List Bool). true ∷ l) (all_as false l h ∙ ap (λ (i : ℕ). replicate i false) z))
    go (false ∷ l) e n h =
        let z : length l ≡ items_in ws = omega (arith, n) in
        in_items (e ∙ ap (λ (l : List Bool). false ∷ l) (all_as true l h ∙ ap (λ (i : ℕ). replicate i true) z))

-- ---- the profile holds of a list exactly where its rules are kept and its header says what stands in it
pub holds_kept : (ws : List What) (n c : ℕ) → Holds ws n c → Kept ws × Compared ws n c
holds_kept ws n c h = (
  record { kinds = h.kinds; typed = stands_unlike ws h.type; alike = h.alike; apart = h.apart; few = omega (arith, h.items, h.few) },
  record {
    items = h.items;
    count = once-said decimal numbers refl (λ v l. refl) (values_of Count ws) n h.count;
    sum = h.cents;
    total = once-said cents amounts refl (λ v l. refl) (values_of Total ws) c h.total;
  },
)

pub kept_holds : (ws : List What) (n c : ℕ) → OneHeader ws → Kept ws → Compared ws n c → Holds ws n c
kept_holds ws n c o k h =
    record {
      kinds = k.kinds;
      type = unlike_stands ws o.types k.typed;
      alike = k.alike;
      apart = k.apart;
      items = h.items;
      few = omega (arith, k.few, h.items);
      count = said-once decimal numbers refl (λ v l. refl) (values_of Count ws) n o.count h.count;
      cents = h.sum;
      total = said-once cents amounts refl (λ v l. refl) (values_of Total ws) c o.total h.total;
    }

-- A list is noted through and accepted exactly when the profile holds of it, where it has one count, one total and as many places for the payment type as is due.
abbrev pub decided : Reading (List Entry) → Judged
decided (on es) = compared es
decided (stop n p) = refused n p

pub holds_decided : (es : List Entry) (n c : ℕ) → Holds (whats es) n c → decided (listed_all es []) ≡ accepted n c
holds_decided es n c h =
    let k = holds_kept (whats es) n c h in
    rw (kept_listed es [] k.0) (is_compared es n c k.1)

pub decided_holds : (es : List Entry) (n c : ℕ) → OneHeader (whats es) → decided (listed_all es []) ≡ accepted n c → Holds (whats es) n c
decided_holds es n c o = go (listed_all es []) refl
  where
    go : (x : Reading (List Entry)) → listed_all es [] ≡ x → decided x ≡ accepted n c → Holds (whats es) n c
    go (stop i p) q e = never (cc)
    go (on u) q e =
        let k = listed_kept es [] u kept_none q in
        kept_holds (whats es) n c o k.0 (compared_is es n c (rw k.1 at e))

-- ---- the judge, of a message that is read through
pub noted_listed : (t : Trace) (q : ℕ) → Whole t q → (es : List Entry) → noted listed t es ≡ onward (listed_all (flat t) es) (λ l. on (record { at = q; notes = l }))
noted_listed (up_to p) q w es = rw w
noted_listed (fault n p) q w es = absurd w
noted_listed (met e t) q w es = go (listed e es) (noted_listed t q w)
  where
    go : (r : Reading (List Entry)) → ((u : List Entry) → noted listed t u ≡ onward (listed_all (flat t) u) (λ l. on (record { at = q; notes = l })))
        → onward r (noted listed t) ≡ onward (onward r (listed_all (flat t))) (λ l. on (record { at = q; notes = l }))
    go (on u) k = k u
    go (stop n p) k = refl

pub judged_listed : (m : List ℕ) (q : ℕ) → Whole (message m) q → judged m ≡ decided (listed_all (flat (message m)) [])
unfolding judged
judged_listed m q w = ap verdict (noted_listed (message m) q w []) ∙ go (listed_all (flat (message m)) [])
  where
    go : (r : Reading (List Entry)) → verdict (onward r (λ l. on (record { at = q; notes = l }))) ≡ decided r
    go (on u) = refl
    go (stop n p) = refl

pub record ReadThrough (m : List ℕ) : Type 0 where
  pub to : ℕ
  pub whole : Whole (message m) to

-- what is accepted is read through
pub accepted_through : (m : List ℕ) (n c : ℕ) → judged m ≡ accepted n c → ReadThrough m
unfolding judged
accepted_through m n c = go (noted listed (message m) []) refl
  where
    go : (x : Reading (Ended (List Entry))) → noted listed (message m) [] ≡ x → verdict x ≡ accepted n c → ReadThrough m
    go (on r) q e = record { to = r.at; whole = goes_whole (message m) [] r q }
    go (stop i p) q e = never (cc)
