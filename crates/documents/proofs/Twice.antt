-- A list of what was read that keeps the rules, and behind it the last item's beginning once more: it is refused at the TxId, or as item 10,001.
use mathlib.Core.Path.{◌≡◌, refl, sym, ap, ◌∙◌}
use mathlib.Core.Bool.{Bool, true, false, not}
use mathlib.Core.List.{List, [], ◌∷◌, ◌++◌, append-nil, append_assoc}
use Prim.Native.Nat.{ℕ, suc, ◌+◌, ◌≤◌}
use native.Mathlib.Omega.{arith}
use borrow.Author.Tests.{le-ltb}
use lib.ListN.{length}
use Rattle.text.specs.Truth.{pick}
use Rattle.text.specs.Quoted.{alike}
use Rattle.text.proofs.Truths.{never}
use Rattle.answers.specs.Given.{Given, yes, worth, refused as no, ◌else◌, in_order}
use Rattle.codes.specs.declared.Element.TheVariants.{LclInstrm}
use Rattle.profile.specs.declared.Kind.{Kind}
use Rattle.profile.specs.declared.Kind.TheVariants.{Plain, Count, Total, Amount, Code}
use Rattle.profile.specs.declared.Field.{Field}
use Rattle.profile.specs.declared.Field.TheVariants.{TxId}
use Rattle.profile.specs.Limits.{most_items}
use Rattle.profile.specs.Kinds.{same_kind}
use Rattle.profile.specs.Fields.{same_field}
use Rattle.kinds.specs.Given.{kind_given}
use Rattle.reading.specs.Trace.{What, item_begins, item_ends, there, absent, value}
use Rattle.reading.specs.Rules.{items_in, gathered, of_kind, values_of, of_field, values_at, of_type, types_in, first_of, stands_in, ◌so◌, own_kind, fitting, weighed}
use Rattle.reading.proofs.Lists.{items_append, gathered_append}
use Rattle.documents.specs.Document.{Each}
use Rattle.documents.specs.Holds.{Passes, AsFirst, Alike, Apart}
use Rattle.documents.proofs.Each.{each_both, each_first, each_rest}
use Rattle.documents.proofs.Apart.{stands_among_lem}
use Rattle.documents.proofs.Often.{weight}
use Rattle.documents.proofs.Standing.{is_reference, stray_ids}
use Rattle.documents.proofs.Lists.{Unlike, Kept}

-- ---- the first TxId of a list, which is a reference
pub record FirstId (ws : List What) : Type 0 where
  pub before : List What
  pub kind : Kind
  pub field : Field
  pub bytes : List ℕ
  pub after : List What
  pub is : ws ≡ before ++ (value kind field bytes ∷ after)
  pub none : values_at TxId before ≡ []
  pub id : same_field field TxId ≡ true
  pub reference : is_reference kind ≡ true

later : (w : What) (l : List What) → of_field TxId w ≡ [] → FirstId l → FirstId (w ∷ l)
later w l e r =
    record {
      before = w ∷ r.before;
      kind = r.kind;
      field = r.field;
      bytes = r.bytes;
      after = r.after;
      is = ap (λ (x : List What). w ∷ x) r.is;
      none = rw (e, r.none);
      id = r.id;
      reference = r.reference;
    }

pub first_id : (ws : List What) → 1 ≤ length (values_at TxId ws) → weight stray_ids ws ≡ 0 → FirstId ws
first_id [] n h = never (omega arith)
first_id (item_begins ∷ l) n h = later item_begins l refl (first_id l n (omega (arith, h)))
first_id (item_ends ∷ l) n h = later item_ends l refl (first_id l n (omega (arith, h)))
first_id (there s ∷ l) n h = later (there s) l refl (first_id l n (omega (arith, h)))
first_id (absent s ∷ l) n h = later (absent s) l refl (first_id l n (omega (arith, h)))
first_id (value k f v ∷ l) n h = go (same_field f TxId) (is_reference k) refl refl (first_id l) n h
  where
    go : (a b : Bool) → same_field f TxId ≡ a → is_reference k ≡ b → (1 ≤ length (values_at TxId l) → weight stray_ids l ≡ 0 → FirstId l)
        → 1 ≤ length (pick a (v ∷ []) [] ++ values_at TxId l) → pick a (pick b 0 1) 0 + weight stray_ids l ≡ 0 → FirstId (value k f v ∷ l)
    go true true x y r n h = record { before = []; kind = k; field = f; bytes = v; after = l; is = refl; none = refl; id = x; reference = y }
    go true false x y r n h = never (omega (arith, h))
    go false b x y r n h = later (value k f v) l (rw x) (r n (omega (arith, h)))

-- ---- lists whose others are as the first asks, with some of them once more
first_again : {A : Type 0} (R : A → A → Type 0) (a b c : List A) → 1 ≤ length a → AsFirst R (a ++ (b ++ c)) → AsFirst R ((a ++ (b ++ c)) ++ b)
first_again R [] b c n h = never (omega arith)
first_again R (x ∷ a) b c n h = each_both (R x) (a ++ (b ++ c)) b h (each_first (R x) b c (each_rest (R x) a (b ++ c) h))

alike_again : (a b c : List (List ℕ)) → Alike (a ++ (b ++ c)) → Alike ((a ++ (b ++ c)) ++ b)
alike_again (x ∷ a) b c h = first_again (λ v w. w ≡ v) (x ∷ a) b c (omega arith) h
alike_again [] [] c h = rw (append-nil c) h
alike_again [] (x ∷ b) c h = each_both (λ w. w ≡ x) (b ++ c) (x ∷ b) h (refl, each_first (λ w. w ≡ x) b c h)

-- an item that is said behind others, in two parts, and its first part once more
module _ (q a b : List What) where
  abbrev pub as_item : List What → List What
  as_item s = item_begins ∷ (s ++ (item_ends ∷ []))

  abbrev pub once : List What
  once = q ++ as_item (a ++ b)

  abbrev pub again : List What
  again = once ++ (item_begins ∷ a)

  once-gathered : {T : Type 0} (f : What → List T) → f item_begins ≡ [] → gathered f once ≡ gathered f q ++ (gathered f a ++ gathered f (b ++ (item_ends ∷ [])))
  once-gathered {T} f e =
      gathered_append f q (as_item (a ++ b))
      ∙ rw (e, append_assoc a b (item_ends ∷ [])) (ap (λ (l : List T). gathered f q ++ l) (gathered_append f a (b ++ (item_ends ∷ []))))

  again-gathered : {T : Type 0} (f : What → List T) → f item_begins ≡ [] → gathered f again ≡ gathered f once ++ gathered f a
  again-gathered f e = gathered_append f once (item_begins ∷ a) ∙ rw e

  pub again_kept : Kept once → 1 ≤ length (types_in q) → suc (items_in once) ≤ most_items → items_in a ≡ 0 → values_at TxId a ≡ [] → Kept again
  again_kept h n m i e =
      record {
        kinds =
            let P : What → Type 0 = λ w. Passes (own_kind w) in
            each_both P once (item_begins ∷ a) h.kinds (tt, each_first P a b (each_first P (a ++ b) (item_ends ∷ []) (each_rest P q (as_item (a ++ b)) h.kinds).1));
        typed =
            rw (again-gathered of_type refl, once-gathered of_type refl)
            (first_again (λ x y. y ≡ not x) (types_in q) (types_in a) (types_in (b ++ (item_ends ∷ []))) n (rw (once-gathered of_type refl) at h.typed));
        alike =
            let L = Code LclInstrm in
            rw (again-gathered (of_kind L) refl, once-gathered (of_kind L) refl)
            (alike_again (values_of L q) (values_of L a) (values_of L (b ++ (item_ends ∷ []))) (rw (once-gathered (of_kind L) refl) at h.alike));
        apart = rw (again-gathered (of_field TxId) refl, e, append-nil (values_at TxId once)) h.apart;
        few = omega (arith, m, i, items_append once (item_begins ∷ a));
      }

-- ---- what is refused
-- no room for an item
pub full_refused : (ws : List What) → items_in ws ≡ most_items → weighed ws item_begins ≡ no 12
full_refused ws e = rw (le-ltb (items_in ws) most_items (omega (arith, e)))

no_service : (k : Kind) → is_reference k ≡ true → same_kind k (Code LclInstrm) ≡ false
no_service (Plain s) e = refl
no_service Count e = never (cc)
no_service Total e = never (cc)
no_service Amount e = never (cc)
no_service (Code c) e = never (cc)

-- a TxId that stands before
pub again_refused : (ws : List What) (k : Kind) (f : Field) (v : List ℕ) → Passes (kind_given k v) → is_reference k ≡ true → same_field f TxId ≡ true
    → stands_in v (values_at TxId ws) ≡ true → weighed ws (value k f v) ≡ no 24
again_refused ws k f v p r i s = rw (no_service k r, i, s) (go (kind_given k v) p)
  where
    go : (g : Given) → Passes g → fitting g (in_order ((false so alike (first_of v (values_of (Code LclInstrm) ws)) v) else 11 ∷ (true so not true) else 24 ∷ []) yes) ≡ no 24
    go yes p = refl
    go (worth n) p = refl
    go (no n) p = absurd p

-- an item's TxId, where it was said to its end before
pub twice_refused : (q a b : List What) (k : Kind) (f : Field) (v : List ℕ) → Kept (once q a (value k f v ∷ b)) → is_reference k ≡ true → same_field f TxId ≡ true
    → weighed (again q a (value k f v ∷ b)) (value k f v) ≡ no 24
twice_refused q a b k f v h r i = again_refused (again q a (value k f v ∷ b)) k f v passed r i among
  where
    P : What → Type 0
    P w = Passes (own_kind w)

    passed : Passes (kind_given k v)
    passed =
        let s = a ++ (value k f v ∷ b) in
        (each_rest P a (value k f v ∷ b) (each_first P s (item_ends ∷ []) (each_rest P q (as_item q a (value k f v ∷ b) s) h.kinds).1)).0

    ids : List What → List (List ℕ)
    ids = values_at TxId

    among : stands_in v (ids (again q a (value k f v ∷ b))) ≡ true
    among =
        let z : ids (again q a (value k f v ∷ b)) ≡ (ids q ++ ids a) ++ (v ∷ (ids (b ++ (item_ends ∷ [])) ++ ids a)) =
        again-gathered q a (value k f v ∷ b) (of_field TxId) refl ∙ rw (once-gathered q a (value k f v ∷ b) (of_field TxId) refl, i) (simp append_assoc) in
        rw z (stands_among_lem v (ids q ++ ids a) (ids (b ++ (item_ends ∷ [])) ++ ids a))
