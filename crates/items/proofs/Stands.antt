-- One item that was read: it can be read again alone, from before it to behind it.
use mathlib.Core.Path.{◌≡◌, refl, ap, ◌∙◌}
use mathlib.Core.Bool.{true}
use mathlib.Core.List.{List, [], ◌∷◌, ◌++◌, append-nil}
use Prim.Native.Nat.{ℕ, ◌+◌, ◌≤◌}
use native.Mathlib.Omega.{arith}
use lib.ListN.{length, drop}
use Rattle.tags.specs.declared.Look.TheVariants.{Whole as Lies}
use Rattle.tags.specs.Tags.{skipped, look, plain_tag}
use Rattle.profile.specs.declared.Version.{Version}
use Rattle.profile.specs.declared.Version.TheVariants.{V02, V08}
use Rattle.profile.specs.Tree.{many}
use Rattle.profile.specs.Profile.{is_type, item_name, in_item}
use Rattle.reading.specs.Trace.{item_begins, item_ends, Entry, ◌at◌, Trace, met, up_to, fault, and_then, ends, trace}
use Rattle.reading.specs.Noted.{on, Ended, noted}
use Rattle.reading.specs.Rules.{types_in}
use Rattle.reading.specs.Judged.{whats, listed}
use Rattle.reading.proofs.Lists.{whats_append, types_append}
use Rattle.reading.proofs.Flat.{flat, Goes, Whole, goes_whole, split}
use Rattle.documents.proofs.Often.{a_type, weight, times, fixed, as_often, weight_types}
use Rattle.documents.proofs.Sound.{trace_found}
use Rattle.items.specs.Alone.{item_tag, item_body, alone}
use Rattle.items.specs.Chain.{Stands}
use Rattle.items.proofs.Anew.{goes_anew}
use Rattle.items.proofs.Parts.{ends_within}
use Rattle.items.proofs.Inner.{item_lies}

pub then_none : (t : Trace) → and_then t up_to ≡ t
then_none (met e t) = ap (met e) (then_none t)
then_none (up_to p) = refl
then_none (fault n q) = refl

item_type : (v : Version) → (fixed a_type (in_item v) ≡ true) × (times a_type (in_item v) ≡ 1)
unfolding in_item is_type
item_type V02 = (refl, refl)
item_type V08 = (refl, refl)

module _ (v : Version) (m : List ℕ) where
  -- what lies behind an item's start tag
  abbrev pub inside : ℕ → Trace
  inside a = trace (in_item v) m (a + length (plain_tag item_name))

  pub item_flat : (a q : ℕ) → Whole (item_body v m a) q → flat (item_body v m a) ≡ (item_begins at a) ∷ (flat (inside a) ++ ((item_ends at q) ∷ []))
  item_flat a q w =
      let s = split (inside a) (ends many) q w in
      let z : s.mid ≡ q = s.then in
      ap (λ (l : List Entry). (item_begins at a) ∷ l) (s.entries ∙ rw z)

  pub as_alone : (p : ℕ) → look item_tag (drop (skipped m p) m) ≡ Lies → alone v m p ≡ item_body v m (skipped m p)
  unfolding alone
  as_alone p w = rw w (then_none (item_body v m (skipped m p)))

  pub item_within : (a q : ℕ) → Whole (item_body v m a) q → q ≤ length m
  item_within a q w =
      let s = split (inside a) (ends many) q w in
      let z : s.mid ≡ q = s.then in
      rw z at (ends_within m (in_item v) (a + length (plain_tag item_name)) s.mid s.first)

  -- the payment type may stand in it once
  item-types : (a q : ℕ) → Whole (item_body v m a) q → length (types_in (whats (flat (item_body v m a)))) ≡ 1
  item-types a q w =
      let s = split (inside a) (ends many) q w in
      let f = trace_found m (in_item v) (a + length (plain_tag item_name)) s.mid s.first in
      let z : types_in (whats (flat (item_body v m a))) ≡ types_in (whats (flat (inside a))) ++ [] =
      ap (λ (l : List Entry). types_in (whats l)) (item_flat a q w)
      ∙ (ap types_in (whats_append (flat (inside a)) ((item_ends at q) ∷ [])) ∙ types_append (whats (flat (inside a))) (item_ends ∷ [])) in
      ap length (z ∙ append-nil (types_in (whats (flat (inside a)))))
      ∙ (weight_types (whats (flat (inside a))) ∙ (ap (weight a_type) f.part.says ∙ (as_often a_type (in_item v) (item_type v).0 f.doc f.proper ∙ (item_type v).1)))

  pub item_stands : (p : ℕ) → look item_tag (drop (skipped m p) m) ≡ Lies → (es : List Entry) (r : Ended (List Entry)) → Goes (item_body v m (skipped m p)) es r
      → Stands v m p (record { from = skipped m p; to = r.at; holds = whats (flat (inside (skipped m p))) })
  item_stands p w es r e =
      let a = skipped m p in
      let x : Whole (item_body v m a) r.at = goes_whole (item_body v m a) es r e in
      let s = split (inside a) (ends many) r.at x in
      let g : noted listed (item_body v m a) [] ≡ on (record { at = r.at; notes = (item_begins at a) ∷ (flat (inside a) ++ ((item_ends at r.at) ∷ [])) }) =
      rw (item_flat a r.at x) at (goes_anew (item_body v m a) es r (omega (arith, item-types a r.at x)) e) in
      record {
        from = refl;
        inner = flat (inside a);
        alone = rw (as_alone p w) g;
        holds = refl;
        lie = item_lies m v (a + length (plain_tag item_name));
        within = item_within a r.at x;
      }
