-- Where the profile holds of what a document says, it holds with each value as it is meant, with the same count and cents.
use mathlib.Core.Path.{◌≡◌, refl, sym, ap, ◌∙◌, subst}
use mathlib.Core.List.{List, [], ◌∷◌, ◌++◌}
use Prim.Native.Nat.{ℕ, ◌+◌}
use Rattle.text.specs.Truth.{pick}
use Rattle.text.specs.Quoted.{decimal}
use Rattle.answers.specs.Given.{Given, yes, worth, refused, number_of}
use Rattle.codes.specs.declared.Element.{Element}
use Rattle.codes.specs.declared.Element.TheVariants.{LclInstrm}
use Rattle.money.specs.Amount.{cents}
use Rattle.money.proofs.Plain.{zeros_number, plain_cents}
use Rattle.profile.specs.declared.Kind.{Kind}
use Rattle.profile.specs.declared.Kind.TheVariants.{Plain, Count, Total, Amount, Code}
use Rattle.profile.specs.declared.Field.TheVariants.{TxId}
use Rattle.profile.specs.Kinds.{same_kind}
use Rattle.kinds.specs.Given.{kind_given}
use Rattle.kinds.specs.Meant.{as_meant}
use Rattle.kinds.proofs.Meant.{meant_given}
use Rattle.reading.specs.Trace.{What, item_begins, item_ends, there, absent, value}
use Rattle.reading.specs.Rules.{begun, items_in, of_kind, values_of, values_at, sum_of, cents_in, own_kind, of_type, types_in}
use Rattle.documents.specs.Document.{Each}
use Rattle.documents.specs.Holds.{Passes, Alike, Apart, TypeStands, in_header, in_items, numbers, amounts, Holds}
use Rattle.forms.proofs.Said.{meant_in, meant_all}

-- what passes is not refused
pub passes_none : (g : Given) → Passes g → number_of g ≡ 0
passes_none yes p = refl
passes_none (worth n) p = refl
passes_none (refused n) p = absurd p

-- ---- kinds
meant_own : (w : What) → Passes (own_kind w) → Passes (own_kind (meant_in w))
meant_own item_begins p = tt
meant_own item_ends p = tt
meant_own (there n) p = tt
meant_own (absent n) p = tt
meant_own (value k f v) p = subst Passes (sym (meant_given k v (passes_none (kind_given k v) p))) p

meant_kinds : (ws : List What) → Each (λ w. Passes (own_kind w)) ws → Each (λ w. Passes (own_kind w)) (meant_all ws)
meant_kinds [] h = tt
meant_kinds (w ∷ l) h = (meant_own w h.0, meant_kinds l h.1)

-- ---- items
meant_begun : (w : What) → begun (meant_in w) ≡ begun w
meant_begun item_begins = refl
meant_begun item_ends = refl
meant_begun (there n) = refl
meant_begun (absent n) = refl
meant_begun (value k f v) = refl

pub meant_items : (ws : List What) → items_in (meant_all ws) ≡ items_in ws
meant_items [] = refl
meant_items (w ∷ l) = rw (meant_begun w, meant_items l)

-- ---- the payment type
meant_type : (w : What) → of_type (meant_in w) ≡ of_type w
meant_type item_begins = refl
meant_type item_ends = refl
meant_type (there n) = refl
meant_type (absent n) = refl
meant_type (value k f v) = refl

meant_types : (ws : List What) → types_in (meant_all ws) ≡ types_in ws
meant_types [] = refl
meant_types (w ∷ l) = rw (meant_type w, meant_types l)

meant_stands : (ws : List What) → TypeStands ws → TypeStands (meant_all ws)
meant_stands ws (in_header e) = in_header (meant_types ws ∙ (e ∙ rw (meant_items ws)))
meant_stands ws (in_items e) = in_items (meant_types ws ∙ (e ∙ rw (meant_items ws)))

-- ---- the values of a kind, by what is asked of them: a number of each, which is the same as meant
abbrev pub each : {A : Type 0} → (List ℕ → A) → List (List ℕ) → List A
each g [] = []
each g (v ∷ l) = g v ∷ each g l

module _ {A : Type 0} (g : List ℕ → A) where
  pub each_append : (a b : List (List ℕ)) → each g (a ++ b) ≡ each g a ++ each g b
  each_append [] b = refl
  each_append (v ∷ a) b = ap (λ (l : List A). g v ∷ l) (each_append a b)

  module _ (j : Kind) (same : (k : Kind) (v : List ℕ) → each g (pick (same_kind k j) (as_meant k v ∷ []) []) ≡ each g (pick (same_kind k j) (v ∷ []) [])) where
    each_of : (w : What) → each g (of_kind j (meant_in w)) ≡ each g (of_kind j w)
    each_of item_begins = refl
    each_of item_ends = refl
    each_of (there n) = refl
    each_of (absent n) = refl
    each_of (value k f v) = same k v

    each-values : (ws : List What) → each g (values_of j (meant_all ws)) ≡ each g (values_of j ws)
    each-values [] = refl
    each-values (w ∷ l) =
        each_append (of_kind j (meant_in w)) (values_of j (meant_all l)) ∙ (rw (each_of w, each-values l) (sym (each_append (of_kind j w) (values_of j l))))

pub each_itself : (l : List (List ℕ)) → each (λ v. v) l ≡ l
each_itself [] = refl
each_itself (v ∷ l) = ap (λ (k : List (List ℕ)). v ∷ k) (each_itself l)

-- a code is as read
meant_services : (ws : List What) → values_of (Code LclInstrm) (meant_all ws) ≡ values_of (Code LclInstrm) ws
meant_services ws =
    sym (each_itself (values_of (Code LclInstrm) (meant_all ws))) ∙ each-values (λ v. v) (Code LclInstrm) same ws ∙ each_itself (values_of (Code LclInstrm) ws)
  where
    same : (k : Kind) (v : List ℕ) → each (λ v. v) (pick (same_kind k (Code LclInstrm)) (as_meant k v ∷ []) []) ≡ each (λ v. v) (pick (same_kind k (Code LclInstrm)) (v ∷ []) [])
    same (Plain s) v = refl
    same Count v = refl
    same Total v = refl
    same Amount v = refl
    same (Code c) v = refl

-- a count says the same number, and an amount the same cents
meant_counts : (ws : List What) → each decimal (values_of Count (meant_all ws)) ≡ each decimal (values_of Count ws)
meant_counts = each-values decimal Count same
  where
    same : (k : Kind) (v : List ℕ) → each decimal (pick (same_kind k Count) (as_meant k v ∷ []) []) ≡ each decimal (pick (same_kind k Count) (v ∷ []) [])
    same (Plain s) v = refl
    same Count v = ap (λ (n : ℕ). n ∷ []) (zeros_number v)
    same Total v = refl
    same Amount v = refl
    same (Code c) v = refl

meant_totals : (ws : List What) → each cents (values_of Total (meant_all ws)) ≡ each cents (values_of Total ws)
meant_totals = each-values cents Total same
  where
    same : (k : Kind) (v : List ℕ) → each cents (pick (same_kind k Total) (as_meant k v ∷ []) []) ≡ each cents (pick (same_kind k Total) (v ∷ []) [])
    same (Plain s) v = refl
    same Count v = refl
    same Total v = ap (λ (n : ℕ). n ∷ []) (plain_cents v)
    same Amount v = refl
    same (Code c) v = refl

pub meant_amounts : (ws : List What) → each cents (values_of Amount (meant_all ws)) ≡ each cents (values_of Amount ws)
meant_amounts = each-values cents Amount same
  where
    same : (k : Kind) (v : List ℕ) → each cents (pick (same_kind k Amount) (as_meant k v ∷ []) []) ≡ each cents (pick (same_kind k Amount) (v ∷ []) [])
    same (Plain s) v = refl
    same Count v = refl
    same Total v = refl
    same Amount v = ap (λ (n : ℕ). n ∷ []) (plain_cents v)
    same (Code c) v = refl

-- ---- what the header says, and the sum
numbers_each : (l : List (List ℕ)) → numbers l ≡ each decimal l
numbers_each [] = refl
numbers_each (v ∷ l) = ap (λ (k : List ℕ). decimal v ∷ k) (numbers_each l)

amounts_each : (l : List (List ℕ)) → amounts l ≡ each cents l
amounts_each [] = refl
amounts_each (v ∷ l) = ap (λ (k : List ℕ). cents v ∷ k) (amounts_each l)

abbrev sum : List ℕ → ℕ
sum [] = 0
sum (n ∷ l) = n + sum l

sum_each : (l : List (List ℕ)) → sum_of l ≡ sum (each cents l)
sum_each [] = refl
sum_each (v ∷ l) = ap (λ (n : ℕ). cents v + n) (sum_each l)

-- Of a document of which the profile holds, it holds of the plain form too, where TxId is as read.
pub meant_holds : (ws : List What) (n c : ℕ) → values_at TxId (meant_all ws) ≡ values_at TxId ws → Holds ws n c → Holds (meant_all ws) n c
meant_holds ws n c ids h = record {
  kinds = meant_kinds ws h.kinds;
  type = meant_stands ws h.type;
  alike = subst Alike (sym (meant_services ws)) h.alike;
  apart = subst Apart (sym ids) h.apart;
  items = meant_items ws ∙ h.items;
  few = h.few;
  count = numbers_each (values_of Count (meant_all ws)) ∙ meant_counts ws ∙ sym (numbers_each (values_of Count ws)) ∙ h.count;
  cents = sum_each (values_of Amount (meant_all ws)) ∙ ap sum (meant_amounts ws) ∙ sym (sum_each (values_of Amount ws)) ∙ h.cents;
  total = amounts_each (values_of Total (meant_all ws)) ∙ meant_totals ws ∙ sym (amounts_each (values_of Total ws)) ∙ h.total;
}
