-- One count and one total in each message, one TxId, one amount, two IBANs and one identifier in each item: computed on the tree, so true of each document.
use mathlib.Core.Path.{◌≡◌, refl, ◌∙◌}
use mathlib.Core.Bool.{Bool, true, false}
use native.Mathlib.Omega.{arith}
use lib.ListN.{length}
use Rattle.profile.specs.declared.Kind.{Kind}
use Rattle.profile.specs.declared.Kind.TheVariants.{Plain, Count, Total, Amount, Code}
use Rattle.profile.specs.declared.Simple.{Simple}
use Rattle.profile.specs.declared.Simple.TheVariants.{Reference, EndToEnd, Text70, Text140, Date, Time, Bic, Bicfi, Iban, Identifier}
use Rattle.profile.specs.declared.Field.{Field}
use Rattle.profile.specs.declared.Field.TheVariants.{TxId, DbtrIban, CdtrIban, CdtrId}
use Rattle.profile.specs.declared.Version.{Version}
use Rattle.profile.specs.declared.Version.TheVariants.{V02, V08}
use Rattle.profile.specs.Tree.{Shape}
use Rattle.profile.specs.Profile.{is_type, in_item, profile}
use Rattle.reading.specs.Rules.{values_of, values_at}
use Rattle.documents.specs.Document.{Doc, Proper}
use Rattle.documents.specs.Said.{said}
use Rattle.documents.specs.Standing.{OneHeader, OneItem}
use Rattle.documents.proofs.Often.{Weighing, weight, any_item, a_kind, a_field, a_stranger, a_type, times, even, fixed, as_often, balance, weight_items, weight_types, of_kind_lem, at_field}

-- what the tree must show: an element of the kind, or the field, stands once, and is neither left out nor repeated
pub record OnceOf (j : Kind) (sh : Shape) : Type 0 where
  pub fixed : fixed (a_kind j) sh ≡ true
  pub once : times (a_kind j) sh ≡ 1

pub record OnceAt (h : Field) (sh : Shape) : Type 0 where
  pub fixed : fixed (a_field h) sh ≡ true
  pub once : times (a_field h) sh ≡ 1

module _ {sh : Shape} (d : Doc sh) (pr : Proper sh d) where
  pub one_of : (j : Kind) → OnceOf j sh → length (values_of j (said sh d)) ≡ 1
  one_of j o = of_kind_lem j sh o.fixed d pr ∙ o.once

  pub one_at : (h : Field) → OnceAt h sh → length (values_at h (said sh d)) ≡ 1
  one_at h o = at_field h sh o.fixed d pr ∙ o.once

-- ---- the profile's tree shows it
pub counts : (v : Version) → OnceOf Count (profile v)
unfolding profile
counts V02 = record { fixed = refl; once = refl }
counts V08 = record { fixed = refl; once = refl }

pub totals : (v : Version) → OnceOf Total (profile v)
unfolding profile
totals V02 = record { fixed = refl; once = refl }
totals V08 = record { fixed = refl; once = refl }

-- the payment type may stand as often as there are items, and once more
pub types_even : (v : Version) → (even a_type any_item (profile v) ≡ true) × (times a_type (profile v) ≡ 2) × (times any_item (profile v) ≡ 1)
unfolding profile is_type
types_even V02 = (refl, refl, refl)
types_even V08 = (refl, refl, refl)

pub item_ids : (v : Version) → OnceAt TxId (in_item v)
unfolding in_item
item_ids V02 = record { fixed = refl; once = refl }
item_ids V08 = record { fixed = refl; once = refl }

pub item_amounts : (v : Version) → OnceOf Amount (in_item v)
unfolding in_item
item_amounts V02 = record { fixed = refl; once = refl }
item_amounts V08 = record { fixed = refl; once = refl }

pub item_debtors : (v : Version) → OnceAt DbtrIban (in_item v)
unfolding in_item
item_debtors V02 = record { fixed = refl; once = refl }
item_debtors V08 = record { fixed = refl; once = refl }

pub item_creditors : (v : Version) → OnceAt CdtrIban (in_item v)
unfolding in_item
item_creditors V02 = record { fixed = refl; once = refl }
item_creditors V08 = record { fixed = refl; once = refl }

pub item_identifiers : (v : Version) → OnceAt CdtrId (in_item v)
unfolding in_item
item_identifiers V02 = record { fixed = refl; once = refl }
item_identifiers V08 = record { fixed = refl; once = refl }

-- ---- each TxId is a reference
abbrev is_reference_simple : Simple → Bool
is_reference_simple Reference = true
is_reference_simple EndToEnd = false
is_reference_simple Text70 = false
is_reference_simple Text140 = false
is_reference_simple Date = false
is_reference_simple Time = false
is_reference_simple Bic = false
is_reference_simple Bicfi = false
is_reference_simple Iban = false
is_reference_simple Identifier = false

abbrev pub is_reference : Kind → Bool
is_reference (Plain s) = is_reference_simple s
is_reference Count = false
is_reference Total = false
is_reference Amount = false
is_reference (Code e) = false

abbrev pub stray_ids : Weighing
stray_ids = a_stranger TxId is_reference

no_stray : (v : Version) → (fixed stray_ids (profile v) ≡ true) × (times stray_ids (profile v) ≡ 0)
unfolding profile
no_stray V02 = (refl, refl)
no_stray V08 = (refl, refl)

no_stray_item : (v : Version) → (fixed stray_ids (in_item v) ≡ true) × (times stray_ids (in_item v) ≡ 0)
unfolding in_item
no_stray_item V02 = (refl, refl)
no_stray_item V08 = (refl, refl)

pub item_references : (v : Version) (d : Doc (in_item v)) → Proper (in_item v) d → weight stray_ids (said (in_item v) d) ≡ 0
item_references v d pr = as_often stray_ids (in_item v) (no_stray_item v).0 d pr ∙ (no_stray_item v).1

pub ids_references : (v : Version) (d : Doc (profile v)) → Proper (profile v) d → weight stray_ids (said (profile v) d) ≡ 0
ids_references v d pr = as_often stray_ids (profile v) (no_stray v).0 d pr ∙ (no_stray v).1

-- In each message there stand one count and one total, and the payment type may stand once in its header and once in each item.
pub one_header : (v : Version) (d : Doc (profile v)) → Proper (profile v) d → OneHeader (said (profile v) d)
one_header v d pr =
    let e = types_even v in
    let ws = said (profile v) d in
    record {
      count = one_of d pr Count (counts v);
      total = one_of d pr Total (totals v);
      types = omega (arith, balance a_type any_item (profile v) e.0 d pr, e.1, e.2, weight_types ws, weight_items ws);
    }

-- In each item there stand one TxId, one amount, the debtor's IBAN and the creditor's, and one creditor identifier.
pub one_item : (v : Version) (d : Doc (in_item v)) → Proper (in_item v) d → OneItem (said (in_item v) d)
one_item v d pr =
    record {
      tx_id = one_at d pr TxId (item_ids v);
      amount = one_of d pr Amount (item_amounts v);
      debtor = one_at d pr DbtrIban (item_debtors v);
      creditor = one_at d pr CdtrIban (item_creditors v);
      identifier = one_at d pr CdtrId (item_identifiers v);
    }
