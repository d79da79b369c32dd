-- Two accepted items with equal records agree in every field recorded.
use mathlib.Core.Path.{◌≡◌, refl, sym, ap, ◌∙◌}
use mathlib.Core.Bool.{Bool, true}
use mathlib.Core.List.{List, [], ◌∷◌}
use Prim.Native.Nat.{ℕ, ◌+◌, ◌≤◌, ◌<◌, ◌^◌}
use native.Mathlib.Omega.{arith}
use borrow.Author.Tests.{leb-true}
use lib.ListN.{length, replicate}
use Rattle.text.proofs.Truths.{never}
use Rattle.money.specs.declared.Range.TheVariants.{Item as item_range}
use Rattle.money.specs.Amount.{cents, most}
use Rattle.words.specs.Collapsed.{collapsed}
use Rattle.profile.specs.declared.Kind.{Kind}
use Rattle.profile.specs.declared.Kind.TheVariants.{Amount}
use Rattle.profile.specs.declared.Simple.{Simple}
use Rattle.profile.specs.declared.Simple.TheVariants.{Reference, EndToEnd, Date, Bic, Bicfi, Iban, Identifier}
use Rattle.profile.specs.declared.Field.{Field}
use Rattle.profile.specs.declared.Field.TheVariants.{TxId, EndToEndId, MndtId, DbtrIban, CdtrIban, DbtrBic, ReqdColltnDt, SeqTp, CdtrId, CdtrBic, InstrId, LclInstrm, DtOfSgntr}
use Rattle.profile.specs.declared.Version.{Version}
use Rattle.profile.specs.declared.Version.TheVariants.{V02, V08}
use Rattle.profile.specs.Profile.{in_header, in_item}
use Rattle.kinds.specs.Given.{kind_given}
use Rattle.reading.specs.Trace.{What}
use Rattle.reading.specs.Rules.{values_of, values_at}
use Rattle.reading.specs.Judged.{last_of}
use Rattle.postings.specs.Record.{padded, digits, value_for, cents_for, record_for}
use Rattle.postings.proofs.Long.{length_digits}
use Rattle.documents.specs.Holds.{Passes}
use Rattle.bulks.proofs.Typed.{InEach, instrument, sequence}
use Rattle.padding.specs.Agree.{AcceptedItem, says, Same, as_read, SameIfAny, absent, present, Agree}
use Rattle.padding.proofs.Padded.{padded_one, same_ends, last_field, digits_one}
use Rattle.padding.proofs.Legal.{Written, a_plain, Fits, plain_fits, a_bic, bic_fits, a_code, code_fits}
use Rattle.padding.proofs.Values.{Sorted, Own, version, One, OneOrNone, none, some, own_one, wherever_one, instruction_or_none, amount_one}

-- ---- the tree gives each recorded field its kind, and its place: the item, or the payment type
pub record Placed (t : Kind → Bool) (f : Field) (v : Version) : Type 0 where
  pub own : Own f v
  pub sorted : Sorted t f v

tx_id_lem : (v : Version) → Placed (a_plain Reference) TxId v
unfolding in_header in_item
tx_id_lem V02 = record { own = record { above = (refl, refl); once = record { fixed = refl; once = refl } }; sorted = record { header = (refl, refl); item = (refl, refl) } }
tx_id_lem V08 = record { own = record { above = (refl, refl); once = record { fixed = refl; once = refl } }; sorted = record { header = (refl, refl); item = (refl, refl) } }

end_to_end_lem : (v : Version) → Placed (a_plain EndToEnd) EndToEndId v
unfolding in_header in_item
end_to_end_lem V02 = record { own = record { above = (refl, refl); once = record { fixed = refl; once = refl } }; sorted = record { header = (refl, refl); item = (refl, refl) } }
end_to_end_lem V08 = record { own = record { above = (refl, refl); once = record { fixed = refl; once = refl } }; sorted = record { header = (refl, refl); item = (refl, refl) } }

mandate : (v : Version) → Placed (a_plain Reference) MndtId v
unfolding in_header in_item
mandate V02 = record { own = record { above = (refl, refl); once = record { fixed = refl; once = refl } }; sorted = record { header = (refl, refl); item = (refl, refl) } }
mandate V08 = record { own = record { above = (refl, refl); once = record { fixed = refl; once = refl } }; sorted = record { header = (refl, refl); item = (refl, refl) } }

debtor_iban : (v : Version) → Placed (a_plain Iban) DbtrIban v
unfolding in_header in_item
debtor_iban V02 = record { own = record { above = (refl, refl); once = record { fixed = refl; once = refl } }; sorted = record { header = (refl, refl); item = (refl, refl) } }
debtor_iban V08 = record { own = record { above = (refl, refl); once = record { fixed = refl; once = refl } }; sorted = record { header = (refl, refl); item = (refl, refl) } }

creditor_iban : (v : Version) → Placed (a_plain Iban) CdtrIban v
unfolding in_header in_item
creditor_iban V02 = record { own = record { above = (refl, refl); once = record { fixed = refl; once = refl } }; sorted = record { header = (refl, refl); item = (refl, refl) } }
creditor_iban V08 = record { own = record { above = (refl, refl); once = record { fixed = refl; once = refl } }; sorted = record { header = (refl, refl); item = (refl, refl) } }

debtor_bic : (v : Version) → Placed a_bic DbtrBic v
unfolding in_header in_item
debtor_bic V02 = record { own = record { above = (refl, refl); once = record { fixed = refl; once = refl } }; sorted = record { header = (refl, refl); item = (refl, refl) } }
debtor_bic V08 = record { own = record { above = (refl, refl); once = record { fixed = refl; once = refl } }; sorted = record { header = (refl, refl); item = (refl, refl) } }

collection : (v : Version) → Placed (a_plain Date) ReqdColltnDt v
unfolding in_header in_item
collection V02 = record { own = record { above = (refl, refl); once = record { fixed = refl; once = refl } }; sorted = record { header = (refl, refl); item = (refl, refl) } }
collection V08 = record { own = record { above = (refl, refl); once = record { fixed = refl; once = refl } }; sorted = record { header = (refl, refl); item = (refl, refl) } }

creditor : (v : Version) → Placed (a_plain Identifier) CdtrId v
unfolding in_header in_item
creditor V02 = record { own = record { above = (refl, refl); once = record { fixed = refl; once = refl } }; sorted = record { header = (refl, refl); item = (refl, refl) } }
creditor V08 = record { own = record { above = (refl, refl); once = record { fixed = refl; once = refl } }; sorted = record { header = (refl, refl); item = (refl, refl) } }

creditor_bic : (v : Version) → Placed a_bic CdtrBic v
unfolding in_header in_item
creditor_bic V02 = record { own = record { above = (refl, refl); once = record { fixed = refl; once = refl } }; sorted = record { header = (refl, refl); item = (refl, refl) } }
creditor_bic V08 = record { own = record { above = (refl, refl); once = record { fixed = refl; once = refl } }; sorted = record { header = (refl, refl); item = (refl, refl) } }

signature : (v : Version) → Placed (a_plain Date) DtOfSgntr v
unfolding in_header in_item
signature V02 = record { own = record { above = (refl, refl); once = record { fixed = refl; once = refl } }; sorted = record { header = (refl, refl); item = (refl, refl) } }
signature V08 = record { own = record { above = (refl, refl); once = record { fixed = refl; once = refl } }; sorted = record { header = (refl, refl); item = (refl, refl) } }

sequence_kind : (v : Version) → Sorted a_code SeqTp v
unfolding in_header in_item
sequence_kind V02 = record { header = (refl, refl); item = (refl, refl) }
sequence_kind V08 = record { header = (refl, refl); item = (refl, refl) }

instrument_kind : (v : Version) → Sorted a_code LclInstrm v
unfolding in_header in_item
instrument_kind V02 = record { header = (refl, refl); item = (refl, refl) }
instrument_kind V08 = record { header = (refl, refl); item = (refl, refl) }

instruction_kind : (v : Version) → Sorted (a_plain Reference) InstrId v
unfolding in_header in_item
instruction_kind V02 = record { header = (refl, refl); item = (refl, refl) }
instruction_kind V08 = record { header = (refl, refl); item = (refl, refl) }

-- ---- two values told by their fields
module _ (n : ℕ) (a b : List (List ℕ)) where
  same-padded : (h : List ℕ → List ℕ) → One (λ v. Written n (h v)) a → One (λ v. Written n (h v)) b → padded n (h (last_of [] a)) ≡ padded n (h (last_of [] b)) → Same h a b
  same-padded h s t e =
      let z : padded n (h s.it) ≡ padded n (h t.it) =
      sym (ap (λ (l : List (List ℕ)). padded n (h (last_of [] l))) s.is) ∙ (e ∙ ap (λ (l : List (List ℕ)). padded n (h (last_of [] l))) t.is) in
      record { one = s.it; other = t.it; in_one = s.is; in_other = t.is; same = padded_one n (h s.it) (h t.it) s.known.1 t.known.1 z }

  -- nothing is told from any value: none is empty
  same-if-any : OneOrNone (Written n) a → OneOrNone (Written n) b → padded n (last_of [] a) ≡ padded n (last_of [] b) → SameIfAny a b
  same-if-any (none i) (none j) e = absent i j
  same-if-any (none i) (some t) e =
      let d : padded n [] ≡ padded n t.it = sym (ap (λ (l : List (List ℕ)). padded n (last_of [] l)) i) ∙ (e ∙ ap (λ (l : List (List ℕ)). padded n (last_of [] l)) t.is) in
      let z : [] ≡ t.it = padded_one n [] t.it (omega arith, refl) t.known.1 d in
      never (omega (arith, t.known.0, ap length z))
  same-if-any (some s) (none j) e =
      let d : padded n s.it ≡ padded n [] = sym (ap (λ (l : List (List ℕ)). padded n (last_of [] l)) s.is) ∙ (e ∙ ap (λ (l : List (List ℕ)). padded n (last_of [] l)) j) in
      let z : s.it ≡ [] = padded_one n s.it [] s.known.1 (omega arith, refl) d in
      never (omega (arith, s.known.0, ap length z))
  same-if-any (some s) (some t) e = present (same-padded as_read s t e)

-- the cents of an item have 11 digits at most
few_digits : most item_range < 10 ^ 11
few_digits = leb-true (1 + most item_range) (10 ^ 11) refl

same_cents : (a b : List (List ℕ)) → One (λ v. cents v ≤ most item_range) a → One (λ v. cents v ≤ most item_range) b → digits 11 (cents (last_of [] a)) ≡ digits 11 (cents (last_of [] b)) → Same cents a b
same_cents a b s t e =
    let z : digits 11 (cents s.it) ≡ digits 11 (cents t.it) =
    sym (ap (λ (l : List (List ℕ)). digits 11 (cents (last_of [] l))) s.is) ∙ (e ∙ ap (λ (l : List (List ℕ)). digits 11 (cents (last_of [] l))) t.is) in
    let same : cents s.it ≡ cents t.it = digits_one 11 (cents s.it) (cents t.it) (omega (arith, s.known, few_digits)) (omega (arith, t.known, few_digits)) z in
    record { one = s.it; other = t.it; in_one = s.is; in_other = t.is; same = same }

-- **Two accepted items with equal records agree in every field recorded**, be they of one message or of two.
module _ {m k : List ℕ} (x : AcceptedItem m) (y : AcceptedItem k) where
  abbrev a : List What
  a = says x

  abbrev b : List What
  b = says y

  own-by : (t : Kind → Bool) (n : ℕ) (h : List ℕ → List ℕ) → ((j : Kind) (v : List ℕ) → t j ≡ true → Passes (kind_given j v) → Written n (h v)) → (f : Field)
      → ((v : Version) → Placed t f v) → padded n (h (value_for a f)) ≡ padded n (h (value_for b f)) → Same h (values_at f a) (values_at f b)
  own-by t n h fits f p =
      let u = p (version x) in
      let w = p (version y) in
      same-padded n (values_at f a) (values_at f b) h (own_one x t (λ v. Written n (h v)) fits f u.own u.sorted) (own_one y t (λ v. Written n (h v)) fits f w.own w.sorted)

  own : (s : Simple) (n : ℕ) (h : List ℕ → List ℕ) → ((v : List ℕ) → Fits s v → Written n (h v)) → (f : Field) → ((v : Version) → Placed (a_plain s) f v)
      → padded n (h (value_for a f)) ≡ padded n (h (value_for b f)) → Same h (values_at f a) (values_at f b)
  own s n h g = own-by (a_plain s) n h (λ j v e q. g v (plain_fits s j v e q))

  typed : (f : Field) → InEach f → ((v : Version) → Sorted a_code f v) → padded 4 (value_for a f) ≡ padded 4 (value_for b f) → Same as_read (values_at f a) (values_at f b)
  typed f i s =
      same-padded 4 (values_at f a) (values_at f b) as_read (wherever_one x a_code (Written 4) code_fits f i (s (version x))) (wherever_one y a_code (Written 4) code_fits f i (s (version y)))

  pub equal_records : record_for a ≡ record_for b → Agree a b
  unfolding record_for
  equal_records e =
      let ended = same_ends _ _ (10 ∷ []) (10 ∷ []) refl e in
      let spaced = same_ends _ _ (replicate 15 32) (replicate 15 32) refl ended.0 in
      let signed = last_field 10 (value_for a DtOfSgntr) (value_for b DtOfSgntr) _ _ spaced.0 in
      let instrumented = last_field 4 (value_for a LclInstrm) (value_for b LclInstrm) _ _ signed.0 in
      let instructed = last_field 35 (value_for a InstrId) (value_for b InstrId) _ _ instrumented.0 in
      let creditor_bic_told = last_field 11 (value_for a CdtrBic) (value_for b CdtrBic) _ _ instructed.0 in
      let creditor_id = last_field 35 (value_for a CdtrId) (value_for b CdtrId) _ _ creditor_bic_told.0 in
      let sequenced = last_field 4 (value_for a SeqTp) (value_for b SeqTp) _ _ creditor_id.0 in
      let collected = last_field 10 (value_for a ReqdColltnDt) (value_for b ReqdColltnDt) _ _ sequenced.0 in
      let counted = same_ends _ _ (digits 11 (cents_for a)) (digits 11 (cents_for b)) (length_digits 11 (cents_for a) ∙ sym (length_digits 11 (cents_for b))) collected.0 in
      let debtor_bic_told = last_field 11 (value_for a DbtrBic) (value_for b DbtrBic) _ _ counted.0 in
      let creditor_iban_told = last_field 34 (value_for a CdtrIban) (value_for b CdtrIban) _ _ debtor_bic_told.0 in
      let debtor_iban_told = last_field 34 (value_for a DbtrIban) (value_for b DbtrIban) _ _ creditor_iban_told.0 in
      let mandated = last_field 35 (value_for a MndtId) (value_for b MndtId) _ _ debtor_iban_told.0 in
      let named = last_field 35 (collapsed (value_for a EndToEndId)) (collapsed (value_for b EndToEndId)) _ _ mandated.0 in
      record {
        tx_id = own Reference 35 as_read (λ v h. h) TxId tx_id_lem named.0;
        end_to_end_id = own EndToEnd 35 collapsed (λ v h. h) EndToEndId end_to_end_lem named.1;
        mndt_id = own Reference 35 as_read (λ v h. h) MndtId mandate mandated.1;
        dbtr_iban = own Iban 34 as_read (λ v h. h) DbtrIban debtor_iban debtor_iban_told.1;
        cdtr_iban = own Iban 34 as_read (λ v h. h) CdtrIban creditor_iban creditor_iban_told.1;
        dbtr_bic = own-by a_bic 11 as_read bic_fits DbtrBic debtor_bic debtor_bic_told.1;
        amount = same_cents (values_of Amount a) (values_of Amount b) (amount_one x) (amount_one y) counted.1;
        reqd_colltn_dt = own Date 10 as_read (λ v h. h) ReqdColltnDt collection collected.1;
        seq_tp = typed SeqTp sequence sequence_kind sequenced.1;
        cdtr_id = own Identifier 35 as_read (λ v h. h) CdtrId creditor creditor_id.1;
        cdtr_bic = own-by a_bic 11 as_read bic_fits CdtrBic creditor_bic creditor_bic_told.1;
        instr_id =
            same-if-any 35 (values_at InstrId a) (values_at InstrId b) (instruction_or_none x (a_plain Reference) (Written 35) (plain_fits Reference) (instruction_kind (version x)))
            (instruction_or_none y (a_plain Reference) (Written 35) (plain_fits Reference) (instruction_kind (version y))) instructed.1;
        lcl_instrm = typed LclInstrm instrument instrument_kind instrumented.1;
        dt_of_sgntr = own Date 10 as_read (λ v h. h) DtOfSgntr signature signed.1;
      }
