-- "Two accepted items with equal records agree in every field recorded, amounts as cents and EndToEndId as collapsed, an absent InstrId only with an absent one."
use Rattle.std.specs.Prelude.{ℕ, ◌≡◌, List, [], ◌∷◌, ◌++◌}
use Rattle.words.specs.Collapsed.{collapsed}
use Rattle.money.specs.Amount.{cents}
use Rattle.profile.specs.declared.Kind.TheVariants.{Amount}
use Rattle.profile.specs.declared.Field.TheVariants.{TxId, EndToEndId, MndtId, DbtrIban, CdtrIban, DbtrBic, ReqdColltnDt, SeqTp, CdtrId, CdtrBic, InstrId, LclInstrm, DtOfSgntr}
use Rattle.reading.specs.Trace.{What}
use Rattle.reading.specs.Rules.{values_of, values_at}
use Rattle.reading.specs.Verdict.{accepted}
use Rattle.reading.specs.Judged.{judged}
use Rattle.reading.specs.Items.{Item, the_header, the_items}

-- an accepted item: one of the items of an accepted message
pub record AcceptedItem (m : List ℕ) : Type 0 where
  pub count : ℕ
  pub cents : ℕ
  pub accepted : judged m ≡ accepted count cents
  pub before : List Item
  pub item : Item
  pub after : List Item
  pub is : the_items m ≡ before ++ (item ∷ after)

-- what its record is made of: what the header says, and what it holds itself
abbrev pub says : {m : List ℕ} → AcceptedItem m → List What
says {m = m} x = the_header m ++ x.item.holds

-- one value stands in the one and one in the other, and h makes the same of both
pub record Same {A : Type 0} (h : List ℕ → A) (a b : List (List ℕ)) : Type 0 where
  pub one : List ℕ
  pub other : List ℕ
  pub in_one : a ≡ one ∷ []
  pub in_other : b ≡ other ∷ []
  pub same : h one ≡ h other

abbrev pub as_read : List ℕ → List ℕ
as_read v = v

-- "an absent InstrId only with an absent one"
pub data SameIfAny (a b : List (List ℕ)) : Type 0 where
  absent : a ≡ [] → b ≡ [] → SameIfAny a b
  present : Same as_read a b → SameIfAny a b

-- in the order of the record
pub record Agree (a b : List What) : Type 0 where
  pub tx_id : Same as_read (values_at TxId a) (values_at TxId b)
  pub end_to_end_id : Same collapsed (values_at EndToEndId a) (values_at EndToEndId b)
  pub mndt_id : Same as_read (values_at MndtId a) (values_at MndtId b)
  pub dbtr_iban : Same as_read (values_at DbtrIban a) (values_at DbtrIban b)
  pub cdtr_iban : Same as_read (values_at CdtrIban a) (values_at CdtrIban b)
  pub dbtr_bic : Same as_read (values_at DbtrBic a) (values_at DbtrBic b)
  pub amount : Same cents (values_of Amount a) (values_of Amount b)
  pub reqd_colltn_dt : Same as_read (values_at ReqdColltnDt a) (values_at ReqdColltnDt b)
  pub seq_tp : Same as_read (values_at SeqTp a) (values_at SeqTp b)
  pub cdtr_id : Same as_read (values_at CdtrId a) (values_at CdtrId b)
  pub cdtr_bic : Same as_read (values_at CdtrBic a) (values_at CdtrBic b)
  pub instr_id : SameIfAny (values_at InstrId a) (values_at InstrId b)
  pub lcl_instrm : Same as_read (values_at LclInstrm a) (values_at LclInstrm b)
  pub dt_of_sgntr : Same as_read (values_at DtOfSgntr a) (values_at DtOfSgntr b)
