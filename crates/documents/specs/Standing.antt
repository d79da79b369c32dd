-- What stands exactly once in what a document says: so nothing that is said of a count, a total, a TxId, an amount, an account or an identifier is about nothing.
use Rattle.std.specs.Prelude.{suc, ◌≡◌, List, length}
use Rattle.profile.specs.declared.Kind.TheVariants.{Count, Total, Amount}
use Rattle.profile.specs.declared.Field.TheVariants.{TxId, DbtrIban, CdtrIban, CdtrId}
use Rattle.reading.specs.Trace.{What}
use Rattle.reading.specs.Rules.{items_in, values_of, values_at, types_in}

-- in a message: one count and one total; and the payment type may stand once in the header and once in each item
pub record OneHeader (ws : List What) : Type 0 where
  pub count : length (values_of Count ws) ≡ 1
  pub total : length (values_of Total ws) ≡ 1
  pub types : length (types_in ws) ≡ suc (items_in ws)

-- in an item: one TxId, one amount, the debtor's IBAN and the creditor's, and one creditor identifier
pub record OneItem (ws : List What) : Type 0 where
  pub tx_id : length (values_at TxId ws) ≡ 1
  pub amount : length (values_of Amount ws) ≡ 1
  pub debtor : length (values_at DbtrIban ws) ≡ 1
  pub creditor : length (values_at CdtrIban ws) ≡ 1
  pub identifier : length (values_at CdtrId ws) ≡ 1
