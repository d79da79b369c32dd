-- What PmtId holds.
use Rattle.profile.specs.declared.Kind.TheVariants.{Plain}
use Rattle.profile.specs.declared.Simple.TheVariants.{Reference, EndToEnd}
use Rattle.profile.specs.declared.Field.TheVariants.{InstrId, EndToEndId, TxId}
use Rattle.profile.specs.Tree.{Shape, once, optional, end, leaf}

abbrev pub tx_id : Shape
tx_id = leaf once "TxId" (Plain Reference) TxId (end "PmtId")

abbrev pub end_to_end_id : Shape
end_to_end_id = leaf once "EndToEndId" (Plain EndToEnd) EndToEndId tx_id

abbrev pub pmt_id : Shape
pmt_id = leaf optional "InstrId" (Plain Reference) InstrId end_to_end_id
