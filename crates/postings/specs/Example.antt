-- The paper's whole example, over a message's own text, with what request 9 puts behind it.
use Rattle.std.specs.Prelude.{List, [], ◌∷◌, ◌++◌, ℕ, replicate}
use Prim.Native.String.{String}
use Rattle.text.specs.Quoted.{bytes, byte}
use Rattle.reading.specs.Trace.{message}

-- texts one behind the other
abbrev pub joined : List String → List ℕ
joined [] = []
joined (t ∷ l) = bytes t ++ joined l

-- a message with one item that has the example's values
abbrev pub example : List ℕ
example =
    joined
    ("<?xml version=\"1.0\" encoding=\"UTF-8\"?>"
    ∷ "<Document xmlns=\"urn:iso:std:iso:20022:tech:xsd:pacs.003.001.02\"><FIToFICstmrDrctDbt>"
    ∷ "<GrpHdr><MsgId>B1</MsgId><CreDtTm>2010-12-01T09:30:00</CreDtTm><NbOfTxs>1</NbOfTxs>"
    ∷ "<TtlIntrBkSttlmAmt Ccy=\"EUR\">12.34</TtlIntrBkSttlmAmt><IntrBkSttlmDt>2010-12-03</IntrBkSttlmDt>"
    ∷ "<SttlmInf><SttlmMtd>CLRG</SttlmMtd></SttlmInf><InstgAgt><FinInstnId><BIC>BANKDEFFXXX</BIC></FinInstnId></InstgAgt></GrpHdr>"
    ∷ "<DrctDbtTxInf><PmtId><EndToEndId>E1</EndToEndId><TxId>T1</TxId></PmtId>"
    ∷ "<PmtTpInf><SvcLvl><Cd>SEPA</Cd></SvcLvl><LclInstrm><Cd>CORE</Cd></LclInstrm><SeqTp>RCUR</SeqTp></PmtTpInf>"
    ∷ "<IntrBkSttlmAmt Ccy=\"EUR\">12.34</IntrBkSttlmAmt><ChrgBr>SLEV</ChrgBr><ReqdColltnDt>2010-12-03</ReqdColltnDt>"
    ∷ "<DrctDbtTx><MndtRltdInf><MndtId>M1</MndtId><DtOfSgntr>2010-11-01</DtOfSgntr></MndtRltdInf>"
    ∷ "<CdtrSchmeId><Id><PrvtId><Othr><Id>DE98ZZZ09999999999</Id>"
    ∷ "<SchmeNm><Prtry>SEPA</Prtry></SchmeNm></Othr></PrvtId></Id></CdtrSchmeId></DrctDbtTx>"
    ∷ "<Cdtr><Nm>Creditor</Nm></Cdtr><CdtrAcct><Id><IBAN>DE87200500001234567890</IBAN></Id></CdtrAcct>"
    ∷ "<CdtrAgt><FinInstnId><BIC>BANKDEFFXXX</BIC></FinInstnId></CdtrAgt>"
    ∷ "<Dbtr><Nm>Debtor</Nm></Dbtr><DbtrAcct><Id><IBAN>DE21500500009876543210</IBAN></Id></DbtrAcct>"
    ∷ "<DbtrAgt><FinInstnId><BIC>SPUEDE2UXXX</BIC></FinInstnId></DbtrAgt>"
    ∷ "</DrctDbtTxInf></FIToFICstmrDrctDbt></Document>"
    ∷ [])

-- a text and so many spaces
infixl 70 ◌and◌
abbrev pub ◌and◌ : String → ℕ → List ℕ
t and n = bytes t ++ replicate n (byte " ")

-- "`T1` and 33 spaces, `E1` and 33, `M1` and 33, `DE21500500009876543210` and 12, `DE87200500001234567890` and 12, `SPUEDE2UXXX`,
-- `00000001234`, `2010-12-03`, `RCUR`, `DE98ZZZ09999999999` and 17 spaces, `BANKDEFFXXX`"; then "InstrId 35 (spaces if absent)", and it is absent, "LclInstrm 4",
-- "DtOfSgntr 10, 15 spaces, LF"
abbrev pub example_record : List ℕ
example_record =
    "T1" and 33
    ++ "E1" and 33
    ++ "M1" and 33
    ++ "DE21500500009876543210" and 12
    ++ "DE87200500001234567890" and 12
    ++ bytes "SPUEDE2UXXX"
    ++ bytes "00000001234"
    ++ bytes "2010-12-03"
    ++ bytes "RCUR"
    ++ "DE98ZZZ09999999999" and 17
    ++ bytes "BANKDEFFXXX"
    ++ "" and 35
    ++ bytes "CORE"
    ++ "2010-11-01" and 15
    ++ (10 ∷ [])
