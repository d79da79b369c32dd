-- The runs of tags between the values of an item, in the order of the profile.
use Rattle.std.specs.Prelude.{◌≡◌, ℕ, ◌+◌, ◌*◌, ◌<◌, ◌≤◌, List, [], ◌∷◌, length, slice_index, slice_index_or}
use Prim.Native.String.{String}
use Rattle.text.specs.Truth.{part}
use Rattle.text.specs.Quoted.{bytes}
use Rattle.straight.specs.Due.{Token, tight, spaced, flat}

-- right here; and after white space
abbrev now : String → Token
now s = tight (bytes s)

abbrev then : String → Token
then s = spaced (bytes s)

abbrev pub item_tags : List (List Token)
item_tags =
    (then "<PmtId>" ∷ then "<InstrId>" ∷ [])
    ∷ (then "<PmtId>" ∷ then "<EndToEndId>" ∷ [])
    ∷ (now "</InstrId>" ∷ then "<EndToEndId>" ∷ [])
    ∷ (now "</EndToEndId>" ∷ then "<TxId>" ∷ [])
    ∷ (now "</TxId>" ∷ then "</PmtId>" ∷ then "<PmtTpInf>" ∷ then "<SvcLvl>" ∷ then "<Cd>" ∷ [])
    ∷ (now "</TxId>" ∷ then "</PmtId>" ∷ then "<IntrBkSttlmAmt Ccy=\"EUR\">" ∷ [])
    ∷ (now "</Cd>" ∷ then "</SvcLvl>" ∷ then "<LclInstrm>" ∷ then "<Cd>" ∷ [])
    ∷ (now "</Cd>" ∷ then "</LclInstrm>" ∷ then "<SeqTp>" ∷ [])
    ∷ (now "</SeqTp>" ∷ then "</PmtTpInf>" ∷ then "<IntrBkSttlmAmt Ccy=\"EUR\">" ∷ [])
    ∷ (now "</IntrBkSttlmAmt>" ∷ then "<ChrgBr>" ∷ [])
    ∷ (now "</ChrgBr>" ∷ then "<ReqdColltnDt>" ∷ [])
    ∷ (now "</ReqdColltnDt>" ∷ then "<DrctDbtTx>" ∷ then "<MndtRltdInf>" ∷ then "<MndtId>" ∷ [])
    ∷ (now "</MndtId>" ∷ then "<DtOfSgntr>" ∷ [])
    ∷ (now "</DtOfSgntr>" ∷ then "</MndtRltdInf>" ∷ then "<CdtrSchmeId>" ∷ then "<Id>" ∷ then "<PrvtId>" ∷ then "<Othr>" ∷ then "<Id>" ∷ [])
    ∷ (now "</Id>" ∷ then "<SchmeNm>" ∷ then "<Prtry>" ∷ [])
    ∷ (now "</Prtry>" ∷ then "</SchmeNm>" ∷ then "</Othr>" ∷ then "</PrvtId>" ∷ then "</Id>" ∷ then "</CdtrSchmeId>" ∷ then "</DrctDbtTx>" ∷ then "<Cdtr>" ∷ then "<Nm>" ∷ [])
    ∷ (now "</Nm>" ∷ then "</Cdtr>" ∷ then "<CdtrAcct>" ∷ then "<Id>" ∷ then "<IBAN>" ∷ [])
    ∷ (now "</IBAN>" ∷ then "</Id>" ∷ then "</CdtrAcct>" ∷ then "<CdtrAgt>" ∷ then "<FinInstnId>" ∷ then "<BIC>" ∷ [])
    ∷ (now "</IBAN>" ∷ then "</Id>" ∷ then "</CdtrAcct>" ∷ then "<CdtrAgt>" ∷ then "<FinInstnId>" ∷ then "<BICFI>" ∷ [])
    ∷ (now "</BIC>" ∷ then "</FinInstnId>" ∷ then "</CdtrAgt>" ∷ then "<Dbtr>" ∷ then "<Nm>" ∷ [])
    ∷ (now "</BICFI>" ∷ then "</FinInstnId>" ∷ then "</CdtrAgt>" ∷ then "<Dbtr>" ∷ then "<Nm>" ∷ [])
    ∷ (now "</Nm>" ∷ then "</Dbtr>" ∷ then "<DbtrAcct>" ∷ then "<Id>" ∷ then "<IBAN>" ∷ [])
    ∷ (now "</IBAN>" ∷ then "</Id>" ∷ then "</DbtrAcct>" ∷ then "<DbtrAgt>" ∷ then "<FinInstnId>" ∷ then "<BIC>" ∷ [])
    ∷ (now "</IBAN>" ∷ then "</Id>" ∷ then "</DbtrAcct>" ∷ then "<DbtrAgt>" ∷ then "<FinInstnId>" ∷ then "<BICFI>" ∷ [])
    ∷ (now "</BIC>" ∷ then "</FinInstnId>" ∷ then "</DbtrAgt>" ∷ then "<RmtInf>" ∷ then "<Ustrd>" ∷ [])
    ∷ (now "</BICFI>" ∷ then "</FinInstnId>" ∷ then "</DbtrAgt>" ∷ then "<RmtInf>" ∷ then "<Ustrd>" ∷ [])
    ∷ (now "</BIC>" ∷ then "</FinInstnId>" ∷ then "</DbtrAgt>" ∷ then "</DrctDbtTxInf>" ∷ [])
    ∷ (now "</BICFI>" ∷ then "</FinInstnId>" ∷ then "</DbtrAgt>" ∷ then "</DrctDbtTxInf>" ∷ [])
    ∷ (now "</Ustrd>" ∷ then "</RmtInf>" ∷ then "</DrctDbtTxInf>" ∷ [])
    ∷ []

abbrev pub tags_at : ℕ → List Token
tags_at j = slice_index_or item_tags j []

unfoldable pub text_at : ℕ → List ℕ
text_at j = flat (tags_at j)

-- the texts of the runs in a row of 96 bytes each: its text, and at 80 how long that is; of the lengths of its tags, which follow, nothing is said
pub record Texts (t : List ℕ) : Type 0 where
  pub long : length t ≡ 2784
  pub some : (j : ℕ) → j < 29 → 0 < slice_index t (96 * j + 80)
  pub short : (j : ℕ) → j < 29 → slice_index t (96 * j + 80) ≤ 80
  pub each : (j : ℕ) → j < 29 → part (96 * j) (slice_index t (96 * j + 80)) t ≡ text_at j
