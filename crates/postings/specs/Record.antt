-- The posting record of one item.
use Rattle.std.specs.Prelude.{ℕ, zero, suc, ◌+◌, ◌/◌, ◌%◌, List, [], ◌∷◌, ◌++◌, take, replicate}
use Rattle.text.specs.Quoted.{byte}
use Rattle.words.specs.Collapsed.{collapsed}
use Rattle.money.specs.Amount.{cents}
use Rattle.profile.specs.declared.Kind.TheVariants.{Amount}
use Rattle.profile.specs.declared.Field.{Field}
use Rattle.profile.specs.declared.Field.TheVariants.{TxId, EndToEndId, MndtId, DbtrIban, CdtrIban, DbtrBic, ReqdColltnDt, SeqTp, CdtrId, CdtrBic, InstrId, LclInstrm, DtOfSgntr}
use Rattle.reading.specs.Trace.{What}
use Rattle.reading.specs.Rules.{values_of, values_at}
use Rattle.reading.specs.Judged.{last_of}

-- "From now on a record has 320 bytes", "no file header"
abbrev pub record_length : ℕ
record_length = 320

-- "every unused byte a space": a value in a field of n bytes
unfoldable pub padded : ℕ → List ℕ → List ℕ
padded n v = take n (v ++ replicate n (byte " "))

-- the last n decimal digits of c
unfoldable pub digits : ℕ → ℕ → List ℕ
digits zero c = []
digits (suc n) c = digits n (c / 10) ++ ((byte "0" + c % 10) ∷ [])

-- "TxId 35, EndToEndId 35, MndtId 35, debtor IBAN 34, creditor IBAN 34, debtor agent BIC 11, item cents as 11 digits, ReqdColltnDt 10, SeqTp 4,
-- creditor identifier 35, creditor agent BIC 11", then (from byte 255 on) "InstrId 35 (spaces if absent), LclInstrm 4 (from wherever it stands), DtOfSgntr 10,
-- 15 spaces, LF": of an item with these values and so many cents. "The record [..] hold[s] the collapsed value"
abbrev pub record_with : (Field → List ℕ) → ℕ → List ℕ
record_with value cents =
    padded 35 (value TxId)
    ++ padded 35 (collapsed (value EndToEndId))
    ++ padded 35 (value MndtId)
    ++ padded 34 (value DbtrIban)
    ++ padded 34 (value CdtrIban)
    ++ padded 11 (value DbtrBic)
    ++ digits 11 cents
    ++ padded 10 (value ReqdColltnDt)
    ++ padded 4 (value SeqTp)
    ++ padded 35 (value CdtrId)
    ++ padded 11 (value CdtrBic)
    ++ padded 35 (value InstrId)
    ++ padded 4 (value LclInstrm)
    ++ padded 10 (value DtOfSgntr)
    ++ replicate 15 (byte " ")
    ++ (10 ∷ [])

-- an item's value of a field, empty where it is absent; and its cents
abbrev pub value_for : List What → Field → List ℕ
value_for ws f = last_of [] (values_at f ws)

abbrev pub cents_for : List What → ℕ
cents_for ws = cents (last_of [] (values_of Amount ws))

-- the record of what an item holds and of what stands above it
unfoldable pub record_for : List What → List ℕ
record_for ws = record_with (value_for ws) (cents_for ws)
