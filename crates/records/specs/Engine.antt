-- What each function of the records writes, by what an engine tells of an item.
use Rattle.std.specs.Prelude.{ℕ, zero, suc, ◌+◌, ◌*◌, ◌≤◌, ◌≡◌, List, [], ◌∷◌, ◌++◌, eqb, length, take, drop, get_or}
use Rattle.text.specs.Truth.{either, pick}
use Rattle.profile.specs.declared.Field.{Field}
use Rattle.profile.specs.declared.Field.TheVariants.{TxId, EndToEndId, MndtId, DbtrIban, CdtrIban, DbtrBic, ReqdColltnDt, SeqTp, CdtrId, CdtrBic, InstrId, LclInstrm, DtOfSgntr}
use Rattle.profile.specs.Fields.{field_number, same_field}
use Rattle.profile.specs.Listed.{many_fields}
use Rattle.reading.specs.Verdict.{accepted}
use Rattle.reading.specs.Judged.{judged}
use Rattle.words.specs.Collapsed.{collapsed}
use Rattle.postings.specs.Record.{record_length, padded, digits, record_with}
use Rattle.items.specs.Places.{held_at}
use Rattle.engine.specs.Several.{row_length}
use Rattle.judge.specs.Survey.{survey}

-- where a field was noted
abbrev pub start_of : List ℕ → Field → ℕ
start_of starts f = get_or starts (field_number f) 0

-- an item's own place, or else the one above it
abbrev pub own_or : ℕ → ℕ → ℕ
own_or above own = pick (eqb own 0) above own

-- an item's row: where its fields begin, and behind them its cents
abbrev pub cents_of : List ℕ → ℕ
cents_of row = get_or row many_fields 0

-- "Records take SeqTp from wherever it stands", "LclInstrm 4 (from wherever it stands)"; every other field stands in the item or nowhere
abbrev pub place_for : List ℕ → List ℕ → Field → ℕ
place_for above row f = pick (either (same_field f SeqTp) (same_field f LclInstrm)) (own_or (start_of above f) (start_of row f)) (start_of row f)

unfoldable pub record_of : List ℕ → List ℕ → List ℕ → List ℕ
record_of m row above = record_with (λ f. held_at m (place_for above row f)) (cents_of row)

-- the records of so many rows, one behind the other
abbrev pub records_of : List ℕ → List ℕ → ℕ → List ℕ → List ℕ
records_of m above zero rows = []
records_of m above (suc n) rows = record_of m (take row_length rows) above ++ records_of m above n (drop row_length rows)

-- "into which each field is written at its offset": bytes from `at` on replaced by v
unfoldable pub laid : ℕ → List ℕ → List ℕ → List ℕ
laid at v r = take at r ++ (v ++ drop (at + length v) r)

-- fields, each with its offset, written in order
abbrev pub all_laid : List (ℕ × List ℕ) → List ℕ → List ℕ
all_laid [] r = r
all_laid (f ∷ fs) r = all_laid fs (laid f.0 f.1 r)

-- as much of the value at a place as a field of so many bytes holds
abbrev pub up_to : ℕ → List ℕ → ℕ → List ℕ
up_to width m start = take width (held_at m start)

module _ (m row : List ℕ) where
  -- an item's fields up to the cents, with their offsets
  unfoldable pub to_cents : List (ℕ × List ℕ)
  to_cents =
      (0, up_to 35 m (start_of row TxId))
      ∷ (35, padded 35 (collapsed (held_at m (start_of row EndToEndId))))
      ∷ (70, up_to 35 m (start_of row MndtId))
      ∷ (105, up_to 34 m (start_of row DbtrIban))
      ∷ (139, up_to 34 m (start_of row CdtrIban))
      ∷ (173, up_to 11 m (start_of row DbtrBic))
      ∷ (184, digits 11 (cents_of row))
      ∷ []

  -- those behind them up to InstrId; `sequence` is where SeqTp is to be had
  unfoldable pub to_instr_id : ℕ → List (ℕ × List ℕ)
  to_instr_id sequence =
      (195, up_to 10 m (start_of row ReqdColltnDt))
      ∷ (205, up_to 4 m sequence)
      ∷ (209, up_to 35 m (start_of row CdtrId))
      ∷ (244, up_to 11 m (start_of row CdtrBic))
      ∷ (255, up_to 35 m (start_of row InstrId))
      ∷ []

  -- the last ones, and the byte that ends the record; `instrument` is where LclInstrm is to be had
  unfoldable pub to_end : ℕ → List (ℕ × List ℕ)
  to_end instrument = (290, up_to 4 m instrument) ∷ (294, up_to 10 m (start_of row DtOfSgntr)) ∷ (319, 10 ∷ []) ∷ []

-- a message is accepted with so many items, and the first one and the last value of each field are where the judge found them
pub record Ready (m : List ℕ) (count first : ℕ) (above : List ℕ) : Type 0 where
  pub cents : ℕ
  pub accepted : judged m ≡ accepted count cents
  pub begins : first ≡ (survey m).found.first
  pub noted : above ≡ (survey m).places

-- and the area has room for the records
pub record Room (m : List ℕ) (count first : ℕ) (above area : List ℕ) : Type 0 where
  pub ready : Ready m count first above
  pub room : record_length * count ≤ length area
