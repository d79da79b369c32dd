-- The lent record area, before and after.
use Rattle.std.specs.Prelude.{ℕ, ◌*◌, List, [], ◌∷◌, ◌++◌, length, drop, ltb}
use Rattle.text.specs.Truth.{pick}
use Rattle.reading.specs.Trace.{What}
use Rattle.reading.specs.Verdict.{Judged, accepted, refused}
use Rattle.reading.specs.Judged.{judged}
use Rattle.reading.specs.Items.{Item, the_header, the_items}
use Rattle.postings.specs.Record.{record_length, record_for}

-- the records of items under a header, in their order: "Records take SeqTp from wherever it stands", and LclInstrm
abbrev pub records_for : List What → List Item → List ℕ
records_for h [] = []
records_for h (x ∷ l) = record_for (h ++ x.holds) ++ records_for h l

-- what is answered, and the area afterwards
pub record Outcome : Type 0 where
  pub verdict : Judged
  pub area : List ℕ

-- "Each gives its number and a place [..] and leaves the record area exactly as lent."
abbrev pub as_lent : ℕ → ℕ → List ℕ → Outcome
as_lent n p a = record { verdict = refused n p; area = a }

-- the judge's own refusal; "refusal 17 compares with 320 times the count", at 0; else record i goes to bytes 320i to 320i+319 and
-- "Bytes beyond the last record keep what they held."
abbrev pub outcome : List What → List Item → List ℕ → Judged → Outcome
outcome h l a (refused n p) = as_lent n p a
outcome h l a (accepted count cents) =
    pick (ltb (length a) (record_length * count))
    (as_lent 17 0 a)
    (record { verdict = accepted count cents; area = records_for h l ++ drop (record_length * count) a })

unfoldable pub recorded : List ℕ → List ℕ → Outcome
recorded m a = outcome (the_header m) (the_items m) a (judged m)
