-- **The two engines give one answer and leave one record area on every input.** Each function is taken by its own contract, as a caller learns it: on the
-- same arguments a, whatever the two may answer, and whatever they may leave of what was lent, is the same. (Where an item lies and the plain form are
-- asked of one engine only; their contracts, too, name no engine, and allow one outcome: `one_extent`, `one_written_with`.)
use mathlib.Core.Path.{◌≡◌, sym, ◌∙◌}
use contract.Lifetimes.{Lfts}
use denote.Triple.Clauses.{AtExit}
use borrow.Fn.Kinds.{Dens, ended_of}
use Rattle.std.proofs.Common.{Result}
use Rattle.answers.specs.declared.Refused.{Refused}
use Rattle.judge.specs.declared.Accepted.{Accepted}
use Rattle.judge.specs.Index.{judged_with}
use Rattle.judge.proofs.One.{one_verdict}
use Rattle.judge.proofs.judge.Kinds as judge-kinds
use Rattle.judge.proofs.judge.Reads as judge
use Rattle.judge.proofs.judge_by_table.Reads as judge-by-table
use Rattle.records.proofs.Once.{one_outcome}
use Rattle.records.proofs.records.Kinds as records-kinds
use Rattle.records.proofs.records.Reads as records
use Rattle.records.proofs.records_by_table.Reads as records-by-table
use Rattle.bulk.proofs.bulk_judge.Kinds as bulk-judge-kinds
use Rattle.bulk.proofs.bulk_judge.Reads as bulk-judge
use Rattle.bulk.proofs.bulk_judge_by_table.Reads as bulk-judge-by-table
use Rattle.bulk.proofs.bulk_records.Kinds as bulk-records-kinds
use Rattle.bulk.proofs.bulk_records.Reads as bulk-records
use Rattle.bulk.proofs.bulk_records_by_table.Reads as bulk-records-by-table

-- `judge` and `judge_by_table`: the verdict, and every number of the index
pub one_judge : (κs : Lfts 2) (a : Dens κs judge-kinds.ps) (v w : Result Accepted Refused) (s t : AtExit (ended_of 2 judge-kinds.ps judge-kinds.r) κs)
    → judge.Learnt κs a v s → judge-by-table.Learnt κs a w t → (v ≡ w) × (s.1.0.now ≡ t.1.0.now)
one_judge κs a v w s t d e = (one_verdict v w (judged_with a.1.0.now a.0.now) d.0 e.0, d.1 ∙ sym e.1)

-- `records` and `records_by_table`: the verdict, every byte of the area, and every number of the index
pub one_records : (κs : Lfts 3) (a : Dens κs records-kinds.ps) (v w : Result Accepted Refused) (s t : AtExit (ended_of 3 records-kinds.ps records-kinds.r) κs)
    → records.Learnt κs a v s → records-by-table.Learnt κs a w t → (v ≡ w) × (s.1.0.now ≡ t.1.0.now) × (s.1.1.0.now ≡ t.1.1.0.now)
one_records κs a v w s t d e =
    let o = one_outcome a.1.1.0.now a.0.now a.1.0.now v w s.1.0.now t.1.0.now d.0 d.1 e.0 e.1 in
    (o.0, o.1, d.2 ∙ sym e.2)

-- ---- the same of the C face, whose names `bulk_c` exports: the three words of the answer stand last
pub one_bulk_judge : (κs : Lfts 3) (a : Dens κs bulk-judge-kinds.ps) (s t : AtExit (ended_of 3 bulk-judge-kinds.ps bulk-judge-kinds.r) κs)
    → bulk-judge.Learnt κs a tt s → bulk-judge-by-table.Learnt κs a tt t → (s.1.0.now ≡ t.1.0.now) × (s.1.1.0.now ≡ t.1.1.0.now)
one_bulk_judge κs a s t d e = (d.1 ∙ sym e.1, d.0 ∙ sym e.0)

pub one_bulk_records : (κs : Lfts 4) (a : Dens κs bulk-records-kinds.ps) (s t : AtExit (ended_of 4 bulk-records-kinds.ps bulk-records-kinds.r) κs)
    → bulk-records.Learnt κs a tt s → bulk-records-by-table.Learnt κs a tt t
    → (s.1.0.now ≡ t.1.0.now) × (s.1.1.0.now ≡ t.1.1.0.now) × (s.1.1.1.0.now ≡ t.1.1.1.0.now)
one_bulk_records κs a s t d e = (d.1 ∙ sym e.1, d.2 ∙ sym e.2, d.0 ∙ sym e.0)
