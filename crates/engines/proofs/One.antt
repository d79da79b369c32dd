-- **Both engines read the same**: each is taken by its own contract, as a caller learns it. On the same arguments a, whatever the two may answer, what is
-- read is one, and so is where TxIds begin.
use mathlib.Core.Path.{◌≡◌, sym, ◌∙◌}
use contract.Lifetimes.{Lfts}
use denote.Triple.Clauses.{AtExit}
use borrow.Fn.Kinds.{Dens, ended_of}
use Rattle.engine.specs.declared.Several.{Several}
use Rattle.std.specs.Prelude.{Result}
use Rattle.answers.specs.declared.Refused.{Refused}
use Rattle.notes.specs.declared.State.{State}
use Rattle.notes.specs.Steps.{stepped}
use Rattle.reader.proofs.message.Kinds as message-kinds
use Rattle.reader.proofs.message.Reads as message-by-table
use Rattle.straight.proofs.message.Reads as message-straight
use Rattle.reader.proofs.item.Kinds as item-kinds
use Rattle.reader.proofs.item.Reads as item-by-table
use Rattle.straight.proofs.item.Reads as item-straight
use Rattle.straight.proofs.items.Kinds as items-kinds
use Rattle.straight.proofs.items.Reads as items-straight
use Rattle.engines.proofs.items_by_table.Reads as items-by-table

-- the whole message from a place on
pub one_message : (κs : Lfts 2) (a : Dens κs message-kinds.ps) (x y : Result State Refused) (s t : AtExit (ended_of 2 message-kinds.ps message-kinds.r) κs)
    → message-by-table.Learnt κs a x s → message-straight.Learnt κs a y t → (stepped x ≡ stepped y) × (s.1.1.1.0.now ≡ t.1.1.1.0.now)
one_message κs a x y s t d e = (d.0 ∙ sym e.0, d.2 ∙ sym e.2)

-- the item at a place
pub one_item : (κs : Lfts 1) (a : Dens κs item-kinds.ps) (x y : Result State Refused) (s t : AtExit (ended_of 1 item-kinds.ps item-kinds.r) κs)
    → item-by-table.Learnt κs a x s → item-straight.Learnt κs a y t → stepped x ≡ stepped y
one_item κs a x y s t d e = d.0 ∙ sym e.0

-- several items from a place on: how many, the place behind them, and their rows
pub one_items : (κs : Lfts 2) (a : Dens κs items-kinds.ps) (x y : Several) (s t : AtExit (ended_of 2 items-kinds.ps items-kinds.r) κs)
    → items-by-table.Learnt κs a x s → items-straight.Learnt κs a y t → (x.read ≡ y.read) × (x.at ≡ y.at) × (s.1.1.1.0.now ≡ t.1.1.1.0.now)
one_items κs a x y s t d e = (d.many ∙ sym e.many, d.place ∙ sym e.place, d.told ∙ sym e.told)
