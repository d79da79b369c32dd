-- 24: "Refuse exactly if two items have equal TxId bytes and no earlier fault ends the reading, at the earliest second one."
use Rattle.std.specs.Prelude.{ℕ, ◌≡◌, true, List, [], ◌∷◌}
use Rattle.profile.specs.declared.Kind.TheVariants.{Plain}
use Rattle.profile.specs.declared.Simple.TheVariants.{Reference}
use Rattle.profile.specs.declared.Field.TheVariants.{TxId}
use Rattle.kinds.specs.Given.{kind_given}
use Rattle.reading.specs.Trace.{value, Entry, ◌at◌, Trace, met, up_to, opened}
use Rattle.reading.specs.Noted.{on, noted}
use Rattle.reading.specs.Rules.{values_at, stands_in}
use Rattle.reading.specs.Judged.{whats, listed}
use Rattle.documents.specs.Holds.{Passes, Apart}
use Rattle.faults.specs.Refusals.{in_document}

-- some entries, and what stands behind them
abbrev pub after_all : List Entry → Trace → Trace
after_all [] t = t
after_all (e ∷ l) t = met e (after_all l t)

-- in a message a TxId begins at place p that stood before
pub record IdAgain (m : List ℕ) (p : ℕ) : Type 0 where
  -- what stands before it, in which no fault is met
  pub read : List Entry
  pub in_order : noted listed (after_all read (up_to p)) [] ≡ on (record { at = p; notes = read })
  -- there it begins,
  pub bytes : List ℕ
  pub rest : Trace
  pub there : in_document m (opened m) ≡ after_all read (met (value (Plain Reference) TxId bytes at p) rest)
  -- "after 7 of that TxId",
  pub legal : Passes (kind_given (Plain Reference) bytes)
  -- and its bytes are those of a TxId before it, of which no two are equal
  pub again : stands_in bytes (values_at TxId (whats read)) ≡ true
  pub apart : Apart (values_at TxId (whats read))
