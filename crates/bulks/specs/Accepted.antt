-- An accepted message as a bulk, its items and its records; and what is refused.
use Rattle.std.specs.Prelude.{ℕ, ◌-◌, ◌*◌, ◌≡◌, List, ◌∷◌, ◌++◌, length, drop}
use Rattle.text.specs.Truth.{part}
use Rattle.profile.specs.declared.Version.{Version}
use Rattle.profile.specs.Tree.{many}
use Rattle.reading.specs.Verdict.{Judged, accepted, refused, lies}
use Rattle.reading.specs.Items.{item}
use Rattle.postings.specs.Record.{record_length}
use Rattle.postings.specs.Area.{recorded}
use Rattle.documents.specs.Document.{texts}
use Rattle.documents.specs.Message.{whole, Lawful}
use Rattle.bulks.specs.Bulk.{DocItem, Bulk, message, bare_text, item_record}

-- a message is the text of a bulk
pub record Bulked (m : List ℕ) : Type 0 where
  pub version : Version
  pub bulk : Bulk version
  pub lawful : Lawful (message many bulk)
  pub is : m ≡ whole (message many bulk)

-- item i of a message is the i-th of a bulk: the bytes from `from` to `to` are its text, without the white space before it
pub record Itself (m : List ℕ) (i : ℕ) {v : Version} (b : Bulk v) : Type 0 where
  pub before : List (DocItem v)
  pub it : DocItem v
  pub after : List (DocItem v)
  pub is : b.items ≡ before ++ (it ∷ after)
  pub at : length before ≡ i
  pub from : ℕ
  pub to : ℕ
  pub lies : item i m ≡ lies from to
  pub text : part from (to - from) m ≡ bare_text v it

-- the area afterwards: the records of a bulk's items, one for each, in order, and behind them what stood there; there are as many as the count
pub record Posted (m a : List ℕ) (n c : ℕ) {v : Version} (b : Bulk v) : Type 0 where
  pub as_many : length b.items ≡ n
  pub outcome : recorded m a ≡ record { verdict = accepted n c; area = texts (item_record v b.header) b.items ++ drop (record_length * n) a }
