-- The records of an accepted message are those of its document's items, one for each, in order.
use mathlib.Core.Path.{◌≡◌, refl, ap, ◌∙◌}
use mathlib.Core.List.{List, [], ◌∷◌, ◌++◌}
use Prim.Native.Nat.{ℕ, ◌+◌, ◌*◌, ◌≤◌}
use borrow.Author.Tests.{le-ltb}
use lib.ListN.{length}
use Rattle.profile.specs.declared.Version.{Version}
use Rattle.profile.specs.Profile.{in_header}
use Rattle.reading.specs.Verdict.{accepted}
use Rattle.reading.specs.Judged.{judged}
use Rattle.reading.specs.Items.{the_header, the_items}
use Rattle.postings.specs.Record.{record_length}
use Rattle.postings.specs.Area.{records_for, recorded}
use Rattle.documents.specs.Document.{Led, Doc, texts}
use Rattle.documents.specs.Said.{said}
use Rattle.bulks.specs.Bulk.{DocItem, item_text, front, items_from, item_record}
use Rattle.bulks.specs.Accepted.{Bulked, Posted}
use Rattle.bulks.proofs.Items.{accepted_many, accepted_items, accepted_header}

records_of_lem : (v : Version) (h : Led (Doc (in_header v))) (l : List (DocItem v)) (p : ℕ) → records_for (said (in_header v) h.held) (items_from v p l) ≡ texts (item_record v h) l
records_of_lem v h [] p = refl
records_of_lem v h (x ∷ l) p = ap (λ (y : List ℕ). item_record v h x ++ y) (records_of_lem v h l (p + length (item_text v x)))

-- the records of an accepted message's items
pub accepted_records : (m : List ℕ) (n c : ℕ) → judged m ≡ accepted n c → (k : Bulked m)
    → records_for (the_header m) (the_items m) ≡ texts (item_record k.version k.bulk.header) k.bulk.items
accepted_records m n c e k =
    rw (accepted_header m n c e k, accepted_items m n c e k) (records_of_lem k.version k.bulk.header k.bulk.items (length (front k.bulk)))

-- For an accepted message and an area with room: the records are those of its bulk's items, one for each, in order, and behind them stands what stood there.
pub accepted_posted : (m a : List ℕ) (n c : ℕ) → judged m ≡ accepted n c → record_length * n ≤ length a → (k : Bulked m) → Posted m a n c k.bulk
unfolding recorded
accepted_posted m a n c e h k =
    record { as_many = accepted_many m n c e k; outcome = rw (e, le-ltb (length a) (record_length * n) h, accepted_records m n c e k) }
