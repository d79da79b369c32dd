-- Going from item to item, each read alone.
use Rattle.std.specs.Prelude.{ℕ, zero, suc, List}
use Rattle.tags.specs.Tags.{skipped}
use Rattle.profile.specs.declared.Version.{Version}
use Rattle.reading.specs.Trace.{Entry}
use Rattle.reading.specs.Noted.{Reading, on, stop, Ended}
use Rattle.reading.specs.Verdict.{Located, lies, not_there}
use Rattle.items.specs.Alone.{read_alone}

-- what is answered behind an item that was read, or why it was not
abbrev pub behind : Reading (Ended (List Entry)) → (ℕ → Located) → Located
behind (on r) f = f r.at
behind (stop n p) f = not_there n p

-- item i of those from a place on
abbrev pub walked : ℕ → Version → List ℕ → ℕ → Located
walked zero v m p = behind (read_alone v m p) (lies (skipped m p))
walked (suc i) v m p = behind (read_alone v m p) (walked i v m)
