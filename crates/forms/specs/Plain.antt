-- Request 2: "From an accepted message write its plain form: declaration, no white space between tags, count without leading zeros, amounts with two decimals and no
-- needless zeros, all other values as read."
use Rattle.std.specs.Prelude.{ℕ, ◌≡◌, true, List, [], ◌∷◌}
use Rattle.profile.specs.declared.Version.{Version}
use Rattle.profile.specs.Tree.{Shape, end, leaf, group}
use Rattle.kinds.specs.Meant.{as_meant}
use Rattle.documents.specs.Document.{Led, Doc}
use Rattle.documents.specs.Message.{Message, whole}
use Rattle.documents.specs.Holds.{Profiled}

-- elements with no white space before them
abbrev pub bare : {A : Type 0} → (A → A) → List (Led A) → List (Led A)
bare f [] = []
bare f (e ∷ l) = record { blank = []; held = f e.held } ∷ bare f l

-- the same document, with no white space between tags, and each value as it is meant
abbrev pub plain : (sh : Shape) → Doc sh → Doc sh
plain (end n) w = []
plain (leaf o n k f rest) d = record { all = bare (as_meant k) d.all; others = plain rest d.others }
plain (group o n inner rest) d = record { all = bare (plain inner) d.all; others = plain rest d.others }

-- the same message, with the declaration
abbrev pub plain_message : {v : Version} {sh : Shape} → Message v sh → Message v sh
plain_message {sh = sh} d = record { declared = true; before = []; inside = plain sh d.inside; behind = [] }

-- the plain form of an accepted message is the text of that
pub record PlainForm (m f : List ℕ) : Type 0 where
  pub count : ℕ
  pub cents : ℕ
  pub accepted : Profiled m count cents
  pub is : f ≡ whole (plain_message accepted.message)
