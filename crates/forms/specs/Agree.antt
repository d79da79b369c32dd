-- Request 2: "they have equally many items, the optional elements agree, and all values in order mean the same (count and amounts as numbers, others by bytes)".
use Rattle.std.specs.Prelude.{List, [], ◌∷◌}
use Rattle.profile.specs.declared.Version.{Version}
use Rattle.profile.specs.Tree.{Shape, end, leaf, group}
use Rattle.profile.specs.Profile.{profile}
use Rattle.kinds.specs.Meant.{SameMeaning}
use Rattle.documents.specs.Document.{Led, Doc}
use Rattle.documents.specs.Message.{Message}

-- equally many elements, of which each two hold the like; the white space before them is no matter
abbrev pub Along : {A : Type 0} → (A → A → Type 0) → List (Led A) → List (Led A) → Type 0
Along P [] [] = Unit {0}
Along P [] (y ∷ k) = ⊥
Along P (x ∷ l) [] = ⊥
Along P (x ∷ l) (y ∷ k) = P x.held y.held × Along P l k

-- each element as often in the one document as in the other (items equally many, an optional one in both or in neither), and each value means the same
abbrev pub Agree : (sh : Shape) → Doc sh → Doc sh → Type 0
Agree (end n) w x = Unit {0}
Agree (leaf o n k f rest) d e = Along (SameMeaning k) d.all e.all × Agree rest d.others e.others
Agree (group o n inner rest) d e = Along (Agree inner) d.all e.all × Agree rest d.others e.others

-- two messages of one version, whose documents agree
pub data OfOne {v : Version} (d : Message v (profile v)) : (w : Version) → Message w (profile w) → Type 0 where
  agreeing : {e : Message v (profile v)} → Agree (profile v) d.inside e.inside → OfOne d v e

abbrev pub Agreeing : {v w : Version} → Message v (profile v) → Message w (profile w) → Type 0
Agreeing {w = w} d e = OfOne d w e
