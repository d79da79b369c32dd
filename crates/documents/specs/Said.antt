-- What a document says, in its order: its items, its values, and which of the elements that are 0 or 1 are there.
use Prim.Native.String.{String}
use Rattle.std.specs.Prelude.{List, [], ◌∷◌, ◌++◌}
use Rattle.profile.specs.Tree.{Occ, once, optional, many, more, Shape, end, leaf, group}
use Rattle.reading.specs.Trace.{What, item_begins, item_ends, there, absent, value}
use Rattle.documents.specs.Document.{Led, Doc}

-- an element that stands there, which holds what f says
abbrev pub one : {A : Type 0} → Occ → String → (A → List What) → Led A → List What
one once n f e = f e.held
one optional n f e = there n ∷ f e.held
one many n f e = item_begins ∷ f e.held ++ (item_ends ∷ [])
one more n f e = item_begins ∷ f e.held ++ (item_ends ∷ [])

-- elements one behind the other
abbrev pub each : {A : Type 0} → Occ → String → (A → List What) → List (Led A) → List What
each o n f [] = []
each o n f (e ∷ l) = one o n f e ++ each o n f l

-- none where it is 0 or 1
abbrev pub none : {A : Type 0} → Occ → String → List A → List What
none once n l = []
none optional n [] = absent n ∷ []
none optional n (e ∷ l) = []
none many n l = []
none more n l = []

abbrev pub said : (sh : Shape) → Doc sh → List What
said (end n) w = []
said (leaf o n k f rest) d = none o n d.all ++ (each o n (λ v. value k f v ∷ []) d.all ++ said rest d.others)
said (group o n inner rest) d = none o n d.all ++ (each o n (said inner) d.all ++ said rest d.others)
