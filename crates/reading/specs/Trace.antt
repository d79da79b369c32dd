-- What stands in a message, read by the profile: its items and values in their order, up to the end of what is due or to the first fault of form.
-- The form decides 1, 2, 3, 4, 6 and 16; what the items and values say is judged on the list of them (Rules). A place counts bytes from the message's start.
use Rattle.std.specs.Prelude.{ℕ, zero, suc, ◌+◌, Bool, true, false, List, [], ◌∷◌, length, drop, ltb}
use Prim.Native.String.{String}
use Rattle.text.specs.Truth.{pick}
use Rattle.tags.specs.Tags.{skipped, look, on_look, exactly, end_tag, plain_tag, start_tag, currency_place, in_euro, declaration, starts_question}
use Rattle.tags.specs.Values.{value_at, behind_value}
use Rattle.profile.specs.declared.Kind.{Kind}
use Rattle.profile.specs.declared.Field.{Field}
use Rattle.profile.specs.declared.Version.{Version}
use Rattle.profile.specs.Version.{versions, root}
use Rattle.profile.specs.Limits.{most_bytes}
use Rattle.profile.specs.Kinds.{is_amount}
use Rattle.profile.specs.Tree.{Occ, once, optional, many, more, Shape, end, leaf, group}
use Rattle.profile.specs.Profile.{profile}

-- what is met: an item begins, or has ended; an element that is 0 or 1 is there, or it is absent and something else stands there; a value of a kind and a field, with its bytes
pub data What : Type 0 where
  item_begins item_ends : What
  there absent : String → What
  value : Kind → Field → List ℕ → What

-- and where: at the `<` of a start tag, behind the `>` of an item's end tag, at a value's first byte
pub record Entry : Type 0 where
  pub place : ℕ
  pub what : What

infix 60 ◌at◌
abbrev pub ◌at◌ : What → ℕ → Entry
◌at◌ w p = record { place = p; what = w }

-- what stands from a place on: an entry and what follows it; all that is due, up to a place; or a fault, with its number and place
pub data Trace : Type 0 where
  met : Entry → Trace → Trace
  up_to : ℕ → Trace
  fault : ℕ → ℕ → Trace

abbrev pub and_then : Trace → (ℕ → Trace) → Trace
and_then (met e t) f = met e (and_then t f)
and_then (up_to p) f = f p
and_then (fault n q) f = fault n q

-- ---- an element
-- when its start tag is complete: an element that may come again is an item
abbrev pub begins : Occ → String → ℕ → Trace → Trace
begins once n p t = t
begins optional n p t = met (there n at p) t
begins many n p t = met (item_begins at p) t
begins more n p t = met (item_begins at p) t

abbrev pub ends : Occ → ℕ → Trace
ends once p = up_to p
ends optional p = up_to p
ends many p = met (item_ends at p) (up_to p)
ends more p = met (item_ends at p) (up_to p)

-- "6 comes when the tag is complete", at the first capital
abbrev pub priced : Bool → List ℕ → ℕ → Trace
priced true m p = pick (in_euro m p) (up_to p) (fault 6 (currency_place p))
priced false m p = up_to p

-- an end tag that is due here: 3 where the message ends within it, 4 where it is another
unfoldable pub closed : String → List ℕ → ℕ → Trace
closed n m p = on_look (look (exactly (end_tag n)) (drop p m)) (up_to (p + length (end_tag n))) (fault 3 (length m)) (fault 4 p)

-- "A value is everything up to the next `<`; no such byte gives 3. Then its kind is judged [..], then its end tag (3 or 4)."
unfoldable pub valued : String → Kind → Field → List ℕ → ℕ → Trace
valued n k f m p =
    pick (ltb (behind_value m p) (length m))
    (met (value k f (value_at m p) at p) (closed n m (behind_value m p)))
    (fault 3 (length m))

-- an element from the `<` of its start tag, which lies whole there, to behind its end tag
abbrev pub leaf_body : Occ → String → Kind → Field → List ℕ → ℕ → Trace
leaf_body o n k f m p =
    begins o n p (and_then (and_then (priced (is_amount k) m (p + length (start_tag (is_amount k) n))) (valued n k f m)) (ends o))

abbrev pub group_body : Occ → String → (ℕ → Trace) → ℕ → Trace
group_body o n inner p = begins o n p (and_then (inner (p + length (plain_tag n))) (ends o))

-- ---- a group: its children in their order, each as often as it may come
-- where a start tag is not there: 4 where its element is due, else on to what may come instead
abbrev pub missing : Occ → String → ℕ → Trace → Trace
missing once n p t = fault 4 p
missing optional n p t = met (absent n at p) t
missing many n p t = fault 4 p
missing more n p t = t

-- a child of a group, after white space ("It may stand [..] before any tag of a group's child or end"): its body and then `next` where its start tag is there,
-- 3 where the message ends within that tag
abbrev pub turn : Occ → String → List (ℕ → Bool) → List ℕ → (ℕ → Trace) → (ℕ → Trace) → (ℕ → Trace) → ℕ → Trace
turn o n tag m body next rest p =
    on_look (look tag (drop (skipped m p) m))
    (and_then (body (skipped m p)) next)
    (fault 3 (length m))
    (missing o n (skipped m p) (rest (skipped m p)))

-- the same child again, at most i times, and then the rest
abbrev pub again : ℕ → String → List (ℕ → Bool) → List ℕ → (ℕ → Trace) → (ℕ → Trace) → ℕ → Trace
again zero n tag m body rest p = rest p
again (suc i) n tag m body rest p = turn more n tag m body (again i n tag m body rest) rest p

abbrev pub follow : Occ → ℕ → String → List (ℕ → Bool) → List ℕ → (ℕ → Trace) → (ℕ → Trace) → ℕ → Trace
follow once i n tag m body rest = rest
follow optional i n tag m body rest = rest
follow many i n tag m body rest = again i n tag m body rest
follow more i n tag m body rest = again i n tag m body rest

-- (A message of n bytes has no more than n elements in a row.)
abbrev pub child : Occ → String → List (ℕ → Bool) → List ℕ → (ℕ → Trace) → (ℕ → Trace) → ℕ → Trace
child o n tag m body rest = turn o n tag m body (follow o (length m) n tag m body rest) rest

-- what is due up to the end of a group
abbrev pub trace : Shape → List ℕ → ℕ → Trace
trace (end n) m p = closed n m (skipped m p)
trace (leaf o n k f rest) m p = child o n (start_tag (is_amount k) n) m (leaf_body o n k f m) (trace rest m) p
trace (group o n inner rest) m p = child o n (exactly (plain_tag n)) m (group_body o n (trace inner m)) (trace rest m) p

-- ---- a whole message
-- where its beginning has been read up to, and its version; or the first fault
pub data Opened : Type 0 where
  from : Version → ℕ → Opened
  faulty : ℕ → ℕ → Opened

-- the root tag, of one of some versions, is due at a place: "or root tag wrong", 2 where it should start
abbrev pub rooted : List Version → List ℕ → ℕ → Opened
rooted [] m p = faulty 2 p
rooted (v ∷ vs) m p = on_look (look (exactly (root v)) (drop p m)) (from v (p + length (root v))) (faulty 3 (length m)) (rooted vs m p)

-- "2: starts `<?` but not the declaration", at 0. "It may stand after the declaration [..]. Without a declaration it may stand before the root."
unfoldable pub opened : List ℕ → Opened
opened m =
    pick (starts_question m)
    (on_look (look (exactly declaration) m) (rooted versions m (skipped m (length declaration))) (faulty 3 (length m)) (faulty 2 0))
    (rooted versions m (skipped m 0))

-- 16: "bytes after `</Document>` and white space", at the first such byte
unfoldable pub behind_all : List ℕ → ℕ → Trace
behind_all m p = pick (ltb (skipped m p) (length m)) (fault 16 (skipped m p)) (up_to (skipped m p))

abbrev pub inside : List ℕ → Opened → Trace
inside m (from v p) = and_then (trace (profile v) m p) (behind_all m)
inside m (faulty n q) = fault n q

-- "Rule 1 comes first. Then reading goes left to right and the first fault met ends it."
unfoldable pub message : List ℕ → Trace
message m = pick (ltb most_bytes (length m)) (fault 1 0) (inside m (opened m))
