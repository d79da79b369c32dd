-- What is due at a place, as a stack; and where a run of fixed tags leads, which computes.
use Rattle.std.specs.Prelude.{◌≡◌, ℕ, ◌+◌, ◌<◌, ◌≤◌, Bool, true, false, not, Option, List, [], ◌∷◌, ◌++◌, length, drop, ◌==◌}
use Prim.Native.String.{String}
use Rattle.text.specs.Truth.{both, either, pick, first}
use Rattle.text.specs.Quoted.{bytes, alike}
use Rattle.tags.specs.declared.Look.{Look}
use Rattle.tags.specs.declared.Look.TheVariants.{Whole, Cut, Other}
use Rattle.tags.specs.Tags.{look, exactly, end_tag, plain_tag, amount_tag, start_tag}
use Rattle.profile.specs.declared.Kind.{Kind}
use Rattle.profile.specs.declared.Field.{Field}
use Rattle.profile.specs.Kinds.{is_amount}
use Rattle.profile.specs.Tree.{once, optional, many, more, Shape, end, leaf, group}
use Rattle.profile.specs.Profile.{is_type}
use Rattle.reading.specs.Trace.{Trace, up_to, and_then, closed, valued, trace}
use Rattle.reading.specs.Noted.{Reading, Ended}
use Rattle.notes.specs.declared.Notes.{Notes}
use Rattle.notes.specs.Notes.{with_type, unsaid, said_by}
use Rattle.notes.specs.Steps.{reads}
use Rattle.engine.specs.Engine.{placed}

-- nothing; what is due up to the end of a group, and then; a value and its end tag, and then; an end tag right here, and then
pub data Due : Type 0 where
  done : Due
  inside : Shape → Due → Due
  value : Kind → Field → String → Due → Due
  close : String → Due → Due

-- what is due, as it stands in a message from a place on: this is the definition's trace and nothing else
abbrev pub run : Due → List ℕ → ℕ → Trace
run done m p = up_to p
run (inside sh k) m p = and_then (trace sh m p) (run k m)
run (value kd f n k) m p = and_then (valued n kd f m p) (run k m)
run (close n k) m p = and_then (closed n m p) (run k m)

-- what is made of a trace: the notes, and where TxIds begin
pub record Made : Type 0 where
  pub notes : Reading (Ended Notes)
  pub places : List ℕ

abbrev pub made : Trace → Notes → List ℕ → Made
made t x l = record { notes = reads t x; places = placed t x l }

-- ---- a run of fixed bytes: its pieces, each right here or after white space
pub data Token : Type 0 where
  tight : List ℕ → Token
  spaced : List ℕ → Token

abbrev pub text_of : Token → List ℕ
text_of (tight t) = t
text_of (spaced t) = t

abbrev pub flat : List Token → List ℕ
flat [] = []
flat (t ∷ ts) = text_of t ++ flat ts

-- where a run leads: what is said of the payment type then, and what is due
pub data Walked : Type 0 where
  lost : Walked
  to : Option Bool → Due → Walked

abbrev pub onto : Walked → (Option Bool → Due → Walked) → Walked
onto lost f = lost
onto (to s d) f = f s d

abbrev pub is_other : Look → Bool
is_other Whole = false
is_other Cut = false
is_other Other = true

-- a value's start tag as it stands in every accepted message
abbrev pub opening : Bool → String → List ℕ
opening true n = amount_tag n ++ bytes "EUR\">"
opening false n = plain_tag n

-- an element that is 0 or 1, there or not: whether it may be, and what is said of the payment type then
abbrev pub allowed : Option Bool → Bool → String → Bool
allowed said b n = either (not (is_type n)) (unsaid said b)

abbrev pub heard : Option Bool → Bool → String → Option Bool
heard said b n = pick (is_type n) (said_by said b) said

-- one tag, where this shape is due, after what was said of the payment type
abbrev pub step : Option Bool → List ℕ → Shape → Due → Walked
step said t (end n) k = pick (alike (end_tag n) t) (to said k) lost
step said t (leaf once n kd f rest) k = pick (alike (opening (is_amount kd) n) t) (to said (value kd f n (inside rest k))) lost
step said t (leaf optional n kd f rest) k =
    pick (alike (opening (is_amount kd) n) t) (pick (allowed said true n) (to (heard said true n) (value kd f n (inside rest k))) lost)
    (pick (both (is_other (look (start_tag (is_amount kd) n) t)) (allowed said false n)) (step (heard said false n) t rest k) lost)
step said t (leaf many n kd f rest) k = lost
step said t (leaf more n kd f rest) k = lost
step said t (group once n inner rest) k = pick (alike (plain_tag n) t) (to said (inside inner (inside rest k))) lost
step said t (group optional n inner rest) k =
    pick (alike (plain_tag n) t) (pick (allowed said true n) (to (heard said true n) (inside inner (inside rest k))) lost)
    (pick (both (is_other (look (exactly (plain_tag n)) t)) (allowed said false n)) (step (heard said false n) t rest k) lost)
step said t (group many n inner rest) k = lost
step said t (group more n inner rest) k = lost

-- right here: an end tag
abbrev pub step_tight : Option Bool → List ℕ → Due → Walked
step_tight said t done = lost
step_tight said t (inside sh k) = lost
step_tight said t (value kd f n k) = lost
step_tight said t (close n k) = pick (alike (end_tag n) t) (to said k) lost

-- after white space
abbrev pub step_spaced : Option Bool → List ℕ → Due → Walked
step_spaced said t done = lost
step_spaced said t (inside sh k) = pick (first t == 60) (step said t sh k) lost
step_spaced said t (value kd f n k) = lost
step_spaced said t (close n k) = lost

abbrev pub step_by : Option Bool → Token → Due → Walked
step_by said (tight t) d = step_tight said t d
step_by said (spaced t) d = step_spaced said t d

abbrev pub walk : Option Bool → List Token → Due → Walked
walk said [] d = to said d
walk said (t ∷ ts) d = onto (step_by said t d) (λ s e. walk s ts e)

-- ---- what a run is
-- whatever is due at p, the run leads to what is due at r
abbrev pub Leads : List ℕ → ℕ → List Token → ℕ → Type 0
Leads m p ts r = (d e : Due) (s : Option Bool) (x : Notes) (l : List ℕ) → walk x.typed ts d ≡ to s e → made (run d m p) x l ≡ made (run e m r) (with_type s x) l

-- the text t stands from p to r
pub record Past (m : List ℕ) (p : ℕ) (t : List ℕ) (r : ℕ) : Type 0 where
  pub some : 0 < p
  pub within : r ≤ length m
  pub place : r ≡ p + length t
  pub stands : drop p m ≡ t ++ drop r m

-- the run stands from p to r
pub record Went (m : List ℕ) (p : ℕ) (ts : List Token) (r : ℕ) : Type 0 where
  pub some : 0 < p
  pub within : r ≤ length m
  pub leads : Leads m p ts r
