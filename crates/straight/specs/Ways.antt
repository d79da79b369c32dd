-- What stands from a place of an item on, leg by leg: runs of tags, and values with their places.
use Rattle.std.specs.Prelude.{◌≡◌, ℕ, ◌+◌, ◌<◌, ◌≤◌, Bool, true, Option, List, [], ◌∷◌, length, ◌==◌, slice_index}
use Rattle.answers.specs.Given.{Given, yes, worth}
use Rattle.codes.specs.declared.Element.{Element}
use Rattle.codes.specs.declared.Element.TheVariants.{SttlmMtd, SvcLvl, LclInstrm, SeqTp, ChrgBr, Prtry}
use Rattle.profile.specs.declared.Kind.{Kind}
use Rattle.profile.specs.declared.Kind.TheVariants.{Plain, Count, Total, Amount, Code}
use Rattle.profile.specs.declared.Field.{Field}
use Rattle.notes.specs.declared.Notes.{Notes}
use Rattle.notes.specs.Notes.{with_start, with_number, with_total, with_cents, with_sum, with_service, may_follow}
use Rattle.engine.specs.Engine.{filed_by}
use Rattle.swift_values.specs.Stands.{StandsFor}
use Rattle.straight.specs.Spelled.{tagged, Spelled}
use Rattle.straight.specs.Due.{Due, done, inside, value, close, Token, tight, spaced, flat, Walked, lost, to, walk}

-- a run of tags; a value of a kind and a field, its place, and its worth where that is noted
pub data Leg : Type 0 where
  tags : List Token → Leg
  holds : Kind → Field → ℕ → ℕ → Leg

-- ---- what is told of a value
-- the answer to one that passes
abbrev pub told : Kind → ℕ → Given
told (Plain s) c = yes
told Count c = worth c
told Total c = worth c
told Amount c = worth c
told (Code e) c = worth c

-- of codes, that of LclInstrm alone is noted
abbrev pub CodeNoted : Element → ℕ → ℕ → Type 0
CodeNoted LclInstrm c d = c ≡ d
CodeNoted SttlmMtd c d = Unit {0}
CodeNoted SvcLvl c d = Unit {0}
CodeNoted SeqTp c d = Unit {0}
CodeNoted ChrgBr c d = Unit {0}
CodeNoted Prtry c d = Unit {0}

abbrev pub WorthNoted : Kind → ℕ → ℕ → Type 0
WorthNoted (Plain s) c d = Unit {0}
WorthNoted Count c d = c ≡ d
WorthNoted Total c d = c ≡ d
WorthNoted Amount c d = c ≡ d
WorthNoted (Code e) c d = CodeNoted e c d

pub record Held (k : Kind) (d : ℕ) (m : List ℕ) (p q : ℕ) : Type 0 where
  pub found : ℕ
  pub stands : StandsFor k (told k found) m p q
  pub noted : WorthNoted k found d

-- ---- the way from p to r
pub record Then (P Q : ℕ → Type 0) : Type 0 where
  pub place : ℕ
  pub first : P place
  pub rest : Q place

-- a run of tags as it is spelled; one that stands right here begins with `<`
abbrev pub Opens : List Token → List ℕ → ℕ → Type 0
Opens [] m p = Unit {0}
Opens (tight t ∷ ts) m p = (slice_index m p == 60) ≡ true
Opens (spaced t ∷ ts) m p = Unit {0}

pub record Passed (m : List ℕ) (p : ℕ) (ts : List Token) (r : ℕ) : Type 0 where
  pub spelled : Spelled m p (flat ts) r
  pub tagged : tagged ts ≡ true
  pub opens : Opens ts m p

abbrev pub Way : List ℕ → ℕ → List Leg → ℕ → Type 0
Way m p [] r = p ≡ r
Way m p (tags ts ∷ ls) r = Then (Passed m p ts) (λ q. Way m q ls r)
Way m p (holds k f a d ∷ ls) r = (p ≡ a) × Then (Held k d m p) (λ q. Way m q ls r)

pub record Gone (m : List ℕ) (p : ℕ) (ls : List Leg) (r : ℕ) : Type 0 where
  pub some : 0 < p
  pub within : r ≤ length m
  pub way : Way m p ls r

-- ---- the same legs from another place on: places counted from a beginning
abbrev pub lifted : ℕ → List Leg → List Leg
lifted b [] = []
lifted b (tags ts ∷ ls) = tags ts ∷ lifted b ls
lifted b (holds k f a d ∷ ls) = holds k f (b + a) d ∷ lifted b ls

-- ---- where it leads, which computes
abbrev pub Onward : Walked → (Option Bool → Due → Type 0) → Type 0
Onward lost P = ⊥
Onward (to s d) P = P s d

abbrev pub InValue : Kind → Field → Due → (Due → Type 0) → Type 0
InValue k f done P = ⊥
InValue k f (inside sh c) P = ⊥
InValue k f (value j g n c) P = (k ≡ j) × (f ≡ g) × P (close n c)
InValue k f (close n c) P = ⊥

-- from d, after what was said of the payment type, to e and what is said then
abbrev pub Walks : Option Bool → List Leg → Due → Option Bool → Due → Type 0
Walks said [] d s e = (said ≡ s) × (d ≡ e)
Walks said (tags ts ∷ ls) d s e = Onward (walk said ts d) (λ u c. Walks u ls c s e)
Walks said (holds k f a c ∷ ls) d s e = InValue k f d (λ x. Walks said ls x s e)

-- ---- what is noted on the way
abbrev pub code_noting : Element → ℕ → Notes → Notes
code_noting LclInstrm c x = with_service c x
code_noting SttlmMtd c x = x
code_noting SvcLvl c x = x
code_noting SeqTp c x = x
code_noting ChrgBr c x = x
code_noting Prtry c x = x

abbrev pub noting : Kind → Field → ℕ → ℕ → Notes → Notes
noting (Plain s) f p c x = with_start f p x
noting Count f p c x = with_start f p (with_number c p x)
noting Total f p c x = with_start f p (with_total c p x)
noting Amount f p c x = with_sum (x.sum + c) (with_start f p (with_cents c x))
noting (Code e) f p c x = with_start f p (code_noting e c x)

abbrev pub legs_noted : List Leg → Notes → Notes
legs_noted [] x = x
legs_noted (tags ts ∷ ls) x = legs_noted ls x
legs_noted (holds k f p c ∷ ls) x = legs_noted ls (noting k f p c x)

abbrev pub legs_filed : List Leg → List ℕ → List ℕ
legs_filed [] l = l
legs_filed (tags ts ∷ ls) l = legs_filed ls l
legs_filed (holds k f p c ∷ ls) l = legs_filed ls (filed_by f p l)

abbrev pub CodeFits : Element → ℕ → Notes → Type 0
CodeFits LclInstrm c x = may_follow x.service c ≡ true
CodeFits SttlmMtd c x = Unit {0}
CodeFits SvcLvl c x = Unit {0}
CodeFits SeqTp c x = Unit {0}
CodeFits ChrgBr c x = Unit {0}
CodeFits Prtry c x = Unit {0}

abbrev pub Fits : Kind → ℕ → Notes → Type 0
Fits (Plain s) c x = Unit {0}
Fits Count c x = Unit {0}
Fits Total c x = Unit {0}
Fits Amount c x = Unit {0}
Fits (Code e) c x = CodeFits e c x

abbrev pub LegsFit : List Leg → Notes → Type 0
LegsFit [] x = Unit {0}
LegsFit (tags ts ∷ ls) x = LegsFit ls x
LegsFit (holds k f p c ∷ ls) x = Fits k c x × LegsFit ls (noting k f p c x)
