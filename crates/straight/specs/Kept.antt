-- What is kept of the items before: how each run of tags was spelled, and stretches of several elements.
use Rattle.std.specs.Prelude.{◌≡◌, ℕ, ◌+◌, ◌<◌, ◌≤◌, List, length, slice_index_or, IfSome}
use Rattle.profile.specs.declared.Version.{Version}
use Rattle.swift_values.specs.Stands.{Found}
use Rattle.straight.specs.declared.before.Spelling.{Spelling}
use Rattle.straight.specs.declared.before.Codes.{Codes}
use Rattle.straight.specs.declared.before.Charged.{Charged}
use Rattle.straight.specs.declared.before.CreditorSide.{CreditorSide}
use Rattle.straight.specs.declared.before.Before.{Before}
use Rattle.straight.specs.Spelled.{Spelled}
use Rattle.straight.specs.Runs.{text_at}
use Rattle.straight.specs.Ways.{Gone}
use Rattle.straight.specs.Legs.{typed_legs, charged_legs, creditor_legs}

-- ---- the stretches from p on: the payment type; ChrgBr and ReqdColltnDt; the creditor's side
abbrev pub TypedGone : List ℕ → ℕ → Codes → Type 0
TypedGone m p r = Gone m p (typed_legs r.level r.service r.sequence r.listed) r.at

abbrev pub ChargedGone : List ℕ → ℕ → Charged → Type 0
ChargedGone m p r = Gone m p (charged_legs r.charge r.collected) r.at

abbrev pub CreditorGone : List ℕ → Version → ℕ → CreditorSide → Type 0
CreditorGone m v p r = Gone m p (creditor_legs v r.identifier r.scheme r.name r.account r.agent) r.at

-- ---- a run is spelled in the message as it is kept, where that is known; past the last one none is
abbrev pub unknown : Spelling
unknown = record { place = 0; length = 0; waits = 0 }

abbrev pub SpelledAs : List ℕ → ℕ → Spelling → Type 0
SpelledAs m j s = Found (λ n. Spelled m s.place (text_at j) (s.place + n)) s.length

-- ---- what is kept lies in the message, of its version; of the lengths nothing is said: they are only guesses
pub record Kept (m : List ℕ) (v : Version) (b : Before) : Type 0 where
  pub many : length b.runs ≡ 29
  pub each : (j : ℕ) → j < 29 → SpelledAs m j (slice_index_or b.runs j unknown)
  pub typed : IfSome b.typed (λ s. TypedGone m s.from s.found × (s.found.listed ≤ 4))
  pub charged : IfSome b.charged (λ s. ChargedGone m s.from s.found)
  pub creditor : IfSome b.creditor (λ s. CreditorGone m v s.from s.found)
