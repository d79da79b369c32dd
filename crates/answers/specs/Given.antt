-- "A single checker asked alone answers with 7 to 9 and place 0." "Accepting, the amount's answers the cents and the count's the number, the others yes."
-- Request 1: "Refusals: 19, .., also from the checker alone."
use Rattle.std.specs.Prelude.{ℕ, Bool, true, false, List, [], ◌∷◌}
use Rattle.std.specs.Prelude.{Result, Ok, Err, Option, None, Some}
use Rattle.answers.specs.declared.Refusal.{Refusal}
use Rattle.answers.specs.Refusals.{refusal_number}

-- what is given: yes; a number, cents or a place in a list; or a refusal, by its number
pub data Given : Type 0 where
  yes : Given
  worth : ℕ → Given
  refused : ℕ → Given

-- of a result: what a value that passes is given, or the refusal by its number
abbrev pub given_by : {A : Type 0} → (A → Given) → Result A Refusal → Given
given_by f (Ok x) = f x
given_by f (Err r) = refused (refusal_number r)

-- of a checker that says yes; of one that tells a number, cents or a place in a list; and of any kind, where nothing may be told
abbrev pub given_yes : Result Unit Refusal → Given
given_yes r = given_by (λ _. yes) r

abbrev pub given_worth : Result ℕ Refusal → Given
given_worth r = given_by worth r

abbrev pub told_of : Option ℕ → Given
told_of None = yes
told_of (Some n) = worth n

abbrev pub given_any : Result (Option ℕ) Refusal → Given
given_any r = given_by told_of r

abbrev pub number_of : Given → ℕ
number_of yes = 0
number_of (worth v) = 0
number_of (refused n) = n

abbrev pub value_of : Given → ℕ
value_of yes = 0
value_of (worth v) = v
value_of (refused n) = 0

-- a rule: a test, and the number that is given where it fails
pub record Rule : Type 0 where
  pub test : Bool
  pub number : ℕ

infix 80 ◌else◌
abbrev pub ◌else◌ : Bool → ℕ → Rule
◌else◌ b n = record { test = b; number = n }

abbrev unless : Bool → Given → Given → Given
unless true g h = g
unless false g h = h

-- the rules in their order, and the answer where all hold: the first that fails decides
abbrev pub in_order : List Rule → Given → Given
in_order [] g = g
in_order (r ∷ l) g = unless r.test (in_order l g) (refused r.number)

-- what a rule's test says as a result: a yes, or the refusal where it fails
abbrev pub required : Bool → Refusal → Result Unit Refusal
required true why = Ok tt
required false why = Err why
