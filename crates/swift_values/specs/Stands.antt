-- What a quick reader promises of a value.
use Rattle.std.specs.Prelude.{ℕ, zero, suc, ◌-◌, ◌≤◌, ◌<◌, ◌≡◌, List, length, drop}
use Rattle.text.specs.Truth.{lead, part}
use Rattle.answers.specs.Given.{Given, yes}
use Rattle.tags.specs.Values.{in_value}
use Rattle.profile.specs.declared.Kind.{Kind}
use Rattle.profile.specs.declared.Kind.TheVariants.{Plain}
use Rattle.profile.specs.declared.Simple.{Simple}
use Rattle.kinds.specs.Given.{kind_given}

-- a place that was found, and what is so there; 0 tells nothing
abbrev pub Found : (ℕ → Type 0) → ℕ → Type 0
Found P zero = Unit {0}
Found P (suc r) = P (suc r)

-- a value begins at p, and `<`, the next one, stands behind it at r
pub record Ends (m : List ℕ) (p r : ℕ) : Type 0 where
  pub some : 0 < p
  pub from : p ≤ r
  pub behind : r < length m
  pub upto : lead in_value (drop p m) ≡ r - p

-- from p to r stands a value of the kind, which is answered g, and `<` behind it
pub record StandsFor (k : Kind) (g : Given) (m : List ℕ) (p r : ℕ) : Type 0 where
  pub some : 0 < p
  pub from : p ≤ r
  pub behind : r < length m
  pub upto : lead in_value (drop p m) ≡ r - p
  pub given : kind_given k (part p (r - p) m) ≡ g

-- the same of a kind whose checker says yes
abbrev pub Stands : Simple → List ℕ → ℕ → ℕ → Type 0
Stands j m p r = StandsFor (Plain j) yes m p r
