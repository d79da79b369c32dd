-- When the profile holds of what a document says.
use Rattle.std.specs.Prelude.{ℕ, ◌≤◌, ◌≡◌, true, false, List, [], ◌∷◌, length, replicate}
use Rattle.text.specs.Quoted.{decimal}
use Rattle.answers.specs.Given.{Given, yes, worth, refused}
use Rattle.codes.specs.declared.Element as code
use Rattle.money.specs.Amount.{cents}
use Rattle.profile.specs.declared.Kind.TheVariants.{Count, Total, Code}
use Rattle.profile.specs.declared.Field.TheVariants.{TxId}
use Rattle.profile.specs.declared.Version.{Version}
use Rattle.profile.specs.Limits.{most_bytes, most_items}
use Rattle.profile.specs.Profile.{profile}
use Rattle.reading.specs.Trace.{What}
use Rattle.reading.specs.Rules.{items_in, values_of, values_at, cents_in, types_in, own_kind}
use Rattle.documents.specs.Document.{Each}
use Rattle.documents.specs.Said.{said}
use Rattle.documents.specs.Message.{Message, whole, Lawful}

-- a checker's answer that is no refusal
abbrev pub Passes : Given → Type 0
Passes yes = Unit {0}
Passes (worth n) = Unit {0}
Passes (refused n) = ⊥

-- each of the others is so beside the first
abbrev pub AsFirst : {A : Type 0} → (A → A → Type 0) → List A → Type 0
AsFirst R [] = Unit {0}
AsFirst R (v ∷ l) = Each (R v) l

-- each as the first one
abbrev pub Alike : List (List ℕ) → Type 0
Alike = AsFirst (λ v w. w ≡ v)

-- no two are equal
abbrev pub Apart : List (List ℕ) → Type 0
Apart [] = Unit {0}
Apart (v ∷ l) = Each (λ w. w ≡ v → ⊥) l × Apart l

-- PmtTpInf stands in the header and in no item; or in every item and not in the header
pub data TypeStands (ws : List What) : Type 0 where
  in_header : types_in ws ≡ true ∷ replicate (items_in ws) false → TypeStands ws
  in_items : types_in ws ≡ false ∷ replicate (items_in ws) true → TypeStands ws

-- what one count or one amount says
abbrev pub numbers : List (List ℕ) → List ℕ
numbers [] = []
numbers (v ∷ l) = decimal v ∷ numbers l

abbrev pub amounts : List (List ℕ) → List ℕ
amounts [] = []
amounts (v ∷ l) = cents v ∷ amounts l

-- ---- "accepts exactly when the written profile holds, with count and cent total equal to the header"
pub record Holds (ws : List What) (n c : ℕ) : Type 0 where
  -- every value is of its kind, and every code is listed
  pub kinds : Each (λ w. Passes (own_kind w)) ws
  -- the payment type stands in the header or in every item
  pub type : TypeStands ws
  -- LclInstrm is the same in all items
  pub alike : Alike (values_of (Code code.TheVariants.LclInstrm) ws)
  -- no two items have the same TxId
  pub apart : Apart (values_at TxId ws)
  -- so many items stand, 10,000 at most, and the header's one count says as many
  pub items : items_in ws ≡ n
  pub few : n ≤ most_items
  pub count : numbers (values_of Count ws) ≡ n ∷ []
  -- their cents come to c, and the header's one total says as many
  pub cents : cents_in ws ≡ c
  pub total : amounts (values_of Total ws) ≡ c ∷ []

-- a message that is the text of a document of its version, of which the profile holds
pub record Profiled (m : List ℕ) (n c : ℕ) : Type 0 where
  pub version : Version
  pub message : Message version (profile version)
  pub lawful : Lawful message
  pub is : m ≡ whole message
  pub short : length m ≤ most_bytes
  pub holds : Holds (said (profile version) message.inside) n c
