-- A bulk's key is made of its document's own values.
use Rattle.std.specs.Prelude.{ℕ, ◌≡◌, List, [], ◌∷◌}
use Rattle.codes.specs.declared.Element as code
use Rattle.profile.specs.declared.Kind.TheVariants.{Code}
use Rattle.profile.specs.declared.Field.TheVariants.{MsgId, InstgBic, IntrBkSttlmDt}
use Rattle.profile.specs.declared.Version.{Version}
use Rattle.profile.specs.Profile.{profile}
use Rattle.reading.specs.Trace.{What}
use Rattle.reading.specs.Rules.{values_of, values_at}
use Rattle.documents.specs.Document.{Each}
use Rattle.documents.specs.Said.{said}
use Rattle.documents.specs.Message.{Message, whole, Lawful}
use Rattle.naming.specs.Key.{key_with, keyed}

-- the four values that name a bulk
pub record Four : Type 0 where
  pub service : List ℕ
  pub id : List ℕ
  pub bic : List ℕ
  pub date : List ℕ

abbrev pub key_for : Four → List ℕ
key_for f = key_with f.service f.id f.bic f.date

-- they are those of what a document says: its items' LclInstrm, each time it stands there; its one MsgId, its one instructing BIC, its one settlement date
pub record Names (ws : List What) (f : Four) : Type 0 where
  pub others : List (List ℕ)
  pub service : values_of (Code code.TheVariants.LclInstrm) ws ≡ f.service ∷ others
  pub same : Each (λ w. w ≡ f.service) others
  pub id : values_at MsgId ws ≡ f.id ∷ []
  pub bic : values_at InstgBic ws ≡ f.bic ∷ []
  pub date : values_at IntrBkSttlmDt ws ≡ f.date ∷ []

-- a message is the text of a document, and its key is made of that document's four
pub record Named (m : List ℕ) : Type 0 where
  pub version : Version
  pub document : Message version (profile version)
  pub lawful : Lawful document
  pub is : m ≡ whole document
  pub four : Four
  pub names : Names (said (profile version) document.inside) four
  pub key : (keyed m).key ≡ key_for four
