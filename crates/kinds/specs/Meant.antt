-- A value as it is meant, in its plain spelling; and when two values mean the same.
use Rattle.std.specs.Prelude.{ℕ, ◌≡◌, List}
use Rattle.text.specs.Quoted.{decimal}
use Rattle.words.specs.Collapsed.{collapsed}
use Rattle.money.specs.Amount.{cents}
use Rattle.money.specs.Plain.{without_zeros, plain_amount}
use Rattle.profile.specs.declared.Kind.{Kind}
use Rattle.profile.specs.declared.Kind.TheVariants.{Plain, Count, Total, Amount, Code}
use Rattle.profile.specs.declared.Simple.{Simple}
use Rattle.profile.specs.declared.Simple.TheVariants.{Reference, EndToEnd, Text70, Text140, Date, Time, Bic, Bicfi, Iban, Identifier}

-- request 4: "Nm and Ustrd collapse likewise [..]. The record and the plain form hold the collapsed value."
abbrev pub simply_meant : Simple → List ℕ → List ℕ
simply_meant Reference v = v
simply_meant EndToEnd v = collapsed v
simply_meant Text70 v = collapsed v
simply_meant Text140 v = collapsed v
simply_meant Date v = v
simply_meant Time v = v
simply_meant Bic v = v
simply_meant Bicfi v = v
simply_meant Iban v = v
simply_meant Identifier v = v

-- request 2: "count without leading zeros, amounts with two decimals and no needless zeros, all other values as read"
abbrev pub as_meant : Kind → List ℕ → List ℕ
as_meant (Plain s) v = simply_meant s v
as_meant Count v = without_zeros v
as_meant Total v = plain_amount v
as_meant Amount v = plain_amount v
as_meant (Code e) v = v

-- "mean the same (count and amounts as numbers, others by bytes)"; "Two values are equal when their collapsed bytes are."
abbrev pub SameMeaning : Kind → List ℕ → List ℕ → Type 0
SameMeaning (Plain s) v w = simply_meant s v ≡ simply_meant s w
SameMeaning Count v w = decimal v ≡ decimal w
SameMeaning Total v w = cents v ≡ cents w
SameMeaning Amount v w = cents v ≡ cents w
SameMeaning (Code e) v w = v ≡ w
