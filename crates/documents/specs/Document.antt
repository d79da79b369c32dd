-- A document: the element tree, filled with white space and values. Its text is a message.
use Rattle.std.specs.Prelude.{ℕ, ◌≤◌, ◌≡◌, true, List, [], ◌∷◌, ◌++◌, length}
use Prim.Native.String.{String}
use Rattle.text.specs.Truth.{every, pick}
use Rattle.text.specs.Quoted.{bytes}
use Rattle.profile.specs.declared.Kind.{Kind}
use Rattle.profile.specs.Tree.{Occ, once, optional, many, more, Shape, end, leaf, group}
use Rattle.tags.specs.Tags.{white, end_tag, plain_tag, amount_tag}
use Rattle.tags.specs.Values.{in_value}
use Rattle.profile.specs.Kinds.{is_amount}

-- an element as it stands: the white space before its start tag, and what it holds
pub record Led (A : Type 0) : Type 0 where
  pub blank : List ℕ
  pub held : A

-- a child of a group as often as it stands there, and the group's other children
pub record Row (A B : Type 0) : Type 0 where
  pub all : List (Led A)
  pub others : B

-- what stands up to the end of a group. An element of a value holds the value; an end tag has only white space before it
abbrev pub Doc : Shape → Type 0
Doc (end n) = List ℕ
Doc (leaf o n k f rest) = Row (List ℕ) (Doc rest)
Doc (group o n inner rest) = Row (Doc inner) (Doc rest)

-- ---- its text
-- a value's start tag; an amount's is in euro
abbrev pub opening : Kind → String → List ℕ
opening k n = pick (is_amount k) (amount_tag n ++ bytes "EUR\">") (plain_tag n)

abbrev pub led_text : {A : Type 0} → List ℕ → (A → List ℕ) → Led A → List ℕ
led_text tag f e = e.blank ++ (tag ++ f e.held)

abbrev pub texts : {A : Type 0} → (A → List ℕ) → List A → List ℕ
texts f [] = []
texts f (e ∷ l) = f e ++ texts f l

abbrev pub text : (sh : Shape) → Doc sh → List ℕ
text (end n) w = w ++ end_tag n
text (leaf o n k f rest) d = texts (led_text (opening k n) (λ v. v ++ end_tag n)) d.all ++ text rest d.others
text (group o n inner rest) d = texts (led_text (plain_tag n) (text inner)) d.all ++ text rest d.others

-- ---- what may stand in it
-- "1 each unless marked"
abbrev pub Often : Occ → ℕ → Type 0
Often once n = n ≡ 1
Often optional n = n ≤ 1
Often many n = 1 ≤ n
Often more n = 0 ≤ n

abbrev pub Each : {A : Type 0} → (A → Type 0) → List A → Type 0
Each P [] = Unit {0}
Each P (e ∷ l) = P e × Each P l

-- "White space is space, tab, CR and LF."
abbrev pub White : List ℕ → Type 0
White w = every white w ≡ true

-- "A value is everything up to the next `<`"
abbrev pub Tagless : List ℕ → Type 0
Tagless v = every in_value v ≡ true

abbrev pub LedBy : {A : Type 0} → (A → Type 0) → Led A → Type 0
LedBy P e = White e.blank × P e.held

abbrev pub Proper : (sh : Shape) → Doc sh → Type 0
Proper (end n) w = White w
Proper (leaf o n k f rest) d = Often o (length d.all) × Each (LedBy Tagless) d.all × Proper rest d.others
Proper (group o n inner rest) d = Often o (length d.all) × Each (LedBy (Proper inner)) d.all × Proper rest d.others
