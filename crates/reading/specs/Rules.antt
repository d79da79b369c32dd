-- The rules of what a message says, each on the list of what was read before, in the paper's words.
use Rattle.std.specs.Prelude.{ℕ, suc, ◌+◌, Bool, true, false, not, List, [], ◌∷◌, ◌++◌, ltb}
use Rattle.text.specs.Truth.{either, pick}
use Rattle.text.specs.Quoted.{alike}
use Rattle.answers.specs.Given.{Given, yes, worth, refused, Rule, ◌else◌, in_order}
use Rattle.codes.specs.declared.Element as code
use Rattle.money.specs.Amount.{cents}
use Rattle.profile.specs.declared.Kind.{Kind}
use Rattle.profile.specs.declared.Kind.TheVariants.{Amount, Code}
use Rattle.profile.specs.declared.Field.{Field}
use Rattle.profile.specs.declared.Field.TheVariants.{TxId}
use Rattle.profile.specs.Limits.{most_items}
use Rattle.profile.specs.Kinds.{same_kind}
use Rattle.profile.specs.Fields.{same_field}
use Rattle.profile.specs.Profile.{is_type}
use Rattle.kinds.specs.Given.{kind_given}
use Rattle.reading.specs.Trace.{What, item_begins, item_ends, there, absent, value, Entry}

-- ---- what stands in a list
-- a where an item begins, b where it ends, and else c
abbrev pub at_item : {A : Type 0} → What → A → A → A → A
at_item item_begins a b c = a
at_item item_ends a b c = b
at_item (there n) a b c = c
at_item (absent n) a b c = c
at_item (value k f v) a b c = c

abbrev pub begun : What → ℕ
begun w = at_item w 1 0 0

abbrev pub items_in : List What → ℕ
items_in [] = 0
items_in (w ∷ l) = begun w + items_in l

-- what each of a list gives, in their order
abbrev pub gathered : {A : Type 0} → (What → List A) → List What → List A
gathered f [] = []
gathered f (w ∷ l) = f w ++ gathered f l

-- the values of a kind, and those of a field
abbrev pub of_kind : Kind → What → List (List ℕ)
of_kind j item_begins = []
of_kind j item_ends = []
of_kind j (there n) = []
of_kind j (absent n) = []
of_kind j (value k f v) = pick (same_kind k j) (v ∷ []) []

abbrev pub values_of : Kind → List What → List (List ℕ)
values_of j = gathered (of_kind j)

abbrev pub of_field : Field → What → List (List ℕ)
of_field g item_begins = []
of_field g item_ends = []
of_field g (there n) = []
of_field g (absent n) = []
of_field g (value k f v) = pick (same_field f g) (v ∷ []) []

abbrev pub values_at : Field → List What → List (List ℕ)
values_at g = gathered (of_field g)

-- the cents of all items
abbrev pub sum_of : List (List ℕ) → ℕ
sum_of [] = 0
sum_of (v ∷ l) = cents v + sum_of l

abbrev pub cents_in : List What → ℕ
cents_in ws = sum_of (values_of Amount ws)

-- wherever the payment type may stand: whether it is there
abbrev pub of_type : What → List Bool
of_type item_begins = []
of_type item_ends = []
of_type (there n) = pick (is_type n) (true ∷ []) []
of_type (absent n) = pick (is_type n) (false ∷ []) []
of_type (value k f v) = []

abbrev pub types_in : List What → List Bool
types_in = gathered of_type

-- the first of some values, or else v
abbrev pub first_of : List ℕ → List (List ℕ) → List ℕ
first_of v [] = v
first_of v (w ∷ l) = w

-- whether a value stands among some
abbrev pub stands_in : List ℕ → List (List ℕ) → Bool
stands_in v [] = false
stands_in v (w ∷ l) = either (alike w v) (stands_in v l)

-- ---- the rules of what is met, after what was read before
infix 82 ◌so◌
abbrev pub ◌so◌ : Bool → Bool → Bool
◌so◌ true b = b
◌so◌ false b = true

-- "It may stand [in the header], and then no item has it; otherwise every item has it": what is said first is said of the header, and of each item the other
abbrev pub unlike_first : Bool → List Bool → Bool
unlike_first b [] = true
unlike_first b (x ∷ l) = pick x (not b) b

abbrev pub rules : List What → What → List Rule
rules before item_begins =
    -- "item 10,001 begins"
    ltb (items_in before) most_items else 12
    ∷ []
rules before item_ends = []
rules before (there n) =
    -- "an item's complete PmtTpInf tag though the header has one"
    (is_type n so unlike_first true (types_in before)) else 23
    ∷ []
rules before (absent n) =
    -- "missing in both is 4 at the tag found instead"
    (is_type n so unlike_first false (types_in before)) else 4
    ∷ []
rules before (value k f v) =
    -- "LclInstrm differs from the first item's"
    (same_kind k (Code code.TheVariants.LclInstrm) so alike (first_of v (values_of (Code code.TheVariants.LclInstrm) before)) v) else 11
    -- "two items have equal TxId bytes [..], at the earliest second one": after its 7
    ∷ (same_field f TxId so not (stands_in v (values_at TxId before))) else 24
    ∷ []

-- "Then its kind is judged (7, then 8, then 9; codes 10 [..])"
abbrev pub own_kind : What → Given
own_kind item_begins = yes
own_kind item_ends = yes
own_kind (there n) = yes
own_kind (absent n) = yes
own_kind (value k f v) = kind_given k v

-- its kind, and then the rules
abbrev pub fitting : Given → Given → Given
fitting yes g = g
fitting (worth n) g = g
fitting (refused n) g = refused n

abbrev pub weighed : List What → What → Given
weighed before w = fitting (own_kind w) (in_order (rules before w) yes)
