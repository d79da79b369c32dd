-- The fixed bytes of a message, and how they lie at a place.
use Rattle.std.specs.Prelude.{ℕ, ◌+◌, ◌-◌, Bool, true, false, List, [], ◌∷◌, ◌++◌, take, drop, eqb}
use Prim.Native.String.{String}
use Rattle.text.specs.Truth.{some, pick, lead}
use Rattle.text.specs.Quoted.{bytes, equal, is}
use Rattle.text.specs.Classes.{capital}
use Rattle.tags.specs.declared.Look.{Look}
use Rattle.tags.specs.declared.Look.TheVariants.{Whole, Cut, Other}

-- "White space is space, tab, CR and LF."
unfoldable pub white : ℕ → Bool
white c = some (eqb c) (32 ∷ 9 ∷ 13 ∷ 10 ∷ [])

-- on past white space
abbrev pub skipped : List ℕ → ℕ → ℕ
skipped m p = p + lead white (drop p m)

-- how bytes that pass the tests lie at the beginning of a text: whole; cut, where the text ends within them; or other bytes stand there
abbrev pub look : List (ℕ → Bool) → List ℕ → Look
look [] s = Whole
look (f ∷ t) [] = Cut
look (f ∷ t) (c ∷ s) = pick (f c) (look t s) Other

abbrev pub on_look {ℓ} : {A : Type ℓ} → Look → A → A → A → A
on_look Whole a b c = a
on_look Cut a b c = b
on_look Other a b c = c

-- just these bytes
abbrev pub exactly : List ℕ → List (ℕ → Bool)
exactly [] = []
exactly (d ∷ t) = equal d ∷ exactly t

-- ---- the tags of an element, by its name
abbrev pub end_tag : String → List ℕ
end_tag n = bytes "</" ++ (bytes n ++ bytes ">")

abbrev pub plain_tag : String → List ℕ
plain_tag n = bytes "<" ++ (bytes n ++ bytes ">")

-- "An amount's start tag is `<Name Ccy="`, three capitals, `">`"
abbrev pub amount_tag : String → List ℕ
amount_tag n = bytes "<" ++ (bytes n ++ bytes " Ccy=\"")

abbrev pub currency : List (ℕ → Bool)
currency = capital ∷ capital ∷ capital ∷ exactly (bytes "\">")

-- the tests of a value's start tag; whether it is an amount's
abbrev pub start_tag : Bool → String → List (ℕ → Bool)
start_tag amount n = pick amount (exactly (amount_tag n) ++ currency) (exactly (plain_tag n))

-- where the three capitals of an amount's start tag stand that ends at a place; and whether they are EUR
unfoldable pub currency_place : ℕ → ℕ
currency_place p = p - 5

unfoldable pub in_euro : List ℕ → ℕ → Bool
in_euro m p = on_look (look (exactly (bytes "EUR")) (drop (currency_place p) m)) true false false

-- ---- the beginning of a message
-- "A message may start with exactly `<?xml version="1.0" encoding="UTF-8"?>` (38 bytes)."
abbrev pub declaration : List ℕ
declaration = bytes "<?xml version=\"1.0\" encoding=\"UTF-8\"?>"

-- "starts `<?`"
unfoldable pub starts_question : List ℕ → Bool
starts_question s = is "<?" (take 2 s)

-- "Then comes `<Document xmlns="[..]">`", with the name of the message's version
abbrev pub root_tag : String → List ℕ
root_tag name = bytes "<Document xmlns=\"" ++ (bytes name ++ bytes "\">")
