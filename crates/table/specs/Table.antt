-- The table that the code goes by, computed from the tree: a row for each element in the order of the profile, and one for each group's end.
use Rattle.std.specs.Prelude.{ℕ, zero, suc, ◌+◌, ◌-◌, ◌*◌, ◌/◌, ◌%◌, ◌^◌, ◌≡◌, Bool, true, false, not, List, [], ◌∷◌, ◌++◌, map, length, get_or, replicate, eqb}
use Prim.Native.String.{String}
use Rattle.text.specs.Truth.{pick, part}
use Rattle.text.specs.Quoted.{byte}
use Rattle.codes.specs.declared.Element as code
use Rattle.tags.specs.Tags.{exactly, end_tag, plain_tag, amount_tag, currency}
use Rattle.profile.specs.declared.Kind.{Kind}
use Rattle.profile.specs.declared.Kind.TheVariants.{Plain, Count, Total, Amount, Code}
use Rattle.profile.specs.declared.Simple.{Simple}
use Rattle.profile.specs.declared.Simple.TheVariants.{Reference, EndToEnd, Text70, Text140, Date, Time, Bic, Bicfi, Iban, Identifier}
use Rattle.profile.specs.declared.Field.{Field}
use Rattle.profile.specs.declared.Field.TheVariants.{MsgId}
use Rattle.profile.specs.declared.Version.{Version}
use Rattle.profile.specs.Fields.{field_number}
use Rattle.profile.specs.Listed.{fields}
use Rattle.profile.specs.Kinds.{is_amount}
use Rattle.profile.specs.Tree.{Occ, once, optional, many, more, Shape, end, leaf, group}
use Rattle.profile.specs.Profile.{type_name, is_type, in_header, profile}
use Rattle.table.specs.declared.Occ as code_occ
use Rattle.table.specs.declared.What.{What}
use Rattle.table.specs.declared.What.TheVariants.{End, Group, Value}
use Rattle.table.specs.declared.Row.{Row}

-- ---- what a row's numbers mean
-- the kinds of values by their numbers, from 2 on (0 is an end, 1 a group); every other number is a reference
abbrev pub kinds : List Kind
kinds =
    Plain Reference
    ∷ Total
    ∷ Amount
    ∷ Count
    ∷ Plain Text70
    ∷ Plain Text140
    ∷ Plain Date
    ∷ Plain Time
    ∷ Plain Bic
    ∷ Plain Iban
    ∷ Plain Identifier
    ∷ Code code.TheVariants.SttlmMtd
    ∷ Code code.TheVariants.SvcLvl
    ∷ Code code.TheVariants.LclInstrm
    ∷ Code code.TheVariants.SeqTp
    ∷ Code code.TheVariants.ChrgBr
    ∷ Code code.TheVariants.Prtry
    ∷ Plain EndToEnd
    ∷ Plain Bicfi
    ∷ []

unfoldable pub kind_of : ℕ → Kind
kind_of n = get_or kinds (n - 2) (Plain Reference)

abbrev simple_in_table : Simple → ℕ
simple_in_table Reference = 2
simple_in_table EndToEnd = 19
simple_in_table Text70 = 6
simple_in_table Text140 = 7
simple_in_table Date = 8
simple_in_table Time = 9
simple_in_table Bic = 10
simple_in_table Bicfi = 20
simple_in_table Iban = 11
simple_in_table Identifier = 12

abbrev code_in_table : code.Element → ℕ
code_in_table code.TheVariants.SttlmMtd = 13
code_in_table code.TheVariants.SvcLvl = 14
code_in_table code.TheVariants.LclInstrm = 15
code_in_table code.TheVariants.SeqTp = 16
code_in_table code.TheVariants.ChrgBr = 17
code_in_table code.TheVariants.Prtry = 18

abbrev pub kind_in_table : Kind → ℕ
kind_in_table (Plain s) = simple_in_table s
kind_in_table Total = 3
kind_in_table Amount = 4
kind_in_table Count = 5
kind_in_table (Code e) = code_in_table e

-- the fields by their numbers
unfoldable pub field_of : ℕ → Field
field_of n = get_or fields n MsgId

-- what is due: 0 is an end, 1 a group, every other number a value's kind
abbrev pub what_of : ℕ → ℕ → What
what_of zero f = End
what_of (suc zero) f = Group
what_of (suc (suc n)) f = Value (kind_of (suc (suc n))) (field_of f)

abbrev what_number : What → ℕ
what_number End = 0
what_number Group = 1
what_number (Value k f) = kind_in_table k

abbrev number_of_field : What → ℕ
number_of_field End = 0
number_of_field Group = 0
number_of_field (Value k f) = field_number f

abbrev pub amount_due : What → Bool
amount_due End = false
amount_due Group = false
amount_due (Value k f) = is_amount k

-- how often an element may come
abbrev pub occ_of : code_occ.Occ → Occ
occ_of code_occ.TheVariants.Once = once
occ_of code_occ.TheVariants.Optional = optional
occ_of code_occ.TheVariants.Many = many
occ_of code_occ.TheVariants.More = more

abbrev pub as_occ : Occ → code_occ.Occ
as_occ once = code_occ.TheVariants.Once
as_occ optional = code_occ.TheVariants.Optional
as_occ many = code_occ.TheVariants.Many
as_occ more = code_occ.TheVariants.More

-- whether another one may follow it
abbrev pub repeats : code_occ.Occ → Bool
repeats code_occ.TheVariants.Once = false
repeats code_occ.TheVariants.Optional = false
repeats code_occ.TheVariants.Many = true
repeats code_occ.TheVariants.More = true

abbrev pub occ_by : ℕ → code_occ.Occ
occ_by zero = code_occ.TheVariants.Once
occ_by (suc zero) = code_occ.TheVariants.Optional
occ_by (suc (suc zero)) = code_occ.TheVariants.Many
occ_by (suc (suc (suc n))) = code_occ.TheVariants.More

abbrev occ_number : code_occ.Occ → ℕ
occ_number code_occ.TheVariants.Once = 0
occ_number code_occ.TheVariants.Optional = 1
occ_number code_occ.TheVariants.Many = 2
occ_number code_occ.TheVariants.More = 3

-- a name by its mark: the payment type's, or one that is not
abbrev pub mark_name : Bool → String
mark_name false = ""
mark_name true = type_name

-- ---- the rows of a tree
-- a shape and all that is due later, in the order of the list: a row for each
abbrev pub rows_of : Shape → List Shape
rows_of (end n) = end n ∷ []
rows_of (leaf o n k f rest) = leaf o n k f rest ∷ rows_of rest
rows_of (group o n inner rest) = group o n inner rest ∷ (rows_of inner ++ rows_of rest)

-- its tags, one behind the other, as a message with nothing in it has them: an amount's start tag as far as its quotation mark
abbrev pub start_text : Bool → String → List ℕ
start_text amount n = pick amount (amount_tag n) (plain_tag n)

abbrev pub tags_of : Shape → List ℕ
tags_of (end n) = end_tag n
tags_of (leaf o n k f rest) = start_text (is_amount k) n ++ (end_tag n ++ tags_of rest)
tags_of (group o n inner rest) = plain_tag n ++ (tags_of inner ++ tags_of rest)

-- row k, whose tags stand from p on: where they stand; how many bytes its start tag has there, and its end tag behind it; what is due;
-- how often it may come; the row of what is due after it (a group's first child is the row below); whether its name is the payment type's
abbrev pub numbers_at : ℕ → ℕ → Shape → Row
numbers_at k p (end n) = record { tag = p; start = 0; finish = length (end_tag n); what = End; occ = as_occ once; next = 0; typed = false }
numbers_at k p (leaf o n kd f rest) =
    record {
      tag = p;
      start = length (start_text (is_amount kd) n);
      finish = length (end_tag n);
      what = Value kd f;
      occ = as_occ o;
      next = suc k;
      typed = is_type n;
    }
numbers_at k p (group o n inner rest) =
    record {
      tag = p;
      start = length (plain_tag n);
      finish = 0;
      what = Group;
      occ = as_occ o;
      next = suc k + length (rows_of inner);
      typed = is_type n;
    }

-- the numbers of all rows, of which the first is row k
abbrev pub numbers_of : ℕ → ℕ → Shape → List Row
numbers_of k p (end n) = numbers_at k p (end n) ∷ []
numbers_of k p (leaf o n kd f rest) =
    numbers_at k p (leaf o n kd f rest) ∷ numbers_of (suc k) (p + length (start_text (is_amount kd) n) + length (end_tag n)) rest
numbers_of k p (group o n inner rest) =
    numbers_at k p (group o n inner rest)
    ∷ (numbers_of (suc k) (p + length (plain_tag n)) inner
    ++ numbers_of (suc k + length (rows_of inner)) (p + length (plain_tag n) + length (tags_of inner)) rest)

-- ---- a row as one number: its own numbers one behind the other, the first in four digits to the base 16, how often it may come and the mark in one, each other in two
abbrev pub as_number : Row → ℕ
as_number r =
    r.tag * 16 ^ 12
    + r.start * 16 ^ 10
    + r.finish * 16 ^ 8
    + what_number r.what * 16 ^ 6
    + occ_number r.occ * 16 ^ 5
    + r.next * 16 ^ 3
    + number_of_field r.what * 16
    + pick r.typed 1 0

abbrev pub row_of : ℕ → Row
row_of n =
    record {
      tag = n / 16 ^ 12 % 65536;
      start = n / 16 ^ 10 % 256;
      finish = n / 16 ^ 8 % 256;
      what = what_of (n / 16 ^ 6 % 256) (n / 16 % 256);
      occ = occ_by (n / 16 ^ 5 % 16);
      next = n / 16 ^ 3 % 256;
      typed = not (eqb (n / 1 % 16) 0);
    }

-- ---- of a version
-- its tags, with spaces behind them: as much room in every version
abbrev pub room : ℕ
room = 1152

unfoldable pub tags : Version → List ℕ
tags v = tags_of (profile v) ++ replicate (room - length (tags_of (profile v))) (byte " ")

unfoldable pub table : Version → List ℕ
table v = map as_number (numbers_of 0 0 (profile v))

unfoldable pub many_rows : Version → ℕ
many_rows v = length (rows_of (profile v))

-- what is due from row k on
unfoldable pub due : Version → ℕ → Shape
due v k = get_or (rows_of (profile v)) k (end "")

-- the item's row: behind that of the bulk, that of the header and those of what the header holds
unfoldable pub item_row : Version → ℕ
item_row v = 2 + length (rows_of (in_header v))

-- the same row in every version
abbrev pub ItemsRow : ℕ → Type 0
ItemsRow k = (v : Version) → k ≡ item_row v

-- ---- row k of a table
abbrev pub row_in : List ℕ → ℕ → Row
row_in t k = row_of (get_or t k 0)

-- the tests of a row's tags, by all tags
unfoldable pub opens_by : List ℕ → Row → List (ℕ → Bool)
opens_by t r = exactly (part r.tag r.start t) ++ pick (amount_due r.what) currency []

unfoldable pub closes_by : List ℕ → Row → List (ℕ → Bool)
closes_by t r = exactly (part (r.tag + r.start) r.finish t)

-- how many bytes a row's start tag has
abbrev pub width : Row → ℕ
width r = r.start + pick (amount_due r.what) (length currency) 0

-- no end of a group
abbrev pub Element : Shape → Type 0
Element (end n) = ⊥
Element (leaf o n kd f rest) = Unit {0}
Element (group o n inner rest) = Unit {0}
