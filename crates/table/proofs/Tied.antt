-- What a row tells of the shape that is due there: its numbers are the shape's, and the rows of what comes later are where it says.
use mathlib.Core.Path.{◌≡◌, sym, ap, ◌∙◌}
use mathlib.Core.Bool.{false}
use mathlib.Core.List.{List}
use Prim.Native.Nat.{ℕ, ◌+◌, ◌<◌}
use Prim.Native.String.{String}
use native.Mathlib.Omega.{arith}
use lib.ListN.{length}
use Rattle.tags.specs.Tags.{exactly, end_tag, plain_tag, start_tag}
use Rattle.tags.proofs.Looks.{exactly_length}
use Rattle.profile.specs.declared.Kind.{Kind}
use Rattle.profile.specs.declared.Field.{Field}
use Rattle.profile.specs.declared.Version.{Version}
use Rattle.profile.specs.Kinds.{is_amount}
use Rattle.profile.specs.Tree.{Occ, Shape, end, leaf, group}
use Rattle.profile.specs.Profile.{is_type}
use Rattle.table.specs.declared.Row.{Row}
use Rattle.table.specs.declared.What.{What}
use Rattle.table.specs.declared.What.TheVariants.{End, Group, Value}
use Rattle.table.specs.Table.{occ_of, mark_name, amount_due, opens_by, closes_by, width, tags, due, many_rows, Element}

-- by the text of all tags, the shape that is due from each row on, and how many rows there are
module _ (t : List ℕ) (d : ℕ → Shape) (rows : ℕ) where
  pub record EndRow (n : String) (r : Row) : Type 0 where
    pub what : r.what ≡ End
    pub close : closes_by t r ≡ exactly (end_tag n)
    pub finish : r.finish ≡ length (end_tag n)

  pub record LeafRow (k : ℕ) (o : Occ) (n : String) (kd : Kind) (f : Field) (rest : Shape) (r : Row) : Type 0 where
    pub what : r.what ≡ Value kd f
    pub amount : amount_due r.what ≡ is_amount kd
    pub occ : occ_of r.occ ≡ o
    pub name : is_type (mark_name r.typed) ≡ is_type n
    pub some : 0 < r.start
    pub start : opens_by t r ≡ start_tag (is_amount kd) n
    pub width : width r ≡ length (start_tag (is_amount kd) n)
    pub close : closes_by t r ≡ exactly (end_tag n)
    pub finish : r.finish ≡ length (end_tag n)
    pub later : k < r.next
    pub next : d r.next ≡ rest

  pub record GroupRow (k : ℕ) (o : Occ) (n : String) (inner rest : Shape) (r : Row) : Type 0 where
    pub what : r.what ≡ Group
    pub amount : amount_due r.what ≡ false
    pub occ : occ_of r.occ ≡ o
    pub name : is_type (mark_name r.typed) ≡ is_type n
    pub some : 0 < r.start
    pub start : opens_by t r ≡ exactly (plain_tag n)
    pub width : width r ≡ length (plain_tag n)
    pub below : k + 1 < rows
    pub first : d (k + 1) ≡ inner
    pub later : k < r.next
    pub next : d r.next ≡ rest

  abbrev pub TiedBy : ℕ → Shape → Row → Type 0
  TiedBy k (end n) r = EndRow n r
  TiedBy k (leaf o n kd f rest) r = LeafRow k o n kd f rest r
  TiedBy k (group o n inner rest) r = GroupRow k o n inner rest r

  -- a row's numbers keep within the table
  pub record KeptBy (r : Row) : Type 0 where
    pub next : r.next < rows

-- in the table of a version
abbrev pub Tied : Version → ℕ → Shape → Row → Type 0
Tied v k sh r = TiedBy (tags v) (due v) (many_rows v) k sh r

abbrev pub RowKept : Version → Row → Type 0
RowKept v r = KeptBy (tags v) (due v) (many_rows v) r

-- ---- what is due is one thing
abbrev which : What → ℕ
which End = 0
which Group = 1
which (Value k f) = 2

apart : (a b : What) → a ≡ b → which a ≡ which b
apart a b e = ap which e

pub value_no_end : (k : Kind) (f : Field) → Value k f ≡ End → ⊥
value_no_end k f e = let z : ◌≡◌ {A = ℕ} 2 0 = apart (Value k f) End e in omega arith

pub group_no_end : Group ≡ End → ⊥
group_no_end e = let z : ◌≡◌ {A = ℕ} 1 0 = apart Group End e in omega arith

pub group_no_value : (k : Kind) (f : Field) → Group ≡ Value k f → ⊥
group_no_value k f e = let z : ◌≡◌ {A = ℕ} 1 2 = apart Group (Value k f) e in omega arith

abbrev kind_or : Kind → What → Kind
kind_or d End = d
kind_or d Group = d
kind_or d (Value k f) = k

abbrev field_or : Field → What → Field
field_or d End = d
field_or d Group = d
field_or d (Value k f) = f

pub same_value : (j k : Kind) (f g : Field) → Value j f ≡ Value k g → (j ≡ k) × (f ≡ g)
same_value j k f g e = (ap (kind_or j) e, ap (field_or f) e)

-- a row of no value
abbrev pub NoValue : Row → Type 0
NoValue r = (k : Kind) (f : Field) → r.what ≡ Value k f → ⊥

-- ---- what every row has that is no end, and what a row's tags have
module _ (v : Version) (k : ℕ) (r : Row) where
  pub element_row : (sh : Shape) → Tied v k sh r → (r.what ≡ End → ⊥) → Element sh
  element_row (end n) t h = absurd (h t.what)
  element_row (leaf o n kd f rest) t h = tt
  element_row (group o n inner rest) t h = tt

  pub later_row : (sh : Shape) → Tied v k sh r → (r.what ≡ End → ⊥) → k < r.next
  later_row (end n) t h = absurd (h t.what)
  later_row (leaf o n kd f rest) t h = t.later
  later_row (group o n inner rest) t h = t.later

  pub some_start : (sh : Shape) → Tied v k sh r → Element sh → 0 < r.start
  some_start (end n) t x = absurd x
  some_start (leaf o n kd f rest) t x = t.some
  some_start (group o n inner rest) t x = t.some

  pub group_below : (sh : Shape) → Tied v k sh r → Element sh → NoValue r → k + 1 < many_rows v
  group_below (end n) t x z = absurd x
  group_below (leaf o n kd f rest) t x z = absurd (z kd f t.what)
  group_below (group o n inner rest) t x z = t.below

  module _ (names : List ℕ) (e : names ≡ tags v) where
    shut : (n : String) → closes_by (tags v) r ≡ exactly (end_tag n) → r.finish ≡ length (end_tag n) → r.finish ≡ length (closes_by names r)
    shut n c f = rw (e, c) (f ∙ sym (exactly_length (end_tag n)))

    pub end_finish : (sh : Shape) → Tied v k sh r → r.what ≡ End → r.finish ≡ length (closes_by names r)
    end_finish (end n) t z = shut n t.close t.finish
    end_finish (leaf o n kd f rest) t z = absurd (value_no_end kd f (sym t.what ∙ z))
    end_finish (group o n inner rest) t z = absurd (group_no_end (sym t.what ∙ z))

    pub leaf_finish : (a : Kind) (b : Field) → r.what ≡ Value a b → (sh : Shape) → Tied v k sh r → Element sh → r.finish ≡ length (closes_by names r)
    leaf_finish a b z (end n) t x = absurd x
    leaf_finish a b z (leaf o n kd f rest) t x = shut n t.close t.finish
    leaf_finish a b z (group o n inner rest) t x = absurd (group_no_value a b (sym t.what ∙ z))

    pub start_width : (sh : Shape) → Tied v k sh r → Element sh → width r ≡ length (opens_by names r)
    start_width (end n) t x = absurd x
    start_width (leaf o n kd f rest) t x = rw (e, t.start) t.width
    start_width (group o n inner rest) t x = rw (e, t.start) (t.width ∙ sym (exactly_length (plain_tag n)))
