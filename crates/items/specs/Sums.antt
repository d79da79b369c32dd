-- The running sum of a message, read so far, and the amounts that are due.
use Rattle.std.specs.Prelude.{ℕ, ◌+◌, ◌*◌, ◌≡◌, List}
use Rattle.text.specs.Truth.{pick}
use Rattle.money.specs.declared.Range.TheVariants.{Item as an_item}
use Rattle.money.specs.Amount.{most}
use Rattle.profile.specs.declared.Kind.{Kind}
use Rattle.profile.specs.declared.Kind.TheVariants.{Amount}
use Rattle.profile.specs.declared.Field.{Field}
use Rattle.profile.specs.Limits.{most_items}
use Rattle.profile.specs.Kinds.{same_kind}
use Rattle.profile.specs.Tree.{Occ, once, optional, many, more, Shape, end, leaf, group}
use Rattle.reading.specs.Trace.{Entry, Trace, met}
use Rattle.reading.specs.Noted.{on}
use Rattle.reading.specs.Judged.{listed}

-- "Ten thousand items of at most 99,999,999,999 cents"
abbrev pub most_sum : ℕ
most_sum = most_items * most an_item

-- what is noted at some moment of reading, after what was noted before: nothing more; or an entry that passed, and what is noted after it
pub data SoFar : Trace → List Entry → List Entry → Type 0 where
  here : {t : Trace} {es : List Entry} → SoFar t es es
  past : {e : Entry} {t : Trace} {es us now : List Entry} → listed e es ≡ on us → SoFar t us now → SoFar (met e t) es now

-- ---- how many amounts are due: an element that may come again is an item, which has its own
abbrev pub of_amount : Kind → ℕ
of_amount k = pick (same_kind k Amount) 1 0

abbrev pub of_others : Occ → ℕ → ℕ
of_others once x = x
of_others optional x = x
of_others many x = 0
of_others more x = 0

-- of a tree, where each value counts as it is given
abbrev pub counted_in : (Kind → Field → ℕ) → Shape → ℕ
counted_in own (end n) = 0
counted_in own (leaf o n k f rest) = of_others o (own k f) + counted_in own rest
counted_in own (group o n inner rest) = of_others o (counted_in own inner) + counted_in own rest

abbrev pub an_amount : Kind → Field → ℕ
an_amount k f = of_amount k

abbrev pub amounts_in : Shape → ℕ
amounts_in = counted_in an_amount
