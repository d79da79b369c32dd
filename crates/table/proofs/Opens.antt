-- A row's start tag: its text, and behind it what an amount has.
use mathlib.Core.Path.{◌≡◌, refl}
use mathlib.Core.Bool.{Bool, true, false}
use mathlib.Core.List.{List, [], ◌++◌, append-nil}
use Prim.Native.Nat.{ℕ, ◌+◌}
use Prim.Native.String.{String}
use native.Mathlib.Omega.{arith}
use lib.ListN.{length, drop, length-append}
use Rattle.text.specs.Truth.{pick, part}
use Rattle.tags.specs.Tags.{look, exactly, amount_tag, plain_tag, currency, start_tag}
use Rattle.tags.proofs.Looks.{and_then, look_append, exactly_length}
use Rattle.table.specs.declared.Row.{Row}
use Rattle.table.specs.Table.{start_text, amount_due, opens_by, width}

-- t is the text of its tag
pub opens : (tags s t : List ℕ) (r : Row) → t ≡ part r.tag r.start tags
    → look (opens_by tags r) s ≡ and_then (look (exactly t) s) (look (pick (amount_due r.what) currency []) (drop (length t) s))
unfolding opens_by
opens tags s t r e = rw (← e, look_append, exactly_length)

-- where its text is that of an element's start tag, so are its tests, and how many they are
module _ (b : Bool) (n : String) (r : Row) (amount : amount_due r.what ≡ b) where
  pub opens_by_lem : (tags : List ℕ) → part r.tag r.start tags ≡ start_text b n → opens_by tags r ≡ start_tag b n
  unfolding opens_by
  opens_by_lem tags e = rw (e, amount) (go b)
    where
      go : (b : Bool) → exactly (start_text b n) ++ pick b currency [] ≡ start_tag b n
      go true = refl
      go false = append-nil (exactly (plain_tag n))

  pub width_by : r.start ≡ length (start_text b n) → width r ≡ length (start_tag b n)
  width_by e = rw (e, amount) (go b)
    where
      go : (b : Bool) → length (start_text b n) + pick b (length currency) 0 ≡ length (start_tag b n)
      go true = omega (arith, exactly_length (amount_tag n), length-append (exactly (amount_tag n)) currency)
      go false = omega (arith, exactly_length (plain_tag n))
