-- `table::opening` meets its contract: the text of the tag, and behind one that lies there whole what an amount has.
use mathlib.Core.Path.{◌≡◌, ◌∙◌, refl, sym}
use mathlib.Core.Bool.{Bool, true, false}
use mathlib.Core.List.{List, []}
use Prim.Native.Nat.{ℕ, ◌≤◌}
use lib.ListN.{length, drop}
use Rattle.text.specs.Truth.{pick, part}
use Rattle.text.proofs.Truths.{yes_of, no_of}
use Rattle.text.proofs.Scan.{rest_of}
use Rattle.tags.specs.declared.Look.{Look}
use Rattle.tags.specs.declared.Look.TheVariants.{Whole, Cut, Other}
use Rattle.tags.specs.Tags.{look, exactly, currency}
use Rattle.table.specs.declared.Row.{Row}
use Rattle.table.specs.Table.{amount_due, opens_by}
use Rattle.tags.proofs.Looks.{text_fits, and_then}
use Rattle.table.proofs.Opens.{opens}
use Rattle.table.proofs.opening.Goals as goal

-- what the text's place tells of the start tag
told : (tags s t : List ℕ) (r : Row) (found : Look) → t ≡ part r.tag r.start tags → found ≡ look (exactly t) s
    → (l : Look) → found ≡ l → (b : Bool) → amount_due r.what ≡ b
    → look (opens_by tags r) s ≡ and_then l (look (pick b currency []) (drop (length t) s))
told tags s t r found p q l e b f = opens tags s t r p ∙ rw (← q, e, f)

-- one that does not lie there whole
not_there : (tags s t : List ℕ) (r : Row) (found : Look) → t ≡ part r.tag r.start tags → found ≡ look (exactly t) s → (found ≡ Whole → ⊥) → found ≡ look (opens_by tags r) s
not_there tags s t r Whole p q n = absurd (n refl)
not_there tags s t r Cut p q n = sym (told tags s t r Cut p q Cut refl _ refl)
not_there tags s t r Other p q n = sym (told tags s t r Other p q Other refl _ refl)

-- a text that lies there whole is no longer than s
fits : (s t : List ℕ) (found : Look) → found ≡ look (exactly t) s → found ≡ Whole → length t ≤ length s
fits s t found q e = text_fits t s (sym q ∙ e)

pub slice_bounds-currency_at-count : goal.slice_bounds-currency_at-count
slice_bounds-currency_at-count c = fits c.args.s.now c.piece-text.result.now _ c.text_at-look.ensures c.in-Whole.is

pub slice_bounds-currency_at-start : goal.slice_bounds-currency_at-start
slice_bounds-currency_at-start c = fits c.args.s.now c.piece-text.result.now _ c.text_at-look.ensures c.in-Whole.is

pub returns-in_default : goal.returns-in_default
returns-in_default c =
    let a = c.args in
    not_there a.tags.now a.s.now c.piece-text.result.now a.r _ (rw (c.from.ensures, c.from-2.ensures) at c.piece-text.ensures) c.text_at-look.ensures c.in_default.not-Whole

pub returns-then-is_amount : goal.returns-then-is_amount
returns-then-is_amount c =
    let a = c.args in
    let t = c.piece-text.result.now in
    let amount = yes_of c.is_amount.ensures c.if-is_amount.true in
    rw (rest_of (length t) a.s.now) at c.currency_at.ensures
    ∙ sym (told a.tags.now a.s.now t a.r _ (rw (c.from.ensures, c.from-2.ensures) at c.piece-text.ensures) c.text_at-look.ensures Whole c.in-Whole.is true amount)

pub returns-else-is_amount : goal.returns-else-is_amount
returns-else-is_amount c =
    let a = c.args in
    let amount = no_of c.is_amount.ensures c.if-is_amount.false in
    c.in-Whole.is ∙ sym (told a.tags.now a.s.now c.piece-text.result.now a.r _ (rw (c.from.ensures, c.from-2.ensures) at c.piece-text.ensures) c.text_at-look.ensures Whole c.in-Whole.is false amount)
