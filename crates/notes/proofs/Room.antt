-- What an entry adds to the running sum and to the count of items.
use mathlib.Core.Path.{◌≡◌, refl}
use mathlib.Core.Bool.{Bool, true, false}
use mathlib.Core.List.{List, [], ◌∷◌}
use Prim.Native.Nat.{ℕ, ◌+◌, ◌*◌, ◌≤◌}
use native.Mathlib.Omega.{arith}
use lib.Dec.{ltb}
use Rattle.text.specs.Truth.{pick, between}
use Rattle.text.proofs.Truths.{between_true}
use Rattle.answers.specs.Given.{Given, yes, worth, refused, ◌else◌, in_order}
use Rattle.codes.specs.declared.Element.{Element}
use Rattle.codes.specs.declared.Element.TheVariants.{SttlmMtd, SvcLvl, LclInstrm, SeqTp, ChrgBr, Prtry}
use Rattle.money.specs.declared.Range.TheVariants.{Item as an_item}
use Rattle.money.specs.Amount.{amount_form, cents as worth_of, most, amount_given}
use Rattle.profile.specs.declared.Kind.{Kind}
use Rattle.profile.specs.declared.Kind.TheVariants.{Plain, Count, Total, Amount, Code}
use Rattle.profile.specs.declared.Field.{Field}
use Rattle.profile.specs.Limits.{most_items}
use Rattle.profile.specs.Profile.{is_type}
use Rattle.kinds.specs.Given.{kind_given}
use Rattle.reading.specs.Trace.{What, item_begins, item_ends, there, absent, value, Entry}
use Rattle.reading.specs.Noted.{Reading, on, stop, onward}
use Rattle.reading.specs.Rules.{begun}
use Rattle.items.specs.Sums.{most_sum, of_amount, an_amount}
use Rattle.items.proofs.Room.{paid}
use Rattle.notes.specs.declared.Notes.{Notes}
use Rattle.notes.specs.Notes.{with_item, with_type, with_cents, with_service, with_start}
use Rattle.notes.specs.Notes.{may_follow, service_kept, coded, kept, on_given, value_noted, added_up, item_noted, type_refusal, unsaid, said_by, type_noted, what_noted, in_notes}
use Rattle.notes.specs.Steps.{Room}

module _ (n : Notes) where
  -- a amounts at most, and i items
  abbrev pub Adds : ℕ → ℕ → Reading Notes → Type 0
  Adds a i (on u) = (u.sum ≤ n.sum + a * most an_item) × (u.count ≡ n.count + i)
  Adds a i (stop c q) = Unit {0}

  nothing : (a : ℕ) (u : Notes) → u.sum ≡ n.sum → u.count ≡ n.count → Adds a 0 (on u)
  nothing a u s c = (omega (arith, s), omega (arith, c))

  module _ (p : ℕ) where
    item-adds : Adds 0 1 (item_noted p n)
    unfolding item_noted
    item-adds = go (ltb n.count most_items)
      where
        go : (b : Bool) → Adds 0 1 (pick b (on (with_item p n)) (stop 12 p))
        go true = (omega arith, refl)
        go false = tt

    type-adds : (b c : Bool) → Adds 0 0 (pick c (type_noted b p n) (on n))
    unfolding type_noted
    type-adds b false = nothing 0 n refl refl
    type-adds b true = go (unsaid n.typed b)
      where
        go : (x : Bool) → Adds 0 0 (pick x (on (with_type (said_by n.typed b) n)) (stop (type_refusal b) p))
        go true = nothing 0 (with_type (said_by n.typed b) n) refl refl
        go false = tt

    -- ---- a value: an amount that passed is in its range
    module _ (f : Field) (v : List ℕ) where
      -- one that is no amount
      other : (a : ℕ) (g : Given) (keep : ℕ → Reading Notes) → ((c : ℕ) → Adds a 0 (keep c)) → Adds a 0 (onward (on_given g p (λ c. onward (keep c) (λ u. on (with_start f p u)))) on)
      other a g keep h = go g
        where
          then : (x : Reading Notes) → Adds a 0 x → Adds a 0 (onward (onward x (λ u. on (with_start f p u))) on)
          then (on u) d = d
          then (stop c q) d = tt

          go : (g : Given) → Adds a 0 (onward (on_given g p (λ c. onward (keep c) (λ u. on (with_start f p u)))) on)
          go yes = then (keep 0) (h 0)
          go (worth c) = then (keep c) (h c)
          go (refused c) = tt

      code-adds : (e : Element) (a c : ℕ) → Adds a 0 (coded e c p n)
      unfolding service_kept
      code-adds SttlmMtd a c = nothing a n refl refl
      code-adds SvcLvl a c = nothing a n refl refl
      code-adds SeqTp a c = nothing a n refl refl
      code-adds ChrgBr a c = nothing a n refl refl
      code-adds Prtry a c = nothing a n refl refl
      code-adds LclInstrm a c = go (may_follow n.service c)
        where
          go : (b : Bool) → Adds a 0 (pick b (on (with_service c n)) (stop 11 p))
          go true = nothing a (with_service c n) refl refl
          go false = tt

      pub value_adds : (k : Kind) → Adds (of_amount k) 0 (onward (value_noted k f v p n) (λ u. on (added_up k u)))
      unfolding value_noted amount_given
      value_adds (Plain s) = other (of_amount (Plain s)) (kind_given (Plain s) v) (λ c. on n) (λ c. nothing 0 n refl refl)
      value_adds Count = other (of_amount Count) (kind_given Count v) (λ c. kept Count c p n) (λ c. (omega arith, omega arith))
      value_adds Total = other (of_amount Total) (kind_given Total v) (λ c. kept Total c p n) (λ c. (omega arith, omega arith))
      value_adds (Code e) = other (of_amount (Code e)) (kind_given (Code e) v) (λ c. coded e c p n) (code-adds e (of_amount (Code e)))
      value_adds Amount = go (amount_form v) (between 1 (most an_item) (worth_of v)) refl
        where
          go : (a b : Bool) → between 1 (most an_item) (worth_of v) ≡ b
              → Adds 1 0 (onward (on_given (in_order (a else 7 ∷ b else 9 ∷ []) (worth (worth_of v))) p (λ c. on (with_start f p (with_cents c n)))) (λ u. on (added_up Amount u)))
          go true true e = (omega (arith, (between_true 1 (most an_item) (worth_of v) e).1), omega arith)
          go true false e = tt
          go false b e = tt

-- where there is room for it, the sum with it is within the most that a message can come to
pub value_within : (k : Kind) (f : Field) (v : List ℕ) (p : ℕ) (n u : Notes) → n.count ≤ most_items → Room (of_amount k) n → value_noted k f v p n ≡ on u → (added_up k u).sum ≤ most_sum
value_within k f v p n u few r q =
    let d : Adds n (of_amount k) 0 (on (added_up k u)) = rw q at (value_adds n p f v k) in
    omega (arith, d.0, r, few)

-- a sum of amounts, each in its range, and a count of the items
pub adds : (e : Entry) (n u : Notes) → in_notes e n ≡ on u → (u.sum ≤ n.sum + paid an_amount e.what * most an_item) × (u.count ≡ n.count + begun e.what)
adds e n u q = rw q at (go e.what)
  where
    go : (w : What) → Adds n (paid an_amount w) (begun w) (what_noted w e.place n)
    go item_begins = item-adds n e.place
    go item_ends = nothing n 0 n refl refl
    go (there s) = type-adds n e.place true (is_type s)
    go (absent s) = type-adds n e.place false (is_type s)
    go (value k f v) = value_adds n e.place f v k
