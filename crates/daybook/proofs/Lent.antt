-- What a call answers on the first 64 entries is what it answers on the lent list.
use mathlib.Core.Path.{◌≡◌, refl, ap, sym, ◌∙◌}
use mathlib.Core.Bool.{Bool, true, false}
use mathlib.Core.List.{List, [], ◌∷◌, ◌++◌, append-nil, append_assoc}
use mathlib.Core.Logic.{inl, inr}
use Prim.Native.Nat.{ℕ, zero, suc, ◌+◌, ◌-◌, ◌≤◌, ◌<◌}
use native.Mathlib.Omega.{arith}
use borrow.Author.Tests.{le-leb, lt-leb, leb-true, leb-false}
use lib.Dec.{leb}
use lib.ListN.{length, take, drop, set, replicate, take-append-drop, drop_of_length-le}
use lib.Seq.{take-take, take-append-le, take_all, length-take-le}
use Rattle.std.proofs.Common.{Some, None, Ok, Err}
use Rattle.text.specs.Truth.{pick}
use Rattle.answers.specs.declared.Refused.{Refused}
use Rattle.answers.specs.Refusals.{refusal_number}
use Rattle.text.proofs.Truths.{never, lt_or_ge, fails, passes}
use Rattle.book.specs.declared.Entry.{Entry}
use Rattle.book.specs.Book.{Key, Book, most_open, open_in, is_open, open_total, is_book, first_at, without, cents_of}
use Rattle.book.specs.Calls.{done, refusal, Outcome, unchanged, Bulk, bulk, unfit, enters, entered, withdraws, withdrawn, Call, enter, withdraw, called, asked, at, nowhere, none, searched}
use Rattle.book.specs.Stored.{Stored, agrees, Carried, as_lent, carried, kept}
use Rattle.book.specs.Code.{told_as, searched_as, place_in, book_of, stored_of}
use Rattle.book.proofs.Answers.{none_kept}
use Rattle.daybook.specs.Lent.{blank_entry, first_places, replaced}

-- ---- a search of a checked book
pub searched_err : (k : Key) (b : Book) (r : Refused) → told_as (Err r) ≡ asked b → searched_as (Err r) ≡ searched k b
unfolding asked searched
searched_err k b r = go (is_book b)
  where
    go : (t : Bool) → told_as (Err r) ≡ pick t (done (open_total b)) (refusal 29 0)
        → searched_as (Err r) ≡ pick t (pick (is_open k (open_in b)) (at (first_at k (open_in b))) nowhere) (none 29 0)
    go true h = never (cc)
    go false h =
        let z : refusal_number r.why ≡ 29 = cc in
        let y : r.at ≡ 0 = cc in
        rw (z, y)

pub searched_ok : (k : Key) (b : Book) (t : ℕ) → done t ≡ asked b → searched_as (Ok (place_in k (open_in b))) ≡ searched k b
unfolding asked searched
searched_ok k b t = go (is_book b) (is_open k (open_in b))
  where
    go : (i o : Bool) → done t ≡ pick i (done (open_total b)) (refusal 29 0)
        → searched_as (Ok (pick o (Some (first_at k (open_in b))) None)) ≡ pick i (pick o (at (first_at k (open_in b))) nowhere) (none 29 0)
    go true true h = refl
    go true false h = refl
    go false o h = never (cc)

-- ---- the first 64 places
module _ (ys : List Entry) (n : ℕ) where
  abbrev lent : Book
  lent = book_of ys n

  -- ---- too few places
  few-none : length ys < most_open → is_book lent ≡ false
  unfolding is_book
  few-none h = fails _ 0 (lt-leb most_open (length ys) h)

  pub few_same : length ys < most_open → replaced (first_places ys) ys ≡ ys
  unfolding replaced first_places
  few_same h =
      let z : length ys ≤ most_open = omega arith in
      rw (drop_of_length-le ys {i = most_open} z)
      (ap (λ (l : List Entry). l ++ []) (take-take (length ys) most_open (ys ++ replicate most_open blank_entry) z ∙ (take-append-le (length ys) ys (replicate most_open blank_entry) (omega
      arith) ∙ take_all (length ys) ys (omega arith))) ∙ append-nil ys)

  -- ---- room enough: the first 64 places hold all that is open
  module _ (room : most_open ≤ length ys) where
    abbrev first : List Entry
    first = take most_open ys

    pub first_is : first_places ys ≡ first
    unfolding first_places
    first_is = take-append-le most_open ys (replicate most_open blank_entry) room

    abbrev held : Book
    held = book_of first n

    open-same : n ≤ most_open → open_in held ≡ open_in lent
    open-same h = take-take n most_open ys h

    book-same : is_book held ≡ is_book lent
    unfolding is_book
    book-same = elim (lt_or_ge most_open n) [
      | inl h ↦ fails _ 1 (lt-leb n most_open h) ∙ sym (fails _ 1 (lt-leb n most_open h))
      | inr h ↦ rw (open-same h, length-take-le most_open ys room, le-leb most_open most_open (omega arith), le-leb most_open (length ys) room)
    ]

    book_few : is_book lent ≡ true → n ≤ most_open
    unfolding is_book
    book_few e = leb-true n most_open (passes _ e 1)

    -- two outcomes that differ in the places past the first 64 alone
    record Along (g f : Outcome) : Type 0 where
      pub told : g.told ≡ f.told
      pub number : g.book.number ≡ f.book.number
      pub entries : g.book.entries ++ drop most_open ys ≡ f.book.entries

    same-along : (k p : ℕ) → Along (unchanged k p held) (unchanged k p lent)
    same-along k p = record { told = refl; number = refl; entries = take-append-drop most_open ys }

    set_first : (i m : ℕ) (l : List Entry) (e : Entry) → i < m → set (take m l) i e ++ drop m l ≡ set l i e
    set_first i zero l e h = never (omega arith)
    set_first i (suc m) [] e h = refl
    set_first zero (suc m) (x ∷ l) e h = ap (λ (t : List Entry). e ∷ t) (take-append-drop m l)
    set_first (suc i) (suc m) (x ∷ l) e h = ap (λ (t : List Entry). x ∷ t) (set_first i m l e (omega arith))

    drop-first : (i m : ℕ) (l : List Entry) → i ≤ m → drop i (take m l) ++ drop m l ≡ drop i l
    drop-first zero m l h = take-append-drop m l
    drop-first (suc i) zero l h = never (omega arith)
    drop-first (suc i) (suc m) [] h = refl
    drop-first (suc i) (suc m) (x ∷ l) h = drop-first i m l (omega arith)

    module _ (is : is_book lent ≡ true) where
      few : n ≤ most_open
      few = book_few is

      enters-along : (x : Bulk) → Along (enters x held) (enters x lent)
      enters-along (unfit k p) = same-along k p
      enters-along (bulk e) = rw (open-same few) (go (is_open e.key (open_in lent)) (leb most_open n) refl)
        where
          go : (a b : Bool) → leb most_open n ≡ b
              → Along (pick a (unchanged 20 0 held) (pick b (unchanged 21 0 held) (record { told = done e.cents; book = record { entries = set first n e; number = n + 1 } })))
              (pick a (unchanged 20 0 lent) (pick b (unchanged 21 0 lent) (record { told = done e.cents; book = record { entries = set ys n e; number = n + 1 } })))
          go true b z = same-along 20 0
          go false true z = same-along 21 0
          go false false z = record { told = refl; number = refl; entries = set_first n most_open ys e (leb-false most_open n z) }

      withdraws-along : (k : Key) → Along (withdraws k held) (withdraws k lent)
      withdraws-along k = rw (open-same few) (go (is_open k (open_in lent)))
        where
          go : (a : Bool)
              → Along (pick a (record { told = done (cents_of k (open_in lent)); book = record { entries = without k (open_in lent) ++ drop (n - 1) first; number = n - 1 } }) (unchanged 22 0
              held))
              (pick a (record { told = done (cents_of k (open_in lent)); book = record { entries = without k (open_in lent) ++ drop (n - 1) ys; number = n - 1 } }) (unchanged 22 0 lent))
          go true =
              record {
                told = refl;
                number = refl;
                entries = append_assoc (without k (open_in lent)) (drop (n - 1) first) (drop most_open ys) ∙ ap (λ (t : List Entry). without k (open_in lent) ++ t) (drop-first (n - 1) most_open
                    ys (omega (arith, few)));
              }
          go false = same-along 22 0

      called-along : (c : Call) → Along (called c held) (called c lent)
      unfolding entered withdrawn
      called-along (enter x) = rw (book-same, is) (enters-along x)
      called-along (withdraw k) = rw (book-same, is) (withdraws-along k)

    pub filled : (bs : List Entry) → length bs ≡ most_open → replaced bs ys ≡ bs ++ drop most_open ys
    unfolding replaced
    filled bs long = rw (take_all (length ys) bs (omega arith))

  -- ---- a call, with t stored
  module _ (t : ℕ) where
    abbrev lent_stored : Stored
    lent_stored = stored_of ys n t

    pub record Agree (g f : Carried) : Type 0 where
      pub told : g.told ≡ f.told
      pub number : g.stored.book.number ≡ f.stored.book.number
      pub total : g.stored.total ≡ f.stored.total
      pub entries : g.stored.book.entries ++ drop most_open ys ≡ f.stored.book.entries

    module _ (room : most_open ≤ length ys) (c : Call) where
      abbrev held_stored : Stored
      held_stored = stored_of (first room) n t

      lent-agree : (k p : ℕ) → Agree (as_lent k p held_stored) (as_lent k p lent_stored)
      lent-agree k p = record { told = refl; number = refl; total = refl; entries = take-append-drop most_open ys }

      carried-agree : (g f : Outcome) → Along room g f → Agree (carried c t g) (carried c t f)
      carried-agree g f a = record { told = a.told; number = a.number; total = rw a.told; entries = a.entries }

      pub agree : Agree (kept c held_stored) (kept c lent_stored)
      unfolding kept
      agree = go (is_book lent) refl
        where
          then : (i : Bool) → is_book lent ≡ true → agrees lent_stored ≡ i
              → Agree (pick i (carried c t (called c (held room))) (as_lent 29 0 held_stored)) (pick i (carried c t (called c lent)) (as_lent 29 0 lent_stored))
          then true is e = carried-agree (called c (held room)) (called c lent) (called-along room is c)
          then false is e = lent-agree 29 0

          go : (i : Bool) → is_book lent ≡ i → Agree (kept c held_stored) (kept c lent_stored)
          go true is = rw (open-same room (book_few room is)) (then (agrees lent_stored) is refl)
          go false e = rw (none_kept c held_stored (rw (book-same room, e)), none_kept c lent_stored (rw e)) (lent-agree 29 0)
