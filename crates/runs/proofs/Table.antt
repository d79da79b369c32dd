-- The table sums to the open total.
use mathlib.Core.Path.{◌≡◌, refl, sym, ap, ◌∙◌}
use mathlib.Core.Bool.{Bool, true, false}
use mathlib.Core.List.{List, [], ◌∷◌, ◌++◌}
use mathlib.Core.Logic.{◌⊎◌, inl, inr}
use Prim.Native.Nat.{ℕ, zero, suc, ◌+◌, ◌≤◌}
use native.Mathlib.Omega.{arith}
use borrow.Author.Tests.{eqb-true, eq-eqb}
use lib.Dec.{ltb}
use lib.ListN.{length, get_or}
use Rattle.text.specs.Truth.{pick}
use Rattle.text.specs.Quoted.{alike}
use Rattle.text.proofs.Truths.{never}
use Rattle.accounts.specs.Lengths.{in_one}
use Rattle.reading.specs.Verdict.{Judged, accepted, refused}
use Rattle.reading.specs.Judged.{judged}
use Rattle.naming.specs.Key.{keyed}
use Rattle.recording.specs.Record.{Line, line_of}
use Rattle.sums.specs.declared.Lot.{Lot}
use Rattle.sums.specs.Sums.{total, lot_if, lot_of}
use Rattle.sums.proofs.Laws.{sums_whole, service_row, lot_long}
use Rattle.book.specs.declared.Entry.{Entry}
use Rattle.book.specs.Book.{Key, most_open, open_in, sum_of, open_total, first_at}
use Rattle.book.specs.Calls.{Told, done, refusal, Outcome, bulk, bulk_if, bulk_of, Call, enter, withdraw, called}
use Rattle.book.specs.Stored.{Stored, agrees, Carried, carried, kept}
use Rattle.book.specs.Code.{left_out}
use Rattle.book.proofs.Lists.{first_out}
use Rattle.days.proofs.Open.{open_added, open_lessened}
use Rattle.days.proofs.Kept.{Kept, kept_called, Changed, same, more, less, changed}
use Rattle.days.proofs.Stored.{kept_sum}
use Rattle.play.specs.Table.{cell, table_of}
use Rattle.play.specs.Play.{Run, Step, on, refuses, onward, carried_on, enters_if, enters, withdraws, lies, message_at, step_of, step, emptied, record_at, records, Played, go_on, play_from, played}
use Rattle.play.specs.Play as paper

-- ---- an open bulk and what it adds to the table
pub record Of (e : Entry) (x : Lot) : Type 0 where
  pub cents : e.cents ≡ total x.sums
  pub long : length x.sums ≡ 4
  pub service : (x.service ≡ 1) ⊎ (x.service ≡ 2)

abbrev Match : List Entry → List Lot → Type 0
Match [] [] = Unit {0}
Match [] (x ∷ l) = ⊥
Match (e ∷ es) [] = ⊥
Match (e ∷ es) (x ∷ l) = Of e x × Match es l

match_more : (es : List Entry) (l : List Lot) (e : Entry) (x : Lot) → Match es l → Of e x → Match (es ++ (e ∷ [])) (l ++ (x ∷ []))
match_more [] [] e x h g = (g, tt)
match_more [] (y ∷ l) e x h g = absurd h
match_more (d ∷ es) [] e x h g = absurd h
match_more (d ∷ es) (y ∷ l) e x h g = (h.0, match_more es l e x h.1 g)

match_less : (i : ℕ) (es : List Entry) (l : List Lot) → Match es l → Match (left_out i es) (left_out i l)
match_less i [] [] h = tt
match_less i [] (y ∷ l) h = absurd h
match_less i (d ∷ es) [] h = absurd h
match_less zero (d ∷ es) (y ∷ l) h = h.1
match_less (suc i) (d ∷ es) (y ∷ l) h = (h.0, match_less i es l h.1)

-- ---- the sums of the table
four : (s : List ℕ) → length s ≡ 4 → get_or s 0 0 + get_or s 1 0 + get_or s 2 0 + get_or s 3 0 ≡ total s
four (a ∷ b ∷ c ∷ d ∷ []) n = omega arith
four [] n = never (omega arith)
four (a ∷ []) n = never (omega arith)
four (a ∷ b ∷ []) n = never (omega arith)
four (a ∷ b ∷ c ∷ []) n = never (omega arith)
four (a ∷ b ∷ c ∷ d ∷ e ∷ s) n = never (omega arith)

abbrev whole : List Lot → ℕ
whole l = (cell 1 0 l + cell 1 1 l + cell 1 2 l + cell 1 3 l) + (cell 2 0 l + cell 2 1 l + cell 2 2 l + cell 2 3 l)

match_sum : (es : List Entry) (l : List Lot) → Match es l → whole l ≡ sum_of es
match_sum [] [] h = refl
match_sum [] (y ∷ l) h = absurd h
match_sum (d ∷ es) [] h = absurd h
match_sum (d ∷ es) (x ∷ l) h = elim h.0.service [
  | inl e ↦ rw e (omega (arith, match_sum es l h.1, h.0.cents, four x.sums h.0.long))
  | inr e ↦ rw e (omega (arith, match_sum es l h.1, h.0.cents, four x.sums h.0.long))
]

flat_sum : (l : List Lot) → total (in_one (table_of l)) ≡ whole l
unfolding table_of
flat_sum l = omega arith

-- ---- the run: its lots are those of the open ones, and what summing gives is stored
pub record Tied (r : Run) : Type 0 where
  pub kept : Kept r.stored.book
  pub stored : agrees r.stored ≡ true
  pub match : Match (open_in r.stored.book) r.lots

module _ (s : Stored) (a : agrees s ≡ true) (k : Kept s.book) where
  call-is : (c : Call) → kept c s ≡ carried c s.total (called c s.book)
  unfolding kept
  call-is c = rw a

  book-is : (c : Call) → (kept c s).stored.book ≡ (called c s.book).book
  book-is c = ap (λ (x : Carried). x.stored.book) (call-is c)

  told_is_lem : (c : Call) → (kept c s).told ≡ (called c s.book).told
  told_is_lem c = ap (λ (x : Carried). x.told) (call-is c)

  kept_on : (c : Call) → Kept (kept c s).stored.book
  kept_on c = rw (book-is c) (kept_called c s.book k)

  stored_on : (c : Call) → agrees (kept c s).stored ≡ true
  stored_on c = eq-eqb (kept c s).stored.total (open_total (kept c s).stored.book) (kept_sum c s a)

  -- one more, or one less
  grown : (e : Entry) (o : Outcome) → Changed s.book (enter (bulk e)) o → (c : ℕ) → o.told ≡ done c → open_in o.book ≡ open_in s.book ++ (e ∷ [])
  grown e o (same n p) c z = never (cc)
  grown e o (more d y h) c z = open_added e s.book (omega (arith, h, k.room))

  shrunk : (q : Key) (o : Outcome) → Changed s.book (withdraw q) o → (c : ℕ) → o.told ≡ done c → open_in o.book ≡ left_out (first_at q (open_in s.book)) (open_in s.book)
  shrunk q o (same n p) c z = never (cc)
  shrunk q o (less d y) c z = open_lessened q s.book (omega (arith, k.room, k.few)) y ∙ sym (first_out q (open_in s.book))

  module _ (lots : List Lot) (h : Match (open_in s.book) lots) (c : ℕ) where
    match-withdraw : (q : Key) → (kept (withdraw q) s).told ≡ done c → Match (open_in (kept (withdraw q) s).stored.book) (left_out (first_at q (open_in s.book)) lots)
    match-withdraw q z =
        rw (book-is (withdraw q), shrunk q (called (withdraw q) s.book) (changed (withdraw q) s.book) c (sym (told_is_lem (withdraw q)) ∙ z))
        (match_less (first_at q (open_in s.book)) (open_in s.book) lots h)

    match-enter : (e : Entry) (x : Lot) → Of e x → (kept (enter (bulk e)) s).told ≡ done c → Match (open_in (kept (enter (bulk e)) s).stored.book) (lots ++ (x ∷ []))
    match-enter e x o z =
        rw (book-is (enter (bulk e)), grown e (called (enter (bulk e)) s.book) (changed (enter (bulk e)) s.book) c (sym (told_is_lem (enter (bulk e))) ∙ z))
        (match_more (open_in s.book) lots e x h o)

-- what an accepted message adds
lot_of_lem : (m : List ℕ) (n c : ℕ) (q : Key) → judged m ≡ accepted n c → Of (record { key = q; cents = c }) (lot_of m)
unfolding lot_of
lot_of_lem m n c q e =
    record {
      cents = sym (sums_whole m n c e) ∙ ap (λ (j : Judged). total (lot_if j m).sums) (sym e);
      long = lot_long m;
      service = elim (service_row m n c e) [ inl h ↦ inl h.0 | inr h ↦ inr h.0 ];
    }

-- ---- a record that is carried out keeps it so
module _ (buffer ends : List ℕ) (l : Line) (r : Run) (t : Tied r) where
  tied-carried : (c : Call) (lots : List Lot) (k last : ℕ)
      → ((n : ℕ) → (kept c r.stored).told ≡ done n → Match (open_in (kept c r.stored).stored.book) lots)
      → (s : Run) → carried_on (kept c r.stored) lots k last ≡ on s → Tied s
  tied-carried c lots k last h s = go (kept c r.stored).told refl
    where
      go : (w : Told) → (kept c r.stored).told ≡ w → onward w (record { stored = (kept c r.stored).stored; lots = lots; taken = k; last = last }) ≡ on s → Tied s
      go (done n) z e =
          let y : record { stored = (kept c r.stored).stored; lots = lots; taken = k; last = last } ≡ s = cc in
          rw (← y) (record { kept = kept_on r.stored t.stored t.kept c; stored = stored_on r.stored t.stored t.kept c; match = h n z })
      go (refusal n p) z e = never (cc)

  tied-enters : (m : List ℕ) (s : Run) → enters m l r ≡ on s → Tied s
  unfolding enters keyed
  tied-enters m s = go (judged m) refl
    where
      bulk_is : (n c : ℕ) → judged m ≡ accepted n c → bulk_of (keyed m) ≡ bulk (record { key = (keyed m).key; cents = c })
      bulk_is n c z = ap (λ (j : Judged). bulk_if j (keyed m).key) z

      keys : (n c : ℕ) → judged m ≡ accepted n c → (b : Bool)
          → pick b (carried_on (kept (enter (bulk_of (keyed m))) r.stored) (r.lots ++ (lot_of m ∷ [])) (suc r.taken) l.instant) (refuses 28) ≡ on s → Tied s
      keys n c z true e =
          tied-carried (enter (bulk_of (keyed m))) (r.lots ++ (lot_of m ∷ [])) (suc r.taken) l.instant
          (λ k. rw (bulk_is n c z) (match-enter r.stored t.stored t.kept r.lots t.match k (record { key = (keyed m).key; cents = c }) (lot_of m) (lot_of_lem m n c (keyed m).key z))) s e
      keys n c z false e = never (cc)

      go : (v : Judged) → judged m ≡ v → enters_if v m l r ≡ on s → Tied s
      go (refused n p) z e = never (cc)
      go (accepted n c) z e = keys n c z (alike (keyed m).key l.key) e

  tied-withdraws : (s : Run) → withdraws l r ≡ on s → Tied s
  unfolding withdraws
  tied-withdraws s e =
      tied-carried (withdraw l.key) (left_out (first_at l.key (open_in r.stored.book)) r.lots) r.taken l.instant
      (λ k. match-withdraw r.stored t.stored t.kept r.lots t.match k l.key) s e

  tied-step : (s : Run) → step_of buffer ends l r ≡ on s → Tied s
  tied-step s = go l.fits (ltb l.instant r.last) l.entering (lies buffer ends r.taken)
    where
      go : (a b c d : Bool)
          → pick a (pick b (refuses 27) (pick c (pick d (enters (message_at buffer ends r.taken) l r) (refuses 28)) (withdraws l r))) (refuses 26) ≡ on s → Tied s
      go false b c d e = never (cc)
      go true true c d e = never (cc)
      go true false false d e = tied-withdraws s e
      go true false true false e = never (cc)
      go true false true true e = tied-enters (message_at buffer ends r.taken) s e

module _ (recording buffer ends : List ℕ) where
  sums-to : (n i : ℕ) (r : Run) → Tied r → (k : ℕ) → (play_from recording buffer ends n i r).told ≡ done k
      → total (in_one (play_from recording buffer ends n i r).table) ≡ (play_from recording buffer ends n i r).stored.total
  unfolding play_from step
  sums-to zero i r t k = go (ltb r.taken (length ends))
    where
      go : (b : Bool) → (pick b (paper.as_lent 28 i r.stored) (record { told = done i; stored = r.stored; table = table_of r.lots })).told ≡ done k
          → total (in_one (pick b (paper.as_lent 28 i r.stored) (record { told = done i; stored = r.stored; table = table_of r.lots })).table)
          ≡ (pick b (paper.as_lent 28 i r.stored) (record { told = done i; stored = r.stored; table = table_of r.lots })).stored.total
      go true e = never (cc)
      go false e = flat_sum r.lots ∙ (match_sum (open_in r.stored.book) r.lots t.match ∙ sym (eqb-true r.stored.total (open_total r.stored.book) t.stored))
  sums-to (suc n) i r t k = go (step_of buffer ends (line_of (record_at recording i)) r) refl (sums-to n (suc i))
    where
      go : (s : Step) → step_of buffer ends (line_of (record_at recording i)) r ≡ s
          → ((r : Run) → Tied r → (k : ℕ) → (play_from recording buffer ends n (suc i) r).told ≡ done k
          → total (in_one (play_from recording buffer ends n (suc i) r).table) ≡ (play_from recording buffer ends n (suc i) r).stored.total)
          → (go_on s i r (play_from recording buffer ends n (suc i))).told ≡ done k
          → total (in_one (go_on s i r (play_from recording buffer ends n (suc i))).table) ≡ (go_on s i r (play_from recording buffer ends n (suc i))).stored.total
      go (on s) z f e = f s (tied-step buffer ends (line_of (record_at recording i)) r t s z) k e
      go (refuses m) z f e = never (cc)

  -- **The eight sums of the table come to the open total**, for every list of at least 64 places.
  pub table_total : (l : List Entry) → most_open ≤ length l → (k : ℕ) → (played recording buffer ends l).told ≡ done k
      → total (in_one (played recording buffer ends l).table) ≡ (played recording buffer ends l).stored.total
  unfolding played
  table_total l h = sums-to (records recording) 0 (emptied l) (record { kept = record { room = h; few = omega arith; different = refl }; stored = refl; match = tt })
