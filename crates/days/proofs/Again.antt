-- A withdrawn key may be entered again, and its room serves again.
use mathlib.Core.Path.{◌≡◌, refl, ap}
use mathlib.Core.Bool.{Bool, true, false}
use mathlib.Core.List.{List, [], ◌∷◌}
use Prim.Native.Nat.{ℕ, zero, suc, ◌-◌, ◌≤◌}
use native.Mathlib.Omega.{arith}
use borrow.Author.Tests.{lt-leb}
use lib.ListN.{length, take}
use Rattle.text.specs.Truth.{pick}
use Rattle.text.proofs.Truths.{never}
use Rattle.money.specs.declared.Range.TheVariants.{Total}
use Rattle.money.specs.Amount.{most}
use Rattle.reading.proofs.Lists.{alike_same}
use Rattle.book.specs.declared.Entry.{Entry}
use Rattle.book.specs.Book.{Key, Book, most_open, open_in, has_key, is_open, two_equal, sum_of, open_total, is_book, without, cents_of}
use Rattle.book.specs.Calls.{done, unchanged, bulk, enters, entered, lessened, withdraws, withdrawn}
use Rattle.book.proofs.Answers.{known}
use Rattle.days.proofs.Open.{open_lessened, sum_less}
use Rattle.days.proofs.Kept.{either_no, kept_of_lem, kept_lessened, is_book_lem}

-- where the keys are all different, the key is open no more
gone : (k : Key) (l : List Entry) → two_equal l ≡ false → is_open k (without k l) ≡ false
gone k [] d = refl
gone k (x ∷ l) d =
    let a = either_no (is_open x.key l) (two_equal l) d in
    go (has_key k x) refl a.0 (gone k l a.1)
  where
    go : (t : Bool) → has_key k x ≡ t → is_open x.key l ≡ false → is_open k (without k l) ≡ false → is_open k (pick t l (x ∷ without k l)) ≡ false
    go true e o r = rw (alike_same k x.key e) o
    go false e o r = rw e r

module _ (k : Key) (b : Book) (e : Entry) (is : e.key ≡ k) where
  -- **A withdrawn key may be entered again, and its room serves again**: whatever bulk of that key comes next, it is entered.
  pub entered_again : (c : ℕ) → (withdrawn k b).told ≡ done c → (entered (bulk e) (withdrawn k b).book).told ≡ done e.cents
  unfolding entered withdrawn
  entered_again c = first (is_book b) refl
    where
      after : is_book b ≡ true → is_open k (open_in b) ≡ true → (pick (is_book (lessened k b)) (enters (bulk e) (lessened k b)) (unchanged 29 0 (lessened k b))).told ≡ done e.cents
      after z o =
          let n = known b z in
          let h : b.number ≤ length b.entries = omega (arith, n.room, n.few) in
          let y : open_in (lessened k b) ≡ without k (open_in b) = open_lessened k b h o in
          let s : open_total (lessened k b) ≤ most Total = omega (arith, ap sum_of y, sum_less k (open_in b) o, n.within) in
          let m = is_book_lem (lessened k b) (kept_lessened k b (kept_of_lem b z) o) s in
          let f : is_open e.key (open_in (lessened k b)) ≡ false = rw (is, y) (gone k (open_in b) n.different) in
          let one : 1 ≤ b.number = some-open b o in
          rw (m, f, lt-leb most_open (b.number - 1) (omega (arith, n.few)))
        where
          some-open : (b : Book) → is_open k (open_in b) ≡ true → 1 ≤ b.number
          some-open b o = go b.number o
            where
              go : (n : ℕ) → is_open k (take n b.entries) ≡ true → 1 ≤ n
              go zero o = never (cc)
              go (suc n) o = omega arith

      second : is_book b ≡ true → (s : Bool) → is_open k (open_in b) ≡ s → (pick s (record { told = done (cents_of k (open_in b)); book = lessened k b }) (unchanged 22 0 b)).told ≡ done c
          → (pick (is_book (pick s (record { told = done (cents_of k (open_in b)); book = lessened k b }) (unchanged 22 0 b)).book) (enters (bulk e) (pick s (record { told = done (cents_of k (open_in b)); book = lessened k b }) (unchanged 22 0 b)).book) (unchanged 29 0 (pick s (record { told = done (cents_of k (open_in b)); book = lessened k b }) (unchanged 22 0 b)).book)).told ≡ done e.cents
      second z true o h = after z o
      second z false o h = never (cc)

      first : (s : Bool) → is_book b ≡ s → (pick s (withdraws k b) (unchanged 29 0 b)).told ≡ done c
          → (pick (is_book (pick s (withdraws k b) (unchanged 29 0 b)).book) (enters (bulk e) (pick s (withdraws k b) (unchanged 29 0 b)).book) (unchanged 29 0 (pick s (withdraws k b) (unchanged 29 0 b)).book)).told ≡ done e.cents
      first true z h = second z (is_open k (open_in b)) refl h
      first false z h = never (cc)
