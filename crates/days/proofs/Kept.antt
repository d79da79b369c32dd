-- A book stays one: the open keys are all different, never more than 64 are open, and the order of entry is kept.
use mathlib.Core.Path.{◌≡◌, refl, ap, sym, ◌∙◌}
use mathlib.Core.Bool.{Bool, true, false, not}
use mathlib.Core.List.{List, [], ◌∷◌, ◌++◌}
use mathlib.Core.Logic.{◌⊎◌, inl, inr}
use Prim.Native.Nat.{ℕ, ◌≤◌, ◌<◌}
use native.Mathlib.Omega.{arith}
use borrow.Author.Tests.{le-leb, leb-false, eqb-true, eqb-false, eq-eqb, ne_eqb}
use lib.Dec.{leb, eqb}
use lib.ListN.{length, length-set}
use Rattle.text.specs.Truth.{either, pick}
use Rattle.text.specs.Quoted.{alike}
use Rattle.text.proofs.Truths.{never, pass, lastly}
use Rattle.money.specs.declared.Range.TheVariants.{Total}
use Rattle.money.specs.Amount.{most}
use Rattle.book.specs.declared.Entry.{Entry}
use Rattle.book.specs.Book.{Key, Book, most_open, open_in, has_key, is_open, two_equal, open_total, is_book, without, cents_of}
use Rattle.book.specs.Calls.{done, refusal, Outcome, unchanged, Bulk, bulk, unfit, added, enters, entered, lessened, withdraws, withdrawn, Call, enter, withdraw, called}
use Rattle.days.specs.Day.{empty, after}
use Rattle.book.proofs.Answers.{known}
use Rattle.days.proofs.Open.{open_added, open_lessened, length_lessened}

-- ---- keys told apart either way round
eqb_same : (a b : ℕ) → eqb a b ≡ eqb b a
eqb_same a b = go (eqb b a) refl
  where
    go : (t : Bool) → eqb b a ≡ t → eqb a b ≡ t
    go true e = eq-eqb a b (sym (eqb-true b a e))
    go false e = ne_eqb a b (λ z. eqb-false b a e (sym z))

alike_either : (a b : List ℕ) → alike a b ≡ alike b a
alike_either [] [] = refl
alike_either [] (d ∷ b) = refl
alike_either (c ∷ a) [] = refl
alike_either (c ∷ a) (d ∷ b) = rw (eqb_same d c, alike_either a b)

pub either_no : (a b : Bool) → either a b ≡ false → (a ≡ false) × (b ≡ false)
either_no true b e = never (cc)
either_no false b e = (refl, e)

open_more : (k : Key) (l : List Entry) (e : Entry) → is_open k (l ++ (e ∷ [])) ≡ either (is_open k l) (has_key k e)
open_more k [] e = go (has_key k e)
  where
    go : (t : Bool) → either t false ≡ t
    go true = refl
    go false = refl
open_more k (x ∷ l) e = go (has_key k x) (open_more k l e)
  where
    go : (t : Bool) → is_open k (l ++ (e ∷ [])) ≡ either (is_open k l) (has_key k e) → either t (is_open k (l ++ (e ∷ []))) ≡ either (either t (is_open k l)) (has_key k e)
    go true h = refl
    go false h = h

-- ---- one more whose key is not open; one less
different_more : (l : List Entry) (e : Entry) → two_equal l ≡ false → is_open e.key l ≡ false → two_equal (l ++ (e ∷ [])) ≡ false
different_more [] e d o = refl
different_more (x ∷ l) e d o =
    let a = either_no (is_open x.key l) (two_equal l) d in
    let b = either_no (has_key e.key x) (is_open e.key l) o in
    let c : has_key x.key e ≡ false = alike_either x.key e.key ∙ b.0 in
    rw (open_more x.key l e, a.0, c) (different_more l e a.1 b.1)

fewer_open : (q k : Key) (l : List Entry) → is_open q l ≡ false → is_open q (without k l) ≡ false
fewer_open q k [] o = refl
fewer_open q k (x ∷ l) o =
    let b = either_no (has_key q x) (is_open q l) o in
    go (has_key k x) b (fewer_open q k l b.1)
  where
    go : (t : Bool) → (has_key q x ≡ false) × (is_open q l ≡ false) → is_open q (without k l) ≡ false → is_open q (pick t l (x ∷ without k l)) ≡ false
    go true b r = b.1
    go false b r = rw b.0 r

different_less : (k : Key) (l : List Entry) → two_equal l ≡ false → two_equal (without k l) ≡ false
different_less k [] d = refl
different_less k (x ∷ l) d =
    let a = either_no (is_open x.key l) (two_equal l) d in
    go (has_key k x) a (different_less k l a.1)
  where
    go : (t : Bool) → (is_open x.key l ≡ false) × (two_equal l ≡ false) → two_equal (without k l) ≡ false → two_equal (pick t l (x ∷ without k l)) ≡ false
    go true a r = a.1
    go false a r = rw (fewer_open x.key k l a.0) r

-- ---- a book but for its sum
pub record Kept (b : Book) : Type 0 where
  pub room : most_open ≤ length b.entries
  pub few : b.number ≤ most_open
  pub different : two_equal (open_in b) ≡ false

pub kept_added : (e : Entry) (b : Book) → Kept b → is_open e.key (open_in b) ≡ false → b.number < most_open → Kept (added e b)
kept_added e b k o h =
    record {
      room = rw (length-set b.entries b.number e) k.room;
      few = omega arith;
      different = rw (open_added e b (omega (arith, k.room))) (different_more (open_in b) e k.different o);
    }

pub kept_lessened : (q : Key) (b : Book) → Kept b → is_open q (open_in b) ≡ true → Kept (lessened q b)
kept_lessened q b k o =
    let h : b.number ≤ length b.entries = omega (arith, k.room, k.few) in
    record {
      room = rw (length_lessened q b h o) k.room;
      few = omega (arith, k.few);
      different = rw (open_lessened q b h o) (different_less q (open_in b) k.different);
    }

-- what each call may do to a book, one case each
pub data Changed (b : Book) : Call → Outcome → Type 0 where
  same : {c : Call} (n p : ℕ) → Changed b c (unchanged n p b)
  more : (e : Entry) → is_open e.key (open_in b) ≡ false → b.number < most_open → Changed b (enter (bulk e)) (record { told = done e.cents; book = added e b })
  less : (k : Key) → is_open k (open_in b) ≡ true → Changed b (withdraw k) (record { told = done (cents_of k (open_in b)); book = lessened k b })

pub changed : (c : Call) (b : Book) → Changed b c (called c b)
unfolding entered withdrawn
changed (enter x) b = first (is_book b) x
  where
    second : (e : Entry) (s t : Bool) → is_open e.key (open_in b) ≡ s → leb most_open b.number ≡ t
        → Changed b (enter (bulk e)) (pick s (unchanged 20 0 b) (pick t (unchanged 21 0 b) (record { told = done e.cents; book = added e b })))
    second e true t y z = same 20 0
    second e false true y z = same 21 0
    second e false false y z = more e y (leb-false most_open b.number z)

    first : (s : Bool) (x : Bulk) → Changed b (enter x) (pick s (enters x b) (unchanged 29 0 b))
    first false x = same 29 0
    first true (unfit n p) = same n p
    first true (bulk e) = second e (is_open e.key (open_in b)) (leb most_open b.number) refl refl
changed (withdraw k) b = first (is_book b)
  where
    second : (s : Bool) → is_open k (open_in b) ≡ s → Changed b (withdraw k) (pick s (record { told = done (cents_of k (open_in b)); book = lessened k b }) (unchanged 22 0 b))
    second true y = less k y
    second false y = same 22 0

    first : (s : Bool) → Changed b (withdraw k) (pick s (withdraws k b) (unchanged 29 0 b))
    first false = same 29 0
    first true = second (is_open k (open_in b)) refl

kept_changed : (b : Book) (c : Call) (o : Outcome) → Kept b → Changed b c o → Kept o.book
kept_changed b c o k (same n p) = k
kept_changed b c o k (more e y h) = kept_added e b k y h
kept_changed b c o k (less q y) = kept_lessened q b k y

pub kept_called : (c : Call) (b : Book) → Kept b → Kept (called c b).book
kept_called c b k = kept_changed b c (called c b) k (changed c b)

pub kept_after : (l : List Call) (b : Book) → Kept b → Kept (after l b)
kept_after [] b k = k
kept_after (c ∷ l) b k = kept_after l (called c b).book (kept_called c b k)

-- **After any calls from an empty book of at least 64 places the open keys are all different, and never more than 64 are open.**
pub day_kept : (l : List Call) (ys : List Entry) → most_open ≤ length ys → Kept (after l (empty ys))
day_kept l ys h = kept_after l (empty ys) (record { room = h; few = omega arith; different = refl })

-- **The order of entry is kept**: what is entered stands behind all others, and what is withdrawn leaves the others in their order.
pub in_order : (c : Call) (b : Book) → Kept b → (open_in (called c b).book ≡ open_in b)
    ⊎ (((e : Entry) × (open_in (called c b).book ≡ open_in b ++ (e ∷ []))) ⊎ ((k : Key) × (open_in (called c b).book ≡ without k (open_in b))))
in_order c b kept = go c (called c b) (changed c b)
  where
    go : (c : Call) (o : Outcome) → Changed b c o → (open_in o.book ≡ open_in b) ⊎ (((e : Entry) × (open_in o.book ≡ open_in b ++ (e ∷ []))) ⊎ ((k : Key) × (open_in o.book ≡ without k (open_in b))))
    go c o (same n p) = inl refl
    go c o (more e y h) = inr (inl (e, open_added e b (omega (arith, kept.room))))
    go c o (less k y) = inr (inr (k, open_lessened k b (omega (arith, kept.room, kept.few)) y))

-- **A refusal changes no entry and not the number open.**
pub refused_same : (c : Call) (b : Book) (n p : ℕ) → (called c b).told ≡ refusal n p → (called c b).book ≡ b
refused_same c b n p = go c (called c b) (changed c b)
  where
    go : (c : Call) (o : Outcome) → Changed b c o → o.told ≡ refusal n p → o.book ≡ b
    go c o (same i j) e = refl
    go c o (more x y h) e = never (cc)
    go c o (less k y) e = never (cc)

-- ---- a book, where its sum is within the range
pub is_book_lem : (b : Book) → Kept b → open_total b ≤ most Total → is_book b ≡ true
unfolding is_book
is_book_lem b k h =
    pass _ _ _ (le-leb most_open (length b.entries) k.room) (pass _ _ _ (le-leb b.number most_open k.few) (pass _ _ _ (ap not k.different) (lastly _ _ (sym (le-leb (open_total b) (most Total) h)))))

pub kept_of_lem : (b : Book) → is_book b ≡ true → Kept b
kept_of_lem b e =
    let k = known b e in
    record { room = k.room; few = k.few; different = k.different }
