-- A book that is made by calls of this library from an empty one is never none: so 29 never comes of it.
use mathlib.Core.Path.{◌≡◌, refl}
use mathlib.Core.Bool.{Bool, true, false}
use mathlib.Core.List.{List, [], ◌∷◌, ◌++◌}
use Prim.Native.Nat.{◌*◌, ◌≤◌}
use native.Mathlib.Omega.{arith}
use lib.ListN.{length}
use lib.Seq.{length-take-le}
use Rattle.text.specs.Truth.{pick}
use Rattle.reading.specs.Verdict.{Judged, accepted, refused}
use Rattle.reading.specs.Judged.{judged}
use Rattle.naming.specs.Key.{keyed}
use Rattle.documents.specs.Document.{Each}
use Rattle.items.specs.Sums.{most_sum}
use Rattle.items.proofs.Sums.{bulk_most}
use Rattle.book.specs.declared.Entry.{Entry}
use Rattle.book.specs.Book.{Key, Book, most_open, open_in, has_key, sum_of, is_book, without}
use Rattle.book.specs.Calls.{Outcome, bulk, unfit, bulk_if, Call, enter, withdraw, called}
use Rattle.days.specs.Day.{empty, after, Made, entering, withdrawing, AllMade}
use Rattle.days.proofs.Open.{open_added, open_lessened}
use Rattle.days.proofs.Kept.{Kept, Changed, same, more, less, changed, kept_called, is_book_lem}

-- a call that enters no more than a bulk can have
abbrev Small : Call → Type 0
Small (enter (bulk e)) = e.cents ≤ most_sum
Small (enter (unfit n p)) = Unit {0}
Small (withdraw k) = Unit {0}

made_small : (c : Call) → Made c → Small c
unfolding keyed
made_small c (entering m) = go (judged m) (keyed m).key refl
  where
    go : (j : Judged) (k : Key) → judged m ≡ j → Small (enter (bulk_if j k))
    go (accepted n c) k e = bulk_most m n c e
    go (refused n p) k e = tt
made_small c (withdrawing k) = tt

-- all open entries are small
abbrev Smalls : List Entry → Type 0
Smalls l = Each (λ e. e.cents ≤ most_sum) l

smalls_more : (l : List Entry) (e : Entry) → Smalls l → e.cents ≤ most_sum → Smalls (l ++ (e ∷ []))
smalls_more [] e s h = (h, tt)
smalls_more (x ∷ l) e s h = (s.0, smalls_more l e s.1 h)

smalls_less : (k : Key) (l : List Entry) → Smalls l → Smalls (without k l)
smalls_less k [] s = tt
smalls_less k (x ∷ l) s = go (has_key k x) (smalls_less k l s.1)
  where
    go : (t : Bool) → Smalls (without k l) → Smalls (pick t l (x ∷ without k l))
    go true r = s.1
    go false r = (s.0, r)

smalls_sum : (l : List Entry) → Smalls l → sum_of l ≤ length l * most_sum
smalls_sum [] s = omega arith
smalls_sum (x ∷ l) s = omega (arith, smalls_sum l s.1, s.0)

smalls_changed : (b : Book) (c : Call) (o : Outcome) → Kept b → Small c → Smalls (open_in b) → Changed b c o → Smalls (open_in o.book)
smalls_changed b c o k h s (same n p) = s
smalls_changed b c o k h s (more e y z) = rw (open_added e b (omega (arith, k.room))) (smalls_more (open_in b) e s h)
smalls_changed b c o k h s (less q y) = rw (open_lessened q b (omega (arith, k.room, k.few)) y) (smalls_less q (open_in b) s)

-- a book of small entries: so it is one, and stays one
pub record Fair (b : Book) : Type 0 where
  pub kept : Kept b
  pub smalls : Smalls (open_in b)

pub fair_empty : (ys : List Entry) → most_open ≤ length ys → Fair (empty ys)
fair_empty ys h = record { kept = record { room = h; few = omega arith; different = refl }; smalls = tt }

pub fair_called : (c : Call) (b : Book) → Made c → Fair b → Fair (called c b).book
fair_called c b m f = record { kept = kept_called c b f.kept; smalls = smalls_changed b c (called c b) f.kept (made_small c m) f.smalls (changed c b) }

pub fair_is : (b : Book) → Fair b → is_book b ≡ true
fair_is b f =
    let k = f.kept in
    is_book_lem b k (omega (arith, smalls_sum (open_in b) f.smalls, length-take-le b.number b.entries (omega (arith, k.room, k.few)), k.few))

stays : (l : List Call) (b : Book) → AllMade l → Fair b → is_book (after l b) ≡ true
stays [] b a f = fair_is b f
stays (c ∷ l) b a f = stays l (called c b).book a.1 (fair_called c b a.0 f)

-- **After any calls of this library from an empty book of at least 64 places the book is one**: 29 never comes.
pub day_stays : (l : List Call) (ys : List Entry) → AllMade l → most_open ≤ length ys → is_book (after l (empty ys)) ≡ true
day_stays l ys a h = stays l (empty ys) a (fair_empty ys h)
