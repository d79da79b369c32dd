-- The stored total: every call keeps it equal to what summing gives, so no answer changes for a book made by calls from the empty one.
use mathlib.Core.Path.{◌≡◌, refl, ap}
use mathlib.Core.Bool.{Bool, true, false}
use mathlib.Core.List.{List, [], ◌∷◌}
use Prim.Native.Nat.{ℕ, ◌+◌, ◌≤◌}
use native.Mathlib.Omega.{arith}
use borrow.Author.Tests.{eqb-true, eq-eqb}
use lib.ListN.{length}
use Rattle.text.specs.Truth.{pick}
use Rattle.book.specs.declared.Entry.{Entry}
use Rattle.book.specs.Book.{Book, most_open, open_total}
use Rattle.book.specs.Calls.{Told, done, refusal, Call, enter, withdraw, called, asked, searched}
use Rattle.book.specs.Stored.{Stored, agrees, as_lent, total_after, carried, kept}
use Rattle.days.specs.Day.{empty, after, entered_by, withdrawn_by, Any, change, ask, search, Answer, told, found, answers, stored_answers, empty_stored, after_stored, MadeAny}
use Rattle.days.proofs.Kept.{refused_same}
use Rattle.days.proofs.Total.{counts}
use Rattle.days.proofs.Stays.{Fair, fair_empty, fair_called, fair_is}

-- a book with what summing gives
abbrev with_sum : Book → Stored
with_sum b = record { book = b; total = open_total b }

-- what a call makes of the stored total is what summing gives afterwards
sum_after : (c : Call) (t : Told) (old new : ℕ) → new + withdrawn_by c t ≡ old + entered_by c t → total_after c t old ≡ new
sum_after (enter x) (done cents) old new e = omega (arith, e)
sum_after (enter x) (refusal n p) old new e = omega (arith, e)
sum_after (withdraw k) (done cents) old new e = omega (arith, e)
sum_after (withdraw k) (refusal n p) old new e = omega (arith, e)

kept_is : (c : Call) (b : Book) → kept c (with_sum b) ≡ record { told = (called c b).told; stored = with_sum (called c b).book }
unfolding kept
kept_is c b = rw (eq-eqb (open_total b) (open_total b) refl, sum_after c (called c b).told (open_total b) (open_total (called c b).book) (counts c b))

sum_stored : (s : Stored) → agrees s ≡ true → s ≡ with_sum s.book
sum_stored s e = ap (λ (t : ℕ). record { book = s.book; total = t }) (eqb-true s.total (open_total s.book) e)

-- **Every entry, withdrawal and refusal keeps the stored total equal to what summing gives.**
pub kept_sum : (c : Call) (s : Stored) → agrees s ≡ true → (kept c s).stored.total ≡ open_total (kept c s).stored.book
kept_sum c s e = rw (sum_stored s e, kept_is c s.book)

-- **A refusal leaves the stored total as it leaves the book**, whatever is stored.
pub refused_stored : (c : Call) (s : Stored) (n p : ℕ) → (kept c s).told ≡ refusal n p → (kept c s).stored ≡ s
unfolding kept
refused_stored c s n p = go (agrees s)
  where
    after-told : (t : Told) → t ≡ refusal n p → total_after c t s.total ≡ s.total
    after-told t e = rw e

    go : (a : Bool) → (pick a (carried c s.total (called c s.book)) (as_lent 29 0 s)).told ≡ refusal n p
        → (pick a (carried c s.total (called c s.book)) (as_lent 29 0 s)).stored ≡ s
    go true e = rw (refused_same c s.book n p e, after-told (called c s.book).told e)
    go false e = refl

-- **After any calls from the empty book** it is request 5's book, and what summing gives is stored.
days_on : (l : List Call) (b : Book) → after_stored l (with_sum b) ≡ with_sum (after l b)
days_on [] b = refl
days_on (c ∷ l) b = rw (kept_is c b) (days_on l (called c b).book)

pub day_stored : (l : List Call) (ys : List Entry) → after_stored l (empty_stored ys) ≡ record { book = after l (empty ys); total = open_total (after l (empty ys)) }
day_stored l ys = days_on l (empty ys)

-- **For any calls of this library from the empty book, of at least 64 places, every answer is that of request 5's book.**
asked_is : (b : Book) → Fair b → done (open_total b) ≡ asked b
unfolding asked
asked_is b f = rw (fair_is b f)

alike_on : (l : List Any) (b : Book) → MadeAny l → Fair b → stored_answers l (with_sum b) ≡ answers l b
alike_on [] b m f = refl
alike_on (change c ∷ l) b m f = rw (kept_is c b) (ap (λ (x : List Answer). told (called c b).told ∷ x) (alike_on l (called c b).book m.1 (fair_called c b m.0 f)))
alike_on (ask ∷ l) b m f = rw (asked_is b f) (ap (λ (x : List Answer). told (asked b) ∷ x) (alike_on l b m f))
alike_on (search k ∷ l) b m f = ap (λ (x : List Answer). found (searched k b) ∷ x) (alike_on l b m f)

pub same_answers : (l : List Any) (ys : List Entry) → MadeAny l → most_open ≤ length ys → stored_answers l (empty_stored ys) ≡ answers l (empty ys)
same_answers l ys m h = alike_on l (empty ys) m (fair_empty ys h)
