-- Two results that one contract of the day book allows are equal: what is told, both numbers, and every entry of the list.
use mathlib.Core.Path.{◌≡◌, refl, ap, sym, ◌∙◌}
use mathlib.Core.List.{List}
use Prim.Native.Nat.{ℕ}
use Rattle.std.proofs.Common.{Option, Some, None, Result, Ok, Err}
use Rattle.answers.specs.declared.Refused.{Refused}
use Rattle.answers.specs.Refusals.{refusal_number}
use Rattle.answers.proofs.Refusals.{same_refusal}
use Rattle.text.proofs.Truths.{never}
use Rattle.book.specs.declared.Entry.{Entry}
use Rattle.book.specs.declared.Numbers.{Numbers}
use Rattle.book.specs.Book.{Key}
use Rattle.book.specs.Calls.{Call, asked, searched}
use Rattle.book.specs.Stored.{Carried, kept}
use Rattle.book.specs.Code.{told_as, searched_as, book_of, lent, leaves}

same_refused : (r q : Refused) → refusal_number r.why ≡ refusal_number q.why → r.at ≡ q.at → r ≡ q
same_refused r q e f = ap (λ w. record { why = w; at = r.at }) (same_refusal r.why q.why e) ∙ ap (λ (p : ℕ). record { why = q.why; at = p }) f

-- one meaning, one answer
same_told : (a b : Result ℕ Refused) → told_as a ≡ told_as b → a ≡ b
same_told (Ok c) (Ok d) e = cc
same_told (Ok c) (Err r) e = never (cc)
same_told (Err r) (Ok c) e = never (cc)
same_told (Err r) (Err q) e = let z = same_refused r q (cc) (cc) in cc

same_searched : (a b : Result (Option ℕ) Refused) → searched_as a ≡ searched_as b → a ≡ b
same_searched (Ok (Some i)) (Ok (Some j)) e = cc
same_searched (Ok (Some i)) (Ok None) e = never (cc)
same_searched (Ok None) (Ok (Some i)) e = never (cc)
same_searched (Ok None) (Ok None) e = refl
same_searched (Ok (Some i)) (Err r) e = never (cc)
same_searched (Ok None) (Err r) e = never (cc)
same_searched (Err r) (Ok (Some i)) e = never (cc)
same_searched (Err r) (Ok None) e = never (cc)
same_searched (Err r) (Err q) e = let z = same_refused r q (cc) (cc) in cc

same_numbers : (s t : Numbers) → s.opened ≡ t.opened → s.total ≡ t.total → s ≡ t
same_numbers s t e f = ap (λ (n : ℕ). record { opened = n; total = s.total }) e ∙ ap (λ (n : ℕ). record { opened = t.opened; total = n }) f

pub one_act : (ys : List Entry) (n : Numbers) (c : Call) (a b : Result ℕ Refused) (x y : List Entry) (s t : Numbers)
    → leaves a x s ≡ kept c (lent ys n) → leaves b y t ≡ kept c (lent ys n) → (a ≡ b) × (x ≡ y) × (s ≡ t)
one_act ys n c a b x y s t e f =
    let g = e ∙ sym f in (
      same_told a b (ap (λ (o : Carried). o.told) g),
      ap (λ (o : Carried). o.stored.book.entries) g,
      same_numbers s t (ap (λ (o : Carried). o.stored.book.number) g) (ap (λ (o : Carried). o.stored.total) g),
    )

module _ (ys : List Entry) (n : ℕ) where
  pub one_check : (a b : Result ℕ Refused) → told_as a ≡ asked (book_of ys n) → told_as b ≡ asked (book_of ys n) → a ≡ b
  one_check a b d e = same_told a b (d ∙ sym e)

  pub one_find : (k : Key) (a b : Result (Option ℕ) Refused) → searched_as a ≡ searched k (book_of ys n) → searched_as b ≡ searched k (book_of ys n) → a ≡ b
  one_find k a b d e = same_searched a b (d ∙ sym e)
