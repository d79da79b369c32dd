-- A refusal is had again from its number: so two refusals of one number are one.
use mathlib.Core.Path.{◌≡◌, refl, ap, sym, ◌∙◌}
use mathlib.Core.Bool.{Bool, true, false}
use Prim.Native.Nat.{ℕ}
use lib.Dec.{eqb}
use Rattle.answers.specs.declared.Refusal.{Refusal}
use Rattle.answers.specs.declared.Refusal.TheVariants.{TooLong, Beginning, Cut, OtherTag, Currency, Form, CheckDigits, Range, Unlisted, OtherInstrument, TooManyItems, Count, Total, Behind, ShortArea, NoItem, Length, KeyOpen, BookFull, KeyNotOpen, TypeTwice, TxIdTwice, ShortIndex, NoRecord, TimeFalls, OtherMessage, NoBook}
use Rattle.answers.specs.Refusals.{refusal_number}

choose : Bool → Refusal → Refusal → Refusal
choose true a b = a
choose false a b = b

-- the refusal of a number
refusal_of : ℕ → Refusal
refusal_of n = choose (eqb n 1) TooLong (choose (eqb n 2) Beginning (choose (eqb n 3) Cut (choose (eqb n 4) OtherTag (choose (eqb n 6) Currency (choose (eqb n 7) Form (choose (eqb n 8) CheckDigits (choose (eqb n 9) Range (choose (eqb n 10) Unlisted (choose (eqb n 11) OtherInstrument (choose (eqb n 12) TooManyItems (choose (eqb n 14) Count (choose (eqb n 15) Total (choose (eqb n 16) Behind (choose (eqb n 17) ShortArea (choose (eqb n 18) NoItem (choose (eqb n 19) Length (choose (eqb n 20) KeyOpen (choose (eqb n 21) BookFull (choose (eqb n 22) KeyNotOpen (choose (eqb n 23) TypeTwice (choose (eqb n 24) TxIdTwice (choose (eqb n 25) ShortIndex (choose (eqb n 26) NoRecord (choose (eqb n 27) TimeFalls (choose (eqb n 28) OtherMessage (NoBook))))))))))))))))))))))))))

again : (r : Refusal) → refusal_of (refusal_number r) ≡ r
unfolding refusal_of choose
again TooLong = refl
again Beginning = refl
again Cut = refl
again OtherTag = refl
again Currency = refl
again Form = refl
again CheckDigits = refl
again Range = refl
again Unlisted = refl
again OtherInstrument = refl
again TooManyItems = refl
again Count = refl
again Total = refl
again Behind = refl
again ShortArea = refl
again NoItem = refl
again Length = refl
again KeyOpen = refl
again BookFull = refl
again KeyNotOpen = refl
again TypeTwice = refl
again TxIdTwice = refl
again ShortIndex = refl
again NoRecord = refl
again TimeFalls = refl
again OtherMessage = refl
again NoBook = refl

pub same_refusal : (a b : Refusal) → refusal_number a ≡ refusal_number b → a ≡ b
same_refusal a b e = sym (again a) ∙ ap refusal_of e ∙ again b
