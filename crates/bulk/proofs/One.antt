-- Two answers of the C face that one contract allows are equal, word for word; and so are the area, and the numbers and the entries of a book.
use mathlib.Core.Path.{◌≡◌, sym, ap, ◌∙◌}
use mathlib.Core.List.{List}
use Prim.Native.Nat.{ℕ}
use Rattle.answers.specs.Given.{Given}
use Rattle.reading.specs.Verdict.{Judged, Located}
use Rattle.records.specs.Indexed.{recorded_with}
use Rattle.forms.specs.Written.{Outcome}
use Rattle.plain.proofs.Once.{one_written_with}
use Rattle.book.specs.declared.Entry.{Entry}
use Rattle.book.specs.Calls.{Call, Searched}
use Rattle.book.specs.Stored.{Stored, kept}
use Rattle.twice.specs.Twice.{cleared}
use Rattle.play.specs.Play.{Played}
use Rattle.bulk.specs.Told.{told, told_verdict, told_extent, told_written, PlainTold, told_call, told_found, told_played, numbers_of}

module _ (x y : List ℕ) where
  pub one_told : (g : Given) → x ≡ told g → y ≡ told g → x ≡ y
  one_told g e f = e ∙ sym f

  pub one_told_verdict : (j : Judged) → x ≡ told_verdict j → y ≡ told_verdict j → x ≡ y
  one_told_verdict j e f = e ∙ sym f

  pub one_told_extent : (l : Located) → x ≡ told_extent l → y ≡ told_extent l → x ≡ y
  one_told_extent l e f = e ∙ sym f

  pub one_told_records : (i m a b c : List ℕ) → x ≡ told_verdict (recorded_with i m a).verdict → b ≡ (recorded_with i m a).area → y ≡ told_verdict (recorded_with i m a).verdict → c ≡
      (recorded_with i m a).area
      → (x ≡ y) × (b ≡ c)
  one_told_records i m a b c e f g h = (e ∙ sym g, f ∙ sym h)

  pub one_told_plain : (i m a b c : List ℕ) → PlainTold i m a x b → PlainTold i m a y c → (x ≡ y) × (b ≡ c)
  one_told_plain i m a b c k l =
      let e = one_written_with i m a (record { answer = k.answer; area = b }) (record { answer = l.answer; area = c }) k.wrote l.wrote in
      (k.told ∙ ap (λ (o : Outcome). told_written o.answer) e ∙ sym l.told, ap (λ (o : Outcome). o.area) e)

  -- a book: a change, with its numbers and its entries afterwards; and a search
  pub one_told_call : (c : Call) (b : Stored) (i j : List ℕ) (l k : List Entry)
      → x ≡ told_call (kept c b) → i ≡ numbers_of (kept c b).stored → l ≡ (kept c b).stored.book.entries
      → y ≡ told_call (kept c b) → j ≡ numbers_of (kept c b).stored → k ≡ (kept c b).stored.book.entries → (x ≡ y) × (i ≡ j) × (l ≡ k)
  one_told_call c b i j l k d e f g h m = (d ∙ sym g, e ∙ sym h, f ∙ sym m)

  pub one_told_found : (s : Searched) → x ≡ told_found s → y ≡ told_found s → x ≡ y
  one_told_found s e f = e ∙ sym f

  -- a recording played back, with the numbers, the entries and the index t afterwards
  pub one_told_played : (p : Played) (t i j m n : List ℕ) (l k : List Entry)
      → x ≡ told_played p → i ≡ numbers_of p.stored → l ≡ p.stored.book.entries → m ≡ cleared t
      → y ≡ told_played p → j ≡ numbers_of p.stored → k ≡ p.stored.book.entries → n ≡ cleared t → (x ≡ y) × (i ≡ j) × (l ≡ k) × (m ≡ n)
  one_told_played p t i j m n l k a b c d e f g h = (a ∙ sym e, b ∙ sym f, c ∙ sym g, d ∙ sym h)
