-- Two answers that the contract of `play` allows are equal: what is told, the table, both numbers of the book and every entry.
use mathlib.Core.Path.{◌≡◌, refl, sym, ap, ◌∙◌}
use mathlib.Core.List.{List, [], ◌∷◌}
use Prim.Native.Nat.{ℕ}
use lib.ListN.{take, drop}
use Rattle.std.proofs.Common.{Result, Ok, Err}
use Rattle.std.proofs.lemmas.List.{take-append-drop}
use Rattle.text.proofs.Truths.{never}
use Rattle.answers.specs.declared.Refused.{Refused}
use Rattle.answers.specs.declared.Refusal.{Refusal}
use Rattle.answers.specs.Refusals.{refusal_number}
use Rattle.answers.proofs.Refusals.{same_refusal}
use Rattle.text.specs.Truth.{first}
use Rattle.book.specs.declared.Entry.{Entry}
use Rattle.book.specs.declared.Numbers.{Numbers}
use Rattle.book.specs.Stored.{Stored}
use Rattle.book.specs.Code.{lent}
use Rattle.play.specs.declared.Played.{Played}
use Rattle.play.specs.Play as paper
use Rattle.play.specs.Code.{in_rows, played_as}

-- a table that is laid flat is told by its rows
abbrev front : List (List ℕ) → List ℕ
front [] = []
front (x ∷ l) = x

abbrev behind : List (List ℕ) → List ℕ
behind [] = []
behind (x ∷ l) = front l

same_table : (a b : List ℕ) → in_rows a ≡ in_rows b → a ≡ b
same_table a b e =
    let f : take 4 a ≡ take 4 b = ap front e in
    let g : drop 4 a ≡ drop 4 b = ap behind e in
    sym (take-append-drop 4 a) ∙ rw (f, g) (take-append-drop 4 b)

module _ (l k : List Entry) (m n : Numbers) where
  same_answer : (a b : Result Played Refused) → played_as l m a ≡ played_as k n b → a ≡ b
  same_answer (Ok a) (Ok b) e =
      let r : a.records ≡ b.records = cc (ap (λ (x : paper.Played). x.told) e) in
      let t : a.table ≡ b.table = same_table a.table b.table (ap (λ (x : paper.Played). x.table) e) in
      ap (λ (x : ℕ). Ok (record { records = x; table = a.table })) r ∙ ap (λ (x : List ℕ). Ok (record { records = b.records; table = x })) t
  same_answer (Ok a) (Err b) e = never (cc (ap (λ (x : paper.Played). x.told) e))
  same_answer (Err a) (Ok b) e = never (cc (ap (λ (x : paper.Played). x.told) e))
  same_answer (Err a) (Err b) e =
      let z = ap (λ (x : paper.Played). x.told) e in
      let w : a.why ≡ b.why = same_refusal a.why b.why (cc z) in
      let p : a.at ≡ b.at = cc z in
      ap (λ (x : Refusal). Err (record { why = x; at = a.at })) w ∙ ap (λ (x : ℕ). Err (record { why = b.why; at = x })) p

-- what is left of the list and the numbers, whatever is answered
left : (l : List Entry) (m : Numbers) (a : Result Played Refused) → (played_as l m a).stored ≡ lent l m
left l m (Ok a) = refl
left l m (Err a) = refl

module _ (l k : List Entry) (m n : Numbers) (e : lent l m ≡ lent k n) where
  same_entries : l ≡ k
  same_entries = ap (λ (s : Stored). s.book.entries) e

  same_numbers : m ≡ n
  same_numbers =
      ap (λ (x : ℕ). record { opened = x; total = m.total }) (ap (λ (s : Stored). s.book.number) e)
      ∙ ap (λ (x : ℕ). record { opened = n.opened; total = x }) (ap (λ (s : Stored). s.total) e)

pub one_played : (l k : List Entry) (m n : Numbers) (a b : Result Played Refused) (p : paper.Played) → played_as l m a ≡ p → played_as k n b ≡ p → (a ≡ b) × (l ≡ k) × (m ≡ n)
one_played l k m n a b p e f =
    let g = e ∙ sym f in
    let h : lent l m ≡ lent k n = sym (left l m a) ∙ (ap (λ (x : paper.Played). x.stored) g ∙ left k n b) in
    (same_answer l k m n a b g, same_entries l k m n h, same_numbers l k m n h)
