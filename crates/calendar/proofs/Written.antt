-- What a value tells that is written as a pattern: its length, and what stands at each of its places.
use mathlib.Core.Path.{◌≡◌, ap, sym}
use mathlib.Core.Bool.{true, false}
use mathlib.Core.List.{List}
use Prim.Native.Nat.{ℕ, ◌<◌}
use Prim.Native.String.{String}
use borrow.Author.Tests.{eqb-true}
use lib.ListN.{length}
use Rattle.std.specs.Char.{is_ascii_alphabetic}
use Rattle.text.specs.Truth.{either, between, at}
use Rattle.text.specs.Quoted.{bytes, among}
use Rattle.text.specs.Classes.{digit}
use Rattle.text.proofs.Truths.{either_none}
use Rattle.text.proofs.Scan.{paired_length, paired_same_length, paired_at}
use Rattle.calendar.specs.Pattern.{letter, stands, written}

pub letter_range : (p : ℕ) → letter p ≡ either (between 65 90 p) (between 97 122 p)
unfolding letter among
letter_range p = ap (either (between 65 90 p)) (either_none (between 97 122 p))

-- the library's word for a letter
pub letter_ascii : (p : ℕ) → is_ascii_alphabetic p ≡ letter p
letter_ascii p = sym (letter_range p)

module _ (t : String) (s : List ℕ) where
  pub unwritten : (length (bytes t) ≡ length s → ⊥) → written t s ≡ false
  unfolding written
  unwritten ne = paired_length stands (bytes t) s ne

  pub written_length : written t s ≡ true → length (bytes t) ≡ length s
  unfolding written
  written_length e = paired_same_length stands (bytes t) s e

  written_at : written t s ≡ true → (i : ℕ) → i < length (bytes t) → stands (at (bytes t) i) (at s i) ≡ true
  unfolding written
  written_at e i h = paired_at stands (bytes t) s e i h

  -- where the pattern has a letter stands a digit
  pub written_digit : written t s ≡ true → (i : ℕ) → i < length (bytes t) → letter (at (bytes t) i) ≡ true → digit (at s i) ≡ true
  unfolding stands
  written_digit e i h l = rw l at (written_at e i h)

  -- and where it has another character stands that one
  pub written_itself : written t s ≡ true → (i : ℕ) → i < length (bytes t) → letter (at (bytes t) i) ≡ false → at s i ≡ at (bytes t) i
  unfolding stands
  written_itself e i h l = eqb-true (at s i) (at (bytes t) i) (rw l at (written_at e i h))
