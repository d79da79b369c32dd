-- How long a record is, and its parts.
use mathlib.Core.Path.{◌≡◌, refl, ◌∙◌}
use mathlib.Core.List.{List, [], ◌∷◌, ◌++◌}
use Prim.Native.Nat.{ℕ, zero, suc, ◌+◌, ◌/◌, ◌%◌, ◌*◌}
use native.Mathlib.Omega.{arith}
use lib.ListN.{length, length-append, length-take, length-replicate}
use Rattle.reading.specs.Trace.{What}
use Rattle.reading.specs.Items.{Item}
use Rattle.postings.specs.Record.{record_length, padded, digits, record_for}
use Rattle.postings.specs.Area.{records_for}

pub length_padded : (w : ℕ) (v : List ℕ) → length (padded w v) ≡ w
unfolding padded
length_padded w v = simp (length-take, length-append, length-replicate) (omega arith)

pub length_digits : (n c : ℕ) → length (digits n c) ≡ n
unfolding digits
length_digits zero c = refl
length_digits (suc n) c = length-append (digits n (c / 10)) ((48 + c % 10) ∷ []) ∙ (rw (length_digits n (c / 10)) (omega arith))

pub length_record : (ws : List What) → length (record_for ws) ≡ record_length
unfolding record_for
length_record ws = simp (length-append, length_padded, length_digits, length-replicate)

pub length_records : (h : List What) (l : List Item) → length (records_for h l) ≡ record_length * length l
length_records h [] = refl
length_records h (x ∷ l) = omega (arith, length-append (record_for (h ++ x.holds)) (records_for h l), length_record (h ++ x.holds), length_records h l)
