-- The fields of a record: the key that they make, and what the form of a record tells.
use mathlib.Core.Path.{◌≡◌, ◌∙◌}
use mathlib.Core.Bool.{true}
use mathlib.Core.List.{List}
use Prim.Native.Nat.{ℕ}
use native.Mathlib.Omega.{arith}
use borrow.Author.Tests.{eqb-true}
use lib.Dec.{eqb}
use lib.ListN.{length}
use lib.Seq.{length-take-le}
use Rattle.text.specs.Truth.{at}
use Rattle.text.proofs.Truths.{passes}
use Rattle.text.specs.Quoted.{among}
use Rattle.naming.specs.Key.{key_with}
use Rattle.recording.specs.Instant.{instant}
use Rattle.std.proofs.Common.{Some}
use Rattle.recording.specs.declared.Side.{Side}
use Rattle.recording.specs.Record.{enters, line_as, line_length, time_in, service_in, bic_in, date_in, id_in, stamp_form, record_form, key_in, line_of}

pub key_is : (r s i b k : List ℕ) → s ≡ service_in r → i ≡ id_in r → b ≡ bic_in r → k ≡ key_with s i b (date_in r) → k ≡ key_in r
key_is r s i b k p q t e = e ∙ rw (p, q, t)

-- ---- a whole record
module _ (r : List ℕ) (e : record_form r ≡ true) where
  pub long_record : length r ≡ line_length
  unfolding record_form
  long_record = eqb-true _ _ (passes _ e 0)

  pub long_time : length (time_in r) ≡ 25
  long_time = length-take-le 25 r (omega (arith, long_record))

  pub stamped : stamp_form (time_in r) ≡ true
  unfolding record_form
  stamped = passes _ e 1

  pub sided : among "E W" (at r 25) ≡ true
  unfolding record_form
  sided = passes _ e 2

  pub line_is : (s : Side) → enters s ≡ eqb (at r 25) 69 → (k : List ℕ) (t : ℕ) → k ≡ key_in r → t ≡ instant (time_in r) → line_as (Some (record { side = s; key = k; instant = t })) ≡ line_of r
  unfolding line_of
  line_is s h k t p q = rw (e, h, p, q)
