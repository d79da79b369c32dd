-- One slip in the digits of a value of an accepted message is always refused.
use mathlib.Core.Path.{◌≡◌, refl, sym, ap, subst, ◌∙◌}
use mathlib.Core.Logic.{◌≢◌, ◌⊎◌, inl, inr}
use mathlib.Core.Bool.{true}
use mathlib.Core.List.{List, ◌∷◌, ◌++◌}
use Prim.Native.Nat.{ℕ, suc, ◌+◌, ◌<◌}
use native.Mathlib.Omega.{arith}
use lib.ListN.{length, take, drop, set}
use lib.Seq.{split_at, length-take-le}
use Rattle.text.specs.Truth.{at as byte_at}
use Rattle.text.specs.Classes.{digit}
use Rattle.text.specs.Slips.{exchanged_at}
use Rattle.profile.specs.declared.Kind.{Kind}
use Rattle.profile.specs.declared.Kind.TheVariants.{Plain, Count, Total, Amount, Code}
use Rattle.reading.specs.Verdict.{Refusal, Judged, accepted}
use Rattle.reading.specs.Judged.{judged}
use Rattle.slips.specs.Slip.{Watched, Slip, replaced, exchanged, StandsAt, Refused, total_place}
use Rattle.slips.proofs.Values.{value_solid, slip_fitting}
use Rattle.slips.proofs.Lists.{slip_told}
use Rattle.slips.proofs.Instead.{swapped, no_tag, passed, same_byte, replaced_here, pair, left_byte, right_byte, exchanged_here}

-- Whatever its number and place: a slip is refused.
pub always_refused : (t : ℕ) (k : Kind) (q : ℕ) (j : Judged) → Refused t k q j → Refusal j
always_refused t (Plain s) q j e = record { number = 8; place = q; is = e }
always_refused t Count q j e = record { number = 14; place = q; is = e }
always_refused t Total q j (inl e) = record { number = 9; place = q; is = e }
always_refused t Total q j (inr e) = record { number = 15; place = q; is = e }
always_refused t Amount q j (inl e) = record { number = 9; place = q; is = e }
always_refused t Amount q j (inr e) = record { number = 15; place = t; is = e }
always_refused t (Code x) q j e = absurd e

module _ (m : List ℕ) (n c : ℕ) (a : judged m ≡ accepted n c) (k : Kind) (q : ℕ) (v : List ℕ) (s : StandsAt m k q v) where
  -- A slip in the value, its bytes put in the place of the value's: it is refused, with the number and at the place that its kind says.
  pub slip_refused : (w : List ℕ) → Slip k v w → Refused (total_place m) k q (judged (take q m ++ (w ++ drop (q + length v) m)))
  slip_refused w l =
      let x = swapped m n c a k q v s w (slip_fitting l (no_tag m n c a k q v s) (value_solid k l (passed m n c a k q v s))) in
      rw (x.is, x.was) (slip_told k s.field q v w x.front x.back n c x.sound l)

  -- ---- in positions of the message
  -- One digit replaced: the byte at place i of the value, where a slip is watched for, is a digit, and another digit stands there instead.
  module _ (i : ℕ) (in-it : i < length v) where
    pub digit_replaced : Watched k i → (x : ℕ) → digit (byte_at m (q + i)) ≡ true → digit x ≡ true → byte_at m (q + i) ≢ x → Refused (total_place m) k q (judged (set m (q + i) x))
    digit_replaced here x da dx ne =
        let same = same_byte m n c a k q v s i in-it in
        subst (λ (y : List ℕ). Refused (total_place m) k q (judged y)) (sym (replaced_here m n c a k q v s i in-it x))
        (slip_refused (take i v ++ (x ∷ drop (suc i) v))
        (replaced (take i v) (drop (suc i) v) (byte_at v i) x (rw (length-take-le i v (omega arith)) here) (ap digit (sym same) ∙ da) dx
        (λ e. ne (same ∙ e)) (split_at v i 0 in-it) refl))

  -- Two unequal neighbouring digits exchanged: those at places i and i + 1 of the value, at one of which at least a slip is watched for.
  module _ (i : ℕ) (in-it : suc i < length v) where
    pub digits_exchanged : Watched k i ⊎ Watched k (suc i) → digit (byte_at m (q + i)) ≡ true → digit (byte_at m (suc (q + i))) ≡ true → byte_at m (q + i) ≢ byte_at m (suc (q + i))
        → Refused (total_place m) k q (judged (exchanged_at m (q + i)))
    digits_exchanged here da db ne =
        let one = left_byte m n c a k q v s i in-it in
        let two = right_byte m n c a k q v s i in-it in
        subst (λ (z : List ℕ). Refused (total_place m) k q (judged z)) (sym (exchanged_here m n c a k q v s i in-it))
        (slip_refused (take i v ++ (byte_at v (suc i) ∷ byte_at v i ∷ drop (suc (suc i)) v))
        (exchanged (take i v) (drop (suc (suc i)) v) (byte_at v i) (byte_at v (suc i)) (rw (length-take-le i v (omega arith)) here) (ap digit (sym one) ∙ da) (ap digit (sym two) ∙ db)
        (λ e. ne (one ∙ e ∙ sym two)) (pair m n c a k q v s i in-it) refl))
