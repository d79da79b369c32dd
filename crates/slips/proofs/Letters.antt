-- Request 7 over whole messages: one slip in the letters of an IBAN of an accepted message. What the checker says of the value, the judge says of the message;
-- so what is shown of an accepted creditor identifier (crates/accounts/proofs/Letters.antt) holds of messages too.
use mathlib.Core.Path.{◌≡◌, refl, ap, sym, subst, ◌∙◌}
use mathlib.Core.Bool.{true, false}
use mathlib.Core.Logic.{◌≢◌, inl, inr}
use mathlib.Core.List.{List, ◌∷◌, ◌++◌}
use Prim.Native.Nat.{ℕ, suc, ◌+◌, ◌<◌, ◌≤◌}
use native.Mathlib.Omega.{arith}
use lib.ListN.{length, take, drop, set}
use lib.Seq.{split_at, set_split, length-take-le}
use Rattle.text.specs.Truth.{every, at as byte_at}
use Rattle.text.specs.Classes.{capital}
use Rattle.text.specs.Slips.{exchanged_at}
use Rattle.text.proofs.Truths.{never}
use Rattle.text.proofs.Digits.{digit_no_capital}
use Rattle.text.proofs.Positions.{exchanged_at_lem}
use Rattle.answers.specs.Given.{yes, refused as no}
use Rattle.accounts.specs.Iban.{iban_given}
use Rattle.accounts.specs.Letters.{DigitAndLetter, excepted, LetterRefused}
use Rattle.accounts.proofs.Letters.{iban_letter_replaced_at, iban_letters_exchanged_at, iban_digit_letter_exchanged_at, iban_digit_letter_early_at, iban_excepted_at}
use Rattle.tags.specs.Values.{in_value}
use Rattle.profile.specs.declared.Kind.TheVariants.{Plain}
use Rattle.profile.specs.declared.Field.TheVariants.{TxId}
use Rattle.profile.specs.Fields.{same_field}
use Rattle.profile.specs.declared.Simple.{Simple}
use Rattle.profile.specs.declared.Simple.TheVariants.{Iban}
use Rattle.kinds.specs.Given.{simple_given}
use Rattle.reading.specs.Verdict.{Judged, accepted, refused, Refusal}
use Rattle.reading.specs.Judged.{judged}
use Rattle.documents.specs.Holds.{Passes}
use Rattle.replaced.proofs.Beside.{Solid}
use Rattle.slips.specs.Slip.{StandsAt}
use Rattle.slips.proofs.Values.{iban_yes, iban_solid, Shown, digit_shown, capital_shown, Begun, Fitting, fitting_replaced, fitting_exchanged}
use Rattle.slips.proofs.Instead.{no_tag, no_tx_id, passed, value_refused, value_accepted, same_byte, replaced_here, pair, left_byte, right_byte, exchanged_here}

-- ---- a plain value that begins with no white space, as an IBAN and an identifier do. (It is still accepted where it is no TxId: and it is none where it is no reference, by `no_tx_id`.)
module _ (m : List ℕ) (n c : ℕ) (a : judged m ≡ accepted n c) (j : Simple) (q : ℕ) (v : List ℕ) (s : StandsAt m (Plain j) q v) (solid : Solid v) where
  -- one of its bytes replaced by a letter or a digit
  module _ (i : ℕ) (in-it : i < length v) (x : ℕ) (hx : Shown x) (ne : byte_at v i ≢ x) where
    abbrev one : List ℕ
    one = take i v ++ (x ∷ drop (suc i) v)

    one-fits : Fitting v one
    one-fits =
        let e = split_at v i 0 in-it in
        subst (λ (l : List ℕ). Fitting l one) (sym e)
        (fitting_replaced (take i v) (drop (suc i) v) (byte_at v i) x ne hx (ap (every in_value) (sym e) ∙ no_tag m n c a (Plain j) q v s) (subst Solid e solid))

    pub replaced_refused : (k : ℕ) → simple_given j (set v i x) ≡ no k → judged (set m (q + i) x) ≡ refused k q
    replaced_refused k e =
        ap judged (replaced_here m n c a (Plain j) q v s i in-it x)
        ∙ value_refused m n c a (Plain j) q v s one one-fits k (ap (simple_given j) (sym (set_split v i x in-it)) ∙ e)

    pub replaced_accepted : same_field s.field TxId ≡ false → simple_given j (set v i x) ≡ yes → judged (set m (q + i) x) ≡ accepted n c
    replaced_accepted id e =
        ap judged (replaced_here m n c a (Plain j) q v s i in-it x)
        ∙ value_accepted m n c a j q v s one one-fits id (rw (← set_split v i x in-it, e) tt)

  -- two unequal neighbours exchanged
  module _ (i : ℕ) (in-it : suc i < length v) (begun : Begun i (byte_at v (suc i))) (ne : byte_at v i ≢ byte_at v (suc i)) where
    abbrev two : List ℕ
    two = take i v ++ (byte_at v (suc i) ∷ byte_at v i ∷ drop (suc (suc i)) v)

    two_is : two ≡ exchanged_at v i
    two_is = exchanged_at_lem (λ (x : List ℕ). λ (y : List ℕ). two ≡ y) v i in-it refl

    two_fits : Fitting v two
    two_fits =
        let e = pair m n c a (Plain j) q v s i in-it in
        subst (λ (l : List ℕ). Fitting l two) (sym e)
        (fitting_exchanged (take i v) (drop (suc (suc i)) v) (byte_at v i) (byte_at v (suc i)) ne (rw (length-take-le i v (omega arith)) begun)
        (ap (every in_value) (sym e) ∙ no_tag m n c a (Plain j) q v s) (subst Solid e solid))

    pub exchanged_refused : (k : ℕ) → simple_given j (exchanged_at v i) ≡ no k → judged (exchanged_at m (q + i)) ≡ refused k q
    exchanged_refused k e =
        ap judged (exchanged_here m n c a (Plain j) q v s i in-it) ∙ value_refused m n c a (Plain j) q v s two two_fits k (ap (simple_given j) two_is ∙ e)

    pub exchanged_accepted : same_field s.field TxId ≡ false → simple_given j (exchanged_at v i) ≡ yes → judged (exchanged_at m (q + i)) ≡ accepted n c
    exchanged_accepted id e =
        ap judged (exchanged_here m n c a (Plain j) q v s i in-it) ∙ value_accepted m n c a j q v s two two_fits id (rw (two_is, e) tt)

-- ---- "For an accepted IBAN", in a message
with_each : {R S : ℕ → Type 0} (i : ℕ) → ((k : ℕ) → R k → S k) → LetterRefused R i → LetterRefused S i
with_each i f (inl (g, inl r)) = inl (g, inl (f 19 r))
with_each i f (inl (g, inr r)) = inl (g, inr (f 8 r))
with_each i f (inr (g, r)) = inr (g, f 8 r)

-- Whichever of the numbers it is: it is refused.
pub letter_refusal : (i q : ℕ) (j : Judged) → LetterRefused (λ k. j ≡ refused k q) i → Refusal j
letter_refusal i q j (inl (g, inl e)) = record { number = 19; place = q; is = e }
letter_refusal i q j (inl (g, inr e)) = record { number = 8; place = q; is = e }
letter_refusal i q j (inr (g, e)) = record { number = 8; place = q; is = e }

module _ (m : List ℕ) (n c : ℕ) (a : judged m ≡ accepted n c) (q : ℕ) (v : List ℕ) (s : StandsAt m (Plain Iban) q v) where
  checked : Passes (iban_given v)
  unfolding simple_given
  checked = passed m n c a (Plain Iban) q v s

  it-is : iban_given v ≡ yes
  it-is = (iban_yes v checked).1

  -- "a letter replaced by another letter"
  module _ (i : ℕ) (in-it : i < length v) where
    pub letter_replaced : (x : ℕ) → capital (byte_at m (q + i)) ≡ true → capital x ≡ true → byte_at m (q + i) ≢ x → LetterRefused (λ k. judged (set m (q + i) x) ≡ refused k q) i
    unfolding simple_given
    letter_replaced x ha hx ne =
        let same = same_byte m n c a (Plain Iban) q v s i in-it in
        let apart : byte_at v i ≢ x = λ e. ne (same ∙ e) in
        with_each i (replaced_refused m n c a Iban q v s (iban_solid v checked) i in-it x (capital_shown x hx) apart)
        (iban_letter_replaced_at v i x in-it (ap capital (sym same) ∙ ha) hx apart it-is)

  module _ (i : ℕ) (in-it : suc i < length v) where
    left : byte_at m (q + i) ≡ byte_at v i
    left = left_byte m n c a (Plain Iban) q v s i in-it

    right : byte_at m (suc (q + i)) ≡ byte_at v (suc i)
    right = right_byte m n c a (Plain Iban) q v s i in-it

    -- "or two unequal neighbouring letters exchanged"
    pub letters_exchanged : capital (byte_at m (q + i)) ≡ true → capital (byte_at m (suc (q + i))) ≡ true → byte_at m (q + i) ≢ byte_at m (suc (q + i))
        → LetterRefused (λ k. judged (exchanged_at m (q + i)) ≡ refused k q) i
    unfolding simple_given
    letters_exchanged ha hb ne =
        let b : capital (byte_at v (suc i)) ≡ true = ap capital (sym right) ∙ hb in
        let apart : byte_at v i ≢ byte_at v (suc i) = λ e. ne (left ∙ e ∙ sym right) in
        with_each i (exchanged_refused m n c a Iban q v s (iban_solid v checked) i in-it (inr (capital_shown (byte_at v (suc i)) b)) apart)
        (iban_letters_exchanged_at v i in-it (ap capital (sym left) ∙ ha) b apart it-is)

    module _ (mixed : DigitAndLetter (byte_at m (q + i)) (byte_at m (suc (q + i)))) where
      both-there : DigitAndLetter (byte_at v i) (byte_at v (suc i))
      both-there = rw (left, right) at mixed

      begun : Begun i (byte_at v (suc i))
      begun = go both-there
        where
          go : DigitAndLetter (byte_at v i) (byte_at v (suc i)) → Begun i (byte_at v (suc i))
          go (inl h) = inr (capital_shown (byte_at v (suc i)) h.1)
          go (inr h) = inr (digit_shown (byte_at v (suc i)) h.1)

      apart : byte_at v i ≢ byte_at v (suc i)
      apart e = go both-there
        where
          go : DigitAndLetter (byte_at v i) (byte_at v (suc i)) → ⊥
          go (inl h) = never (let z = digit_no_capital (byte_at v i) h.0 in (cc))
          go (inr h) = never (let z = digit_no_capital (byte_at v (suc i)) h.1 in (cc))

      -- "A neighbouring digit and letter exchanged is refused too, with three pairs excepted: .., both after position 4."
      pub digit_letter_exchanged : 4 ≤ i → excepted (byte_at m (q + i)) (byte_at m (suc (q + i))) ≡ false → judged (exchanged_at m (q + i)) ≡ refused 8 q
      unfolding simple_given
      digit_letter_exchanged g e =
          exchanged_refused m n c a Iban q v s (iban_solid v checked) i in-it begun apart 8 (iban_digit_letter_exchanged_at v i in-it both-there g (rw (left, right) at e) it-is)

      -- where one of the two stands before: 7
      pub digit_letter_early : i < 4 → judged (exchanged_at m (q + i)) ≡ refused 7 q
      unfolding simple_given
      digit_letter_early g =
          exchanged_refused m n c a Iban q v s (iban_solid v checked) i in-it begun apart 7 (iban_digit_letter_early_at v i in-it both-there g it-is)

      -- "Show that these three always still pass": the message is accepted, with the same count and total.
      pub excepted_accepted : 4 ≤ i → excepted (byte_at m (q + i)) (byte_at m (suc (q + i))) ≡ true → judged (exchanged_at m (q + i)) ≡ accepted n c
      unfolding simple_given
      excepted_accepted g e =
          exchanged_accepted m n c a Iban q v s (iban_solid v checked) i in-it begun apart (no_tx_id m n c a (Plain Iban) q v s refl) (iban_excepted_at v i in-it both-there g (rw (left, right) at e) it-is)
