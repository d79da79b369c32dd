-- "A refusal is the first fault in the written order." For every message, whatever bytes it holds.
use mathlib.Core.Path.{◌≡◌, refl, sym, ap, ◌∙◌}
use mathlib.Core.List.{List, [], ◌∷◌, ◌++◌}
use mathlib.Core.Logic.{inl, inr}
use Prim.Native.Nat.{ℕ, ◌+◌, ◌≤◌, ◌<◌}
use native.Mathlib.Omega.{arith}
use borrow.Author.Tests.{lt-ltb}
use lib.ListN.{length, take, drop, take-append-drop}
use lib.Seq.{length-take-le}
use Rattle.text.proofs.Truths.{lt_or_ge}
use Rattle.profile.specs.Limits.{most_bytes}
use Rattle.reading.specs.Trace.{Entry, message}
use Rattle.reading.specs.Noted.{Reading, stop, Ended}
use Rattle.reading.specs.Verdict.{accepted, refused}
use Rattle.reading.specs.Judged.{judged}
use Rattle.reading.proofs.Flat.{never, same_end}
use Rattle.faults.specs.Refusals.{◌among◌, while_reading, after_the_end, when_asked, of_the_judge, ReadTo, InOrder, Behind}
use Rattle.faults.proofs.Numbers.{among_left, among_right, not_among, none_common}
use Rattle.faults.proofs.Causes.{Both, through, before, ends, document_read, document_both, refuses, long, reading, after, cause}

-- No number is met at two of these times.
pub apart : (n : ℕ) → n among while_reading → n among after_the_end → ⊥
apart = none_common while_reading after_the_end refl

-- A message of over 16,777,216 bytes is refused 1 at 0, whatever it holds.
pub too_long_lem : (m : List ℕ) → most_bytes < length m → judged m ≡ refused 1 0
unfolding judged message
too_long_lem m h = rw (lt-ltb most_bytes (length m) h)

module _ (m : List ℕ) where
  -- No place is past the message's end.
  pub place_within : (n p : ℕ) → judged m ≡ refused n p → p ≤ length m
  place_within n p e = elim (cause m n p e) [ long h f g ↦ omega arith | reading h f w l z ↦ l | after r f b w l ↦ l ]

  -- The place of 3 is the message's length.
  pub three_at_end : (p : ℕ) → judged m ≡ refused 3 p → p ≡ length m
  three_at_end p e =
      elim (cause m 3 p e) [
        | long h f g ↦ never (omega arith)
        | reading h f w l z ↦ z refl
        | after r f b w l ↦ absurd (apart 3 refl w)
      ]

  -- The judge refuses with 1, with a number met while reading or with one after the end, and with no other;
  pub listed : (n p : ℕ) → judged m ≡ refused n p → n among of_the_judge
  listed n p e =
      elim (cause m n p e) [
        | long h f g ↦ rw f
        | reading h f w l z ↦ among_right n (1 ∷ []) (while_reading ++ after_the_end) (among_left n while_reading after_the_end w)
        | after r f b w l ↦ among_right n (1 ∷ while_reading) after_the_end w
      ]

  -- so never with those that are for who asks.
  pub asked_only : (n p : ℕ) → judged m ≡ refused n p → n among when_asked → ⊥
  asked_only n p e = none_common of_the_judge when_asked refl n (listed n p e)

  -- 1 comes for no other message than one too long, and at no other place.
  pub only_too_long : (p : ℕ) → judged m ≡ refused 1 p → (most_bytes < length m) × (p ≡ 0)
  only_too_long p e =
      elim (cause m 1 p e) [
        | long h f g ↦ (h, g)
        | reading h f w l z ↦ absurd (not_among 1 while_reading 1 refl w refl)
        | after r f b w l ↦ absurd (not_among 1 after_the_end 1 refl w refl)
      ]

  -- a refusal of the first list is met while reading, one of the second behind `</Document>`
  pub met_reading : (n p : ℕ) → judged m ≡ refused n p → n among while_reading → (length m ≤ most_bytes) × (document_read m ≡ stop n p)
  met_reading n p e w =
      elim (cause m n p e) [
        | long h f g ↦ absurd (not_among 1 while_reading n refl w f)
        | reading h f v l z ↦ (h, f)
        | after r f b v l ↦ absurd (apart n w v)
      ]

  record Last (n p : ℕ) : Type 0 where
    pub read : Ended (List Entry)
    pub through : ReadTo m read
    pub behind : Behind m read n p

  met-behind : (n p : ℕ) → judged m ≡ refused n p → n among after_the_end → Last n p
  met-behind n p e w =
      elim (cause m n p e) [
        | long h f g ↦ absurd (not_among 1 after_the_end n refl w f)
        | reading h f v l z ↦ absurd (apart n v w)
        | after r f b v l ↦ record { read = r; through = f; behind = b }
      ]

  -- The message cut off anywhere up to the place of a fault met while reading is refused 3 at its new end: up to that place it was in order.
  pub in_order_before : (n p q : ℕ) → judged m ≡ refused n p → n among while_reading → q ≤ p → judged (take q m) ≡ refused 3 q
  in_order_before n p q e w h =
      let c = met_reading n p e w in
      let d : Both (length (take q m)) (document_read (take q m)) (document_read (take q m ++ drop q m)) = document_both (take q m) (drop q m) in
      refuses (take q m) 3 (length (take q m)) (omega (arith, size, place_within n p e)) (go (document_read (take q m)) (document_read m) (rw (take-append-drop q m) at d) c.1) ∙ ap (refused 3) size
    where
      size : length (take q m) ≡ q
      size = length-take-le q m (omega (arith, place_within n p e))

      go : (x y : Reading (Ended (List Entry))) → Both (length (take q m)) x y → y ≡ stop n p → x ≡ stop 3 (length (take q m))
      go x y (through r g) f = never (cc)
      go x y (before k i r z g) f = let a : i ≡ p = cc in never (omega (arith, size))
      go x y ends f = refl

  -- A refusal met while reading is the first fault: the bytes before its place alone are refused only because they end there.
  pub first_fault : (n p : ℕ) → judged m ≡ refused n p → n among while_reading → judged (take p m) ≡ refused 3 p
  first_fault n p e w = in_order_before n p p e w (omega arith)

  -- 14, 15 and 16 come only where everything from the beginning to the end of `</Document>` was in order.
  pub inside_in_order : (n p : ℕ) → judged m ≡ refused n p → n among after_the_end → InOrder m
  inside_in_order n p e w = let d = met-behind n p e w in record { read = d.read; through = d.through }

  -- Behind `</Document>` the order is 16, 14, 15: with 14 no byte is left there, and with 15 the count is right too.
  pub behind_in_order : (n p : ℕ) (r : Ended (List Entry)) → judged m ≡ refused n p → n among after_the_end → ReadTo m r → Behind m r n p
  behind_in_order n p r e w t =
      let d = met-behind n p e w in
      let z : d.read ≡ r = same_end d.read r (sym d.through ∙ t) in
      rw z at d.behind

  -- ---- the message continued in any way
  module _ (n p : ℕ) (e : judged m ≡ refused n p) (w : n among while_reading) (o : n ≡ 3 → ⊥) (x : List ℕ) where
    pub same_read : document_read (m ++ x) ≡ stop n p
    same_read = go (document_read m) (document_read (m ++ x)) (document_both m x) (met_reading n p e w).1
      where
        go : (y z : Reading (Ended (List Entry))) → Both (length m) y z → y ≡ stop n p → z ≡ stop n p
        go y z (through r g) f = never (cc)
        go y z (before k i r c g) f = f
        go y z ends f = absurd (o (cc))

    -- A fault met while reading, but the message's end, stays the first: it is refused with the same number at the same place.
    pub same_continued : length (m ++ x) ≤ most_bytes → judged (m ++ x) ≡ refused n p
    same_continued h = refuses (m ++ x) n p h same_read

    -- So it is not accepted, whatever comes.
    pub never_accepted : (i c : ℕ) → judged (m ++ x) ≡ accepted i c → ⊥
    never_accepted i c f =
        elim (lt_or_ge most_bytes (length (m ++ x))) [
          | inl h ↦ let z : refused 1 0 ≡ accepted i c = sym (too_long_lem (m ++ x) h) ∙ f in never (cc)
          | inr h ↦ let z : refused n p ≡ accepted i c = sym (same_continued h) ∙ f in never (cc)
        ]
