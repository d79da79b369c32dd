-- What stands behind a refusal: a message too long, a fault met while reading, or one behind `</Document>`.
use mathlib.Core.Path.{◌≡◌, refl, sym, ap, ◌∙◌}
use mathlib.Core.Bool.{Bool, true, false, not}
use mathlib.Core.List.{List, [], ◌∷◌, ◌++◌, append_assoc}
use mathlib.Core.Logic.{◌⊎◌, inl, inr}
use Prim.Native.Nat.{ℕ, ◌+◌, ◌≤◌, ◌<◌}
use native.Mathlib.Omega.{arith}
use borrow.Author.Tests.{ltb-true, ltb-false, le-ltb, eqb-true, eqb-false}
use lib.Dec.{ltb, eqb}
use lib.ListN.{length}
use Rattle.text.specs.Truth.{pick, either, some}
use Rattle.text.specs.Quoted.{decimal}
use Rattle.answers.specs.Given.{Given, yes, worth, refused as no}
use Rattle.money.specs.Amount.{cents}
use Rattle.tags.specs.Tags.{skipped}
use Rattle.profile.specs.declared.Kind.{Kind}
use Rattle.profile.specs.declared.Kind.TheVariants.{Count, Total}
use Rattle.profile.specs.Limits.{most_bytes}
use Rattle.profile.specs.Profile.{is_type}
use Rattle.reading.specs.Trace.{What, item_begins, item_ends, there, absent, value, Entry, Trace, met, up_to, fault, and_then, Opened, from, faulty, opened, behind_all, inside, message}
use Rattle.reading.specs.Noted.{Reading, on, stop, onward, Ended, noted}
use Rattle.reading.specs.Rules.{items_in, cents_in, of_kind, types_in, ◌so◌, unlike_first, weighed}
use Rattle.reading.specs.Verdict.{Judged, accepted, refused}
use Rattle.reading.specs.Judged.{whats, only_of, or_refused, listed, place_in, place_of, compared, verdict, judged}
use Rattle.reading.proofs.Lists.{whats_append, types_append, place_append}
use Rattle.reading.proofs.Flat.{never, flat, Whole, noted_then}
use Rattle.documents.proofs.Lists.{Unlike, as_first, unlike_last}
use Rattle.faults.specs.Refusals.{◌among◌, of_form, of_what_is_said, while_reading, after_the_end, in_document, ReadTo, NoneLeft, Behind, left, count, total}
use Rattle.faults.proofs.Numbers.{among_left, among_right, not_among}
use Rattle.faults.proofs.Extends.{needs, Placed, Extends, also, done, wrong, ended}
use Rattle.faults.proofs.Begins.{document_ext}
use Rattle.faults.proofs.Weighs.{SaidIn, or_four, weighed_said, Misses, weighed_four, weighed_there}

-- ---- the header's values lie within
abbrev Reached : ℕ → List Entry → Type 0
Reached l es = (k : Kind) → place_of k es ≤ l

reached_more : (l : ℕ) (e : Entry) (es : List Entry) → Placed l e → Reached l es → Reached l (es ++ (e ∷ []))
reached_more l e es h r k = rw (place_append k es (e ∷ []) 0) (go (of_kind k e.what) (r k))
  where
    go : (vs : List (List ℕ)) → place_of k es ≤ l → place_in vs e.place (place_of k es) ≤ l
    go [] g = g
    go (v ∷ vs) g = omega arith

-- ---- noting what stands in a message of l bytes, beside the same continued: both are read through; both are refused, before the end; or the first is refused 3 at its end
pub data Both (l : ℕ) : Reading (Ended (List Entry)) → Reading (Ended (List Entry)) → Type 0 where
  through : (r : Ended (List Entry)) → Reached l r.notes → Both l (on r) (on r)
  before : (n p : ℕ) → n among while_reading → (n ≡ 3 → ⊥) → p < l → Both l (stop n p) (stop n p)
  ends : {y : Reading (Ended (List Entry))} → Both l (stop 3 l) y

-- 4 is met while reading, whatever it is for
four_read : (n : ℕ) → n among or_four → n among while_reading
four_read n = go (eqb n 4) refl
  where
    go : (b : Bool) → eqb n 4 ≡ b → either b (some (eqb n) of_what_is_said) ≡ true → n among while_reading
    go true e h = rw (eqb-true n 4 e)
    go false e h = among_right n of_form of_what_is_said h

noted_both : {l a : ℕ} {t u : Trace} → Extends l a t u → (es : List Entry) → Reached l es → Both l (noted listed t es) (noted listed u es)
noted_both (done p h g) es r = through (record { at = p; notes = es }) r
noted_both (wrong n q f z h) es r = before n q (among_left n of_form of_what_is_said f) z h
noted_both ended es r = ends
noted_both {l} (also e {s} {t} h x) es r =
    go (weighed (whats es) e.what) (weighed_said (whats es) e.what) (weighed_there (whats es) e.what) (noted_both x (es ++ (e ∷ [])) (reached_more l e es h r))
  where
    go : (g : Given) → SaidIn or_four g → ((n : ℕ) → g ≡ no n → 0 < needs e.what) → Both l (noted listed s (es ++ (e ∷ []))) (noted listed t (es ++ (e ∷ [])))
        → Both l (onward (or_refused g e.place (es ++ (e ∷ []))) (noted listed s)) (onward (or_refused g e.place (es ++ (e ∷ []))) (noted listed t))
    go yes a b c = c
    go (worth v) a b c = c
    go (no n) a b c = before n e.place (four_read n a) (not_among 3 or_four n refl a) (omega (arith, b n refl))

abbrev pub document_read : List ℕ → Reading (Ended (List Entry))
document_read m = noted listed (in_document m (opened m)) []

pub document_both : (m x : List ℕ) → Both (length m) (document_read m) (document_read (m ++ x))
document_both m x = noted_both (document_ext m x) [] (λ k. omega arith)

-- what stops is refused for what is said, or by the fault that ends the trace, or by 4 because the payment type is missing
abbrev pub Breaks : ℕ → Trace → Type 0
Breaks n (met e t) = Breaks n t
Breaks n (up_to p) = ⊥
Breaks n (fault k q) = k ≡ n

abbrev pub MissesIn : Trace → List Entry → Type 0
MissesIn (met e t) es = Misses (whats es) e.what ⊎ MissesIn t (es ++ (e ∷ []))
MissesIn (up_to p) es = ⊥
MissesIn (fault n q) es = ⊥

pub data Stops (n : ℕ) (t : Trace) (es : List Entry) : Type 0 where
  said : n among of_what_is_said → Stops n t es
  broken : Breaks n t → Stops n t es
  untyped : n ≡ 4 → MissesIn t es → Stops n t es

pub noted_stops : (t : Trace) (es : List Entry) (n p : ℕ) → noted listed t es ≡ stop n p → Stops n t es
noted_stops (up_to r) es n p e = never (cc)
noted_stops (fault k r) es n p e = broken (cc)
noted_stops (met x t) es n p e = go (weighed (whats es) x.what) refl (weighed_said (whats es) x.what) (noted_stops t (es ++ (x ∷ [])) n p) e
  where
    on-with : Stops n t (es ++ (x ∷ [])) → Stops n (met x t) es
    on-with (said a) = said a
    on-with (broken b) = broken b
    on-with (untyped z h) = untyped z (inr h)

    here : (i : ℕ) (b : Bool) → eqb i 4 ≡ b → weighed (whats es) x.what ≡ no i → i ≡ n → either b (some (eqb i) of_what_is_said) ≡ true → Stops n (met x t) es
    here i true f w z s =
        let four : i ≡ 4 = eqb-true i 4 f in
        untyped (sym z ∙ four) (inl (weighed_four (whats es) x.what (w ∙ ap no four)))
    here i false f w z s = said (rw z at s)

    go : (g : Given) → weighed (whats es) x.what ≡ g → SaidIn or_four g → (noted listed t (es ++ (x ∷ [])) ≡ stop n p → Stops n t (es ++ (x ∷ [])))
        → onward (or_refused g x.place (es ++ (x ∷ []))) (noted listed t) ≡ stop n p → Stops n (met x t) es
    go yes w s k e = on-with (k e)
    go (worth v) w s k e = on-with (k e)
    go (no i) w s k e = here i (eqb i 4) refl w (cc) s

-- where each has the payment type unlike the first, it is missing nowhere
pub unlike_misses : (t : Trace) (es : List Entry) → Unlike (types_in (whats (es ++ flat t))) → MissesIn t es → ⊥
unlike_misses (up_to p) es h f = f
unlike_misses (fault n q) es h f = f
unlike_misses (met e t) es h (inr f) = unlike_misses t (es ++ (e ∷ [])) (rw (append_assoc es (e ∷ []) (flat t)) h) f
unlike_misses (met e t) es h (inl f) = go e.what refl f
  where
    go : (w : What) → e.what ≡ w → Misses (whats es) w → ⊥
    go item_begins z f = f
    go item_ends z f = f
    go (there n) z f = f
    go (value k g v) z f = f
    go (absent n) z f =
        let y : types_in (whats (es ++ (e ∷ flat t))) ≡ types_in (whats es) ++ (pick (is_type n) (false ∷ []) [] ++ types_in (whats (flat t))) =
        ap types_in (whats_append es (e ∷ flat t)) ∙ (types_append (whats es) (e.what ∷ whats (flat t)) ∙ rw z) in
        let u : Unlike (types_in (whats es) ++ pick (is_type n) (false ∷ []) []) =
        as_first (λ x y. y ≡ not x) (types_in (whats es) ++ pick (is_type n) (false ∷ []) []) (types_in (whats (flat t)))
        (rw (append_assoc (types_in (whats es)) (pick (is_type n) (false ∷ []) []) (types_in (whats (flat t)))) (rw y at h)) in
        let x : (is_type n so unlike_first false (types_in (whats es))) ≡ true = unlike_last (is_type n) false (types_in (whats es)) u in
        never (let q : true ≡ false = sym x ∙ f in cc)

pub whole_unbroken : (t : Trace) (q n : ℕ) → Whole t q → Breaks n t → ⊥
whole_unbroken (met e t) q n w b = whole_unbroken t q n w b
whole_unbroken (up_to p) q n w b = b
whole_unbroken (fault k p) q n w b = w

-- what is so of one refusal is so of the same
of_same : (P : ℕ → ℕ → Type 0) (k q n p : ℕ) → P k q → refused k q ≡ refused n p → P n p
of_same P k q n p h e =
    let a : k ≡ n = cc in
    let b : q ≡ p = cc in
    rw a at (rw b at h)

-- ---- the judge, once the message is not too long
module _ (m : List ℕ) where
  abbrev concluded : Reading (Ended (List Entry)) → Judged
  concluded x = verdict (onward x (λ r. noted listed (behind_all m r.at) r.notes))

  pub as_parts : (o : Opened) → inside m o ≡ and_then (in_document m o) (behind_all m)
  as_parts (from v p) = refl
  as_parts (faulty n q) = refl

  judged-as : length m ≤ most_bytes → judged m ≡ concluded (document_read m)
  unfolding judged message
  judged-as h = rw (le-ltb most_bytes (length m) h, as_parts (opened m), noted_then listed (in_document m (opened m)) (behind_all m) [])

  pub refuses : (n p : ℕ) → length m ≤ most_bytes → document_read m ≡ stop n p → judged m ≡ refused n p
  refuses n p h e = judged-as h ∙ rw e

  -- ---- behind `</Document>`
  module _ (r : Ended (List Entry)) (n p : ℕ) where
    compares : NoneLeft m r.at → compared r.notes ≡ refused n p → Behind m r n p
    unfolding compared
    compares h = go (eqb (decimal (only_of Count es)) (items_in (whats es))) (eqb (cents (only_of Total es)) (cents_in (whats es))) refl refl
      where
        es : List Entry
        es = r.notes

        go : (b c : Bool) → eqb (decimal (only_of Count es)) (items_in (whats es)) ≡ b → eqb (cents (only_of Total es)) (cents_in (whats es)) ≡ c
            → pick b (pick c (accepted (items_in (whats es)) (cents_in (whats es))) (refused 15 (place_of Total es))) (refused 14 (place_of Count es)) ≡ refused n p → Behind m r n p
        go true true f g = λ e. never (cc)
        go true false f g =
            of_same (Behind m r) 15 (place_of Total es) n p
            (total h (eqb-true (decimal (only_of Count es)) (items_in (whats es)) f) (eqb-false (cents (only_of Total es)) (cents_in (whats es)) g))
        go false c f g = of_same (Behind m r) 14 (place_of Count es) n p (count h (eqb-false (decimal (only_of Count es)) (items_in (whats es)) f))

    behind : concluded (on r) ≡ refused n p → Behind m r n p
    unfolding behind_all
    behind = go (ltb (skipped m r.at) (length m)) refl
      where
        go : (a : Bool) → ltb (skipped m r.at) (length m) ≡ a
            → verdict (noted listed (pick a (fault 16 (skipped m r.at)) (up_to (skipped m r.at))) r.notes) ≡ refused n p → Behind m r n p
        go true e = of_same (Behind m r) 16 (skipped m r.at) n p (left (ltb-true (skipped m r.at) (length m) e))
        go false e = compares (ltb-false (skipped m r.at) (length m) e)

  -- ---- the three ways to a refusal, with their numbers and places: too long; 3 at the message's end, or another fault met while reading before it; behind `</Document>`
  pub data Cause (n p : ℕ) : Type 0 where
    long : most_bytes < length m → n ≡ 1 → p ≡ 0 → Cause n p
    reading : length m ≤ most_bytes → document_read m ≡ stop n p → n among while_reading → p ≤ length m → (n ≡ 3 → p ≡ length m) → Cause n p
    after : (r : Ended (List Entry)) → ReadTo m r → Behind m r n p → n among after_the_end → p ≤ length m → Cause n p

  behind-last : (r : Ended (List Entry)) → Reached (length m) r.notes → {n p : ℕ} → Behind m r n p → n among after_the_end × (p ≤ length m)
  behind-last r h (left g) = (refl, omega arith)
  behind-last r h (count g f) = (refl, h Count)
  behind-last r h (total g f z) = (refl, h Total)

  pub cause : (n p : ℕ) → judged m ≡ refused n p → Cause n p
  unfolding judged message
  cause n p e = go (ltb most_bytes (length m)) refl e
    where
      read : length m ≤ most_bytes → (x y : Reading (Ended (List Entry))) → Both (length m) x y → document_read m ≡ x → concluded x ≡ refused n p → Cause n p
      read w x y (through r h) f g =
          let b = behind r n p g in
          let l = behind-last r h b in
          after r f b l.0 l.1
      read w x y (before k q i z h) f g = of_same Cause k q n p (reading w f i (omega arith) (λ a. absurd (z a))) g
      read w x y ends f g = of_same Cause 3 (length m) n p (reading w f refl (omega arith) (λ a. refl)) g

      go : (b : Bool) → ltb most_bytes (length m) ≡ b → verdict (noted listed (pick b (fault 1 0) (inside m (opened m))) []) ≡ refused n p → Cause n p
      go true h f = long (ltb-true most_bytes (length m) h) (cc) (cc)
      go false h f =
          let w : length m ≤ most_bytes = ltb-false most_bytes (length m) h in
          read w (document_read m) (document_read (m ++ [])) (document_both m []) refl (sym (judged-as w) ∙ e)
