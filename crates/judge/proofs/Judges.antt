-- What the engine finds is what the list says, on every message, but for the rule of 24.
use mathlib.Core.Path.{◌≡◌, refl, sym, ap, ◌∙◌}
use mathlib.Core.Bool.{Bool, true, false}
use mathlib.Core.List.{List, [], ◌∷◌}
use Prim.Native.Nat.{ℕ, zero, suc, ◌+◌}
use native.Mathlib.Omega.{arith}
use lib.Dec.{eqb, ltb}
use lib.ListN.{length, drop, get_or, drop_of_length-le}
use lib.Seq.{drop-cons}
use Rattle.text.specs.Truth.{pick}
use Rattle.text.specs.Quoted.{decimal}
use Rattle.codes.specs.declared.Element.TheVariants.{LclInstrm}
use Rattle.codes.specs.Listed.{code_given}
use Rattle.money.specs.Amount.{cents}
use Rattle.tags.specs.Tags.{skipped}
use Rattle.profile.specs.declared.Kind.TheVariants.{Count, Total, Code}
use Rattle.profile.specs.declared.Field.{Field}
use Rattle.profile.specs.Fields.{field_number}
use Rattle.profile.specs.Listed.{fields, many_fields}
use Rattle.profile.specs.Limits.{most_bytes}
use Rattle.profile.specs.Profile.{profile}
use Rattle.reading.specs.Trace.{Entry, up_to, fault, Opened, from, faulty, opened, trace, behind_all, inside, message}
use Rattle.reading.specs.Noted.{Reading, on, onward, Ended, noted}
use Rattle.reading.specs.Verdict.{Judged, accepted, refused}
use Rattle.reading.specs.Rules.{items_in, cents_in, values_of, first_of}
use Rattle.reading.specs.Judged.{whats, listed, only_of, place_of, compared}
use Rattle.reading.specs.Items.{notes_of}
use Rattle.reading.proofs.Flat.{never, same_end, noted_then}
use Rattle.reading.proofs.More.{lenient}
use Rattle.reading.proofs.Simulates.{Alike, going, stopped, Beside, simulates}
use Rattle.items.specs.Alone.{first_in}
use Rattle.notes.specs.declared.Notes.{Notes}
use Rattle.notes.specs.Notes.{fresh, in_notes}
use Rattle.notes.specs.Steps.{reads}
use Rattle.notes.proofs.Sums.{Served, Summed, summed_fresh, sums}
use Rattle.judge.specs.Found.{Found, denied, found_in, found_by, found}
use Rattle.judge.specs.Survey.{from_one, place_from_one, service_number, places_of, places, without, surveyed_if, surveyed, survey_by, survey}
use Rattle.judge.specs.Engine.{through_in, compared_in, finished_in, concluded_in, found_but, survey_but, filed_in, filed_of}

compares : (es : List Entry) (n : Notes) → Summed es n → found_in (compared es) es ≡ compared_in n
unfolding compared compared_in
compares es n r =
    rw (r.count, r.sum, r.number, r.numberat, r.total, r.totalat, r.first)
    (go (eqb (decimal (only_of Count es)) (items_in (whats es))) (eqb (cents (only_of Total es)) (cents_in (whats es))))
  where
    n' : ℕ
    n' = items_in (whats es)

    c' : ℕ
    c' = cents_in (whats es)

    go : (a b : Bool) → found_in (pick a (pick b (accepted n' c') (refused 15 (place_of Total es))) (refused 14 (place_of Count es))) es
        ≡ pick a (pick b (record { verdict = accepted n' c'; first = first_in es }) (denied 15 (place_of Total es))) (denied 14 (place_of Count es))
    go true true = refl
    go true false = refl
    go false b = refl

-- ---- the notes of the service and of the places
service_is : (es : List Entry) (n : Notes) → Summed es n → from_one n.service ≡ service_number (whats es)
unfolding service_number code_given
service_is es n r = go (values_of (Code LclInstrm) (whats es)) r.service
  where
    go : (ss : List (List ℕ)) → Served ss n.service → from_one n.service ≡ place_from_one (code_given LclInstrm (first_of [] ss))
    go [] h = ap from_one h
    go (w ∷ l) h = ap from_one h.2 ∙ sym (ap place_from_one h.1)

-- a list of so many numbers is its numbers from the first on
along : List ℕ → ℕ → ℕ → List ℕ
along l i zero = []
along l i (suc n) = get_or l i 0 ∷ along l (suc i) n

along_all : (l : List ℕ) (n i : ℕ) → length l ≡ i + n → drop i l ≡ along l i n
unfolding along
along_all l zero i e = drop_of_length-le l {i = i} (omega arith)
along_all l (suc n) i e = drop-cons l i 0 (omega arith) ∙ ap (λ (t : List ℕ). get_or l i 0 ∷ t) (along_all l n (suc i) (omega arith))

places_are : (es : List Entry) (n : Notes) → Summed es n → n.starts ≡ places es
unfolding along places
places_are es n r = along_all n.starts many_fields 0 r.long ∙ go fields
  where
    read_off : List Field → List ℕ
    read_off [] = []
    read_off (f ∷ l) = get_or n.starts (field_number f) 0 ∷ read_off l

    go : (fs : List Field) → read_off fs ≡ places_of fs es
    go [] = refl
    go (f ∷ l) = rw (r.starts f, go l)

module _ (m : List ℕ) where
  finishes : (es : List Entry) (n : Notes) (p : ℕ) → Summed es n → found_by (noted lenient (behind_all m p) es) ≡ finished_in m (record { at = p; notes = n })
  unfolding behind_all finished_in
  finishes es n p r = go (ltb (skipped m p) (length m))
    where
      go : (b : Bool) → found_by (noted lenient (pick b (fault 16 (skipped m p)) (up_to (skipped m p))) es) ≡ pick b (denied 16 (skipped m p)) (compared_in n)
      go true = refl
      go false = compares es n r

  concludes : (x : Reading (Ended (List Entry))) (y : Reading (Ended Notes)) → Alike (Beside Summed) x y
      → found_by (onward x (λ r. noted lenient (behind_all m r.at) r.notes)) ≡ concluded_in m y
  concludes x y (going {s = a} {t = b} h) = rw h.at (finishes a.notes b.notes b.at h.notes)
  concludes x y stopped = refl

  inside_found : (o : Opened) → found_by (noted lenient (inside m o) []) ≡ concluded_in m (through_in m o)
  inside_found (faulty n q) = refl
  inside_found (from v p) =
      ap found_by (noted_then lenient (trace (profile v) m p) (behind_all m) [])
      ∙ concludes (noted lenient (trace (profile v) m p) []) (reads (trace (profile v) m p) fresh)
      (simulates Summed lenient in_notes sums (trace (profile v) m p) [] fresh summed_fresh)

  -- a message that is too long, and any other
  pub found_long : ltb most_bytes (length m) ≡ true → denied 1 0 ≡ found_but m
  unfolding found_but message
  found_long e = rw e

  pub found_in_lem : ltb most_bytes (length m) ≡ false → concluded_in m (through_in m (opened m)) ≡ found_but m
  unfolding found_but message
  found_in_lem e = rw e (sym (inside_found (opened m)))

  -- ---- and what was noted
  finishes-noted : (es : List Entry) (n : Notes) (p : ℕ) → Summed es n
      → surveyed (found_by (noted lenient (behind_all m p) es)) (from_one n.service) n.starts ≡ survey_by (noted lenient (behind_all m p) es)
  unfolding behind_all
  finishes-noted es n p r = rw (service_is es n r, places_are es n r) (go (ltb (skipped m p) (length m)))
    where
      end : Bool → Reading (Ended (List Entry))
      end b = noted lenient (pick b (fault 16 (skipped m p)) (up_to (skipped m p))) es

      go : (b : Bool) → surveyed (found_by (end b)) (service_number (whats es)) (places es) ≡ survey_by (end b)
      go true = refl
      go false = refl

  concludes-noted : (x : Reading (Ended (List Entry))) (y : Reading (Ended Notes)) → Alike (Beside Summed) x y → (s : Ended Notes) → y ≡ on s
      → surveyed (found_by (onward x (λ r. noted lenient (behind_all m r.at) r.notes))) (from_one s.notes.service) s.notes.starts
      ≡ survey_by (onward x (λ r. noted lenient (behind_all m r.at) r.notes))
  concludes-noted x y (going {s = a} {t = b} h) s e =
      let z : b ≡ s = same_end b s e in
      rw (← z) (finishes-noted a.notes b.notes a.at h.notes)
  concludes-noted x y stopped s e = never (cc)

  inside-noted : (o : Opened) (s : Ended Notes) → through_in m o ≡ on s
      → surveyed (found_by (noted lenient (inside m o) [])) (from_one s.notes.service) s.notes.starts ≡ survey_by (noted lenient (inside m o) [])
  inside-noted (faulty n q) s e = never (cc)
  inside-noted (from v p) s e =
      rw (noted_then lenient (trace (profile v) m p) (behind_all m) [])
      (concludes-noted (noted lenient (trace (profile v) m p) []) (reads (trace (profile v) m p) fresh)
      (simulates Summed lenient in_notes sums (trace (profile v) m p) [] fresh summed_fresh) s e)

  -- a message that is refused, and one that was read to its end
  pub noted_none : (n p : ℕ) (f : Found) → f ≡ denied n p → denied n p ≡ found_but m → without f ≡ survey_but m
  unfolding found_but survey_but
  noted_none n p f d e = rw (d, ← e)

  pub noted_in : ltb most_bytes (length m) ≡ false → (s : Ended Notes) → on s ≡ through_in m (opened m) → (f : Found) → f ≡ finished_in m s
      → surveyed f (from_one s.notes.service) s.notes.starts ≡ survey_but m
  unfolding found_but survey_but message
  noted_in e s g f d =
      let h = inside_found (opened m) in
      rw (e, d) (ap (λ (x : Found). surveyed x (from_one s.notes.service) s.notes.starts) (ap (concluded_in m) g ∙ sym h) ∙ inside-noted (opened m) s (sym g))

  -- refused behind the end
  pub noted_behind : ltb most_bytes (length m) ≡ false → (s : Ended Notes) → on s ≡ through_in m (opened m) → (n p : ℕ) → denied n p ≡ finished_in m s
      → without (denied n p) ≡ survey_but m
  noted_behind e s g n p d = noted_none n p (denied n p) refl (d ∙ (ap (concluded_in m) g ∙ found_in_lem e))

  -- where TxIds begin
  pub filed_long : ltb most_bytes (length m) ≡ true → (l : List ℕ) → l ≡ filed_of m l
  unfolding filed_of
  filed_long e l = rw e

  pub filed_read : ltb most_bytes (length m) ≡ false → (l : List ℕ) → filed_in m (opened m) l ≡ filed_of m l
  unfolding filed_of
  filed_read e l = rw e

  pub survey_found : (survey m).found ≡ found m
  unfolding found survey
  survey_found = go (found_by (noted listed (message m) []))
    where
      es : List Entry
      es = notes_of (noted listed (message m) [])

      if : (j : Judged) (f : Found) → (surveyed_if j f (service_number (whats es)) (places es)).found ≡ f
      if (accepted n c) f = refl
      if (refused n q) f = refl

      go : (f : Found) → (surveyed f (service_number (whats es)) (places es)).found ≡ f
      go f = if f.verdict f
