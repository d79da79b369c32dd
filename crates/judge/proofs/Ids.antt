-- Where the TxIds begin that the reader noted, and the earliest second of them: what the judge finds with the rule of 24.
use mathlib.Core.Path.{◌≡◌, refl, sym, ap, ◌∙◌}
use mathlib.Core.Bool.{Bool, true, false}
use mathlib.Core.Option.{Option, none, some}
use mathlib.Core.List.{List, [], ◌∷◌, ◌++◌, append-nil, append_assoc}
use Prim.Native.Nat.{ℕ, zero, suc, ◌-◌, ◌≤◌, ◌<◌}
use native.Mathlib.Omega.{arith}
use borrow.Author.Tests.{ne_eqb, lt-ltb}
use lib.Dec.{ltb}
use Rattle.std.specs.Prelude as rattle
use lib.ListN.{length, take, drop, set, replicate, length-append, length-replicate}
use Rattle.text.specs.Truth.{pick}
use Rattle.text.proofs.Scan.{rest_of}
use Rattle.text.proofs.Truths.{never}
use Rattle.profile.specs.declared.Field.TheVariants.{TxId}
use Rattle.profile.specs.Fields.{same_field}
use Rattle.profile.specs.Limits.{most_bytes, most_items}
use Rattle.profile.specs.Profile.{profile}
use Rattle.reading.specs.Trace.{What, item_begins, item_ends, there, absent, value, Entry, Trace, met, up_to, fault, trace, Opened, from, faulty, opened, behind_all, inside, message}
use Rattle.reading.specs.Noted.{Reading, noted}
use Rattle.reading.specs.Rules.{items_in, of_field, stands_in}
use Rattle.reading.specs.Judged.{whats}
use Rattle.reading.proofs.Each.{AllIn}
use Rattle.reading.proofs.Simulates.{Alike, going, stopped}
use Rattle.reading.proofs.More.{lenient, read_then, read_on, Lying as Id, lying_at, ids_of, bytes_of, second_in, twice_or, bytes_append, ids_append, ids_bytes, twice_or_lem}
use Rattle.items.proofs.Ids.{one_more, still_few, Fair, trace_fair, few_ids, Lies, read_then_lem, read_behind, ids_lie}
use Rattle.notes.specs.declared.Notes.{Notes}
use Rattle.notes.specs.Notes.{fresh, in_notes}
use Rattle.notes.proofs.Sums.{Summed, summed_fresh, sums}
use Rattle.twice.specs.Twice.{stands_among, second_from, second, if_any}
use Rattle.engine.specs.Engine.{filed, filed_by, filed_of as filed_with, or_else, placed}
use Rattle.judge.specs.Survey.{Surveyed, survey_by, survey}
use Rattle.judge.specs.Engine.{survey_but, filed_in, filed_of, unless_second}

-- ---- the places of TxIds, and the list of them as the code has it: how many, each, and zeros
abbrev places_of : List Id → List ℕ
places_of [] = []
places_of (x ∷ l) = x.place ∷ places_of l

places_append : (a b : List Id) → places_of (a ++ b) ≡ places_of a ++ places_of b
places_append [] b = refl
places_append (x ∷ a) b = ap (λ (l : List ℕ). x.place ∷ l) (places_append a b)

abbrev zeros : ℕ → List ℕ
zeros n = replicate n 0

laid : List ℕ → List ℕ
laid l = length l ∷ (l ++ zeros (most_items - length l))

-- one more
set_there : (a b : List ℕ) (x y i : ℕ) → length a ≡ i → set (a ++ (x ∷ b)) i y ≡ a ++ (y ∷ b)
set_there [] b x y zero e = refl
set_there [] b x y (suc i) e = never (omega arith)
set_there (c ∷ a) b x y zero e = never (omega arith)
set_there (c ∷ a) b x y (suc i) e = ap (λ (l : List ℕ). c ∷ l) (set_there a b x y i (omega arith))

laid_more : (l : List ℕ) (p : ℕ) → length l < most_items → filed p (laid l) ≡ laid (l ++ (p ∷ []))
unfolding laid
laid_more l p h =
    let k = most_items - length l - 1 in
    let z : most_items - length l ≡ suc k = omega (arith, h) in
    let n : length (l ++ zeros (most_items - length l)) ≡ most_items = length-append l (zeros (most_items - length l)) ∙ omega (arith, h, length-replicate {A = ℕ} (most_items - length l) 0) in
    let m : length (l ++ (p ∷ [])) ≡ suc (length l) = length-append l (p ∷ []) ∙ omega arith in
    let d : most_items - suc (length l) ≡ k = omega arith in
    rw (lt-ltb (length l) most_items h, lt-ltb (suc (length l)) (suc (length (l ++ zeros (most_items - length l)))) (omega (arith, n, h)), m, d)
    (ap (λ (x : List ℕ). suc (length l) ∷ x)
    (ap (λ (i : ℕ). set (l ++ zeros i) (length l) p) z ∙ (set_there l (zeros k) 0 p (length l) refl ∙ sym (append_assoc l (p ∷ []) (zeros k)))))

-- ---- what each entry adds
filed_more : (w : What) (p : ℕ) (es : List Id) → length (places_of (es ++ lying_at p (of_field TxId w))) ≤ most_items
    → filed_with w p (laid (places_of es)) ≡ laid (places_of (es ++ lying_at p (of_field TxId w)))
unfolding filed_by
filed_more item_begins p es h = ap (λ (l : List Id). laid (places_of l)) (sym (append-nil es))
filed_more item_ends p es h = ap (λ (l : List Id). laid (places_of l)) (sym (append-nil es))
filed_more (there n) p es h = ap (λ (l : List Id). laid (places_of l)) (sym (append-nil es))
filed_more (absent n) p es h = ap (λ (l : List Id). laid (places_of l)) (sym (append-nil es))
filed_more (value k f v) p es h = go (same_field f TxId) h
  where
    go : (b : Bool) → length (places_of (es ++ lying_at p (pick b (v ∷ []) []))) ≤ most_items
        → pick b (filed p (laid (places_of es))) (laid (places_of es)) ≡ laid (places_of (es ++ lying_at p (pick b (v ∷ []) [])))
    go true h =
        let e : places_of (es ++ (record { place = p; bytes = v } ∷ [])) ≡ places_of es ++ (p ∷ []) = places_append es (record { place = p; bytes = v } ∷ []) in
        laid_more (places_of es) p (omega (arith, ap length e, length-append (places_of es) (p ∷ []), h)) ∙ ap laid (sym e)
    go false h = ap (λ (l : List Id). laid (places_of l)) (sym (append-nil es))

many_places : (l : List Id) → length (places_of l) ≡ length (bytes_of l)
many_places [] = refl
many_places (x ∷ l) = ap suc (many_places l)

-- ---- all along a trace: what is placed is what was read
all_placed : (t : Trace) (es : List Entry) (n : Notes) → Summed es n → Fair t es → items_in (whats es) ≤ most_items
    → placed t n (laid (places_of (ids_of es))) ≡ laid (places_of (ids_of (read_on t es)))
all_placed (up_to p) es n r h f = refl
all_placed (fault k q) es n r h f = refl
all_placed (met e t) es n r h f = go (λ u v x y z. all_placed t u v x y z) (lenient e es) (in_notes e n) refl (sums e es n r)
  where
    go : ((u : List Entry) (v : Notes) → Summed u v → Fair t u → items_in (whats u) ≤ most_items → placed t v (laid (places_of (ids_of u))) ≡ laid (places_of (ids_of (read_on t u))))
        → (x : Reading (List Entry)) (y : Reading Notes) → lenient e es ≡ x → Alike Summed x y
        → or_else y (λ v. placed t v (filed_with e.what e.place (laid (places_of (ids_of es))))) (laid (places_of (ids_of es))) ≡ laid (places_of (ids_of (read_then x es (read_on t))))
    go k x y z (going {s = u} {t = v} a) =
        let few = still_few e es u z f in
        let is : ids_of u ≡ ids_of es ++ lying_at e.place (of_field TxId e.what) =
        ap ids_of (one_more e es u z) ∙ (ids_append es (e ∷ []) ∙ ap (λ (l : List Id). ids_of es ++ l) (append-nil (lying_at e.place (of_field TxId e.what)))) in
        let b : length (places_of (ids_of u)) ≤ most_items = omega (arith, many_places (ids_of u), ap length (ids_bytes u), few_ids t u (h.1 u z) few) in
        ap (placed t v) (filed_more e.what e.place (ids_of es) (rw (← is) b) ∙ ap (λ (l : List Id). laid (places_of l)) (sym is)) ∙ k u v a (h.1 u z) few
    go k x y z stopped = refl

-- of a whole message
abbrev ids_in : List ℕ → List Id
ids_in m = ids_of (read_on (message m) [])

filed_all : (m : List ℕ) → filed_of m (laid []) ≡ laid (places_of (ids_in m))
unfolding filed_of message
filed_all m = go (ltb most_bytes (length m)) (opened m)
  where
    go : (b : Bool) (o : Opened) → pick b (laid []) (filed_in m o (laid [])) ≡ laid (places_of (ids_of (read_on (pick b (fault 1 0) (inside m o)) [])))
    go true o = refl
    go false (faulty n q) = refl
    go false (from v p) =
        all_placed (trace (profile v) m p) [] fresh summed_fresh (trace_fair m v p) (omega arith)
        ∙ ap (λ (l : List Entry). laid (places_of (ids_of l))) (sym (read_then_lem (trace (profile v) m p) (behind_all m) (read_behind m) []))

-- ---- the earliest second of them
abbrev or_zero : Option ℕ → ℕ
or_zero none = 0
or_zero (some p) = p

module _ (m : List ℕ) where
  stands_there : (v : List ℕ) (l : List Id) → AllIn (Lies m) l → stands_among m v (places_of l) ≡ stands_in v (bytes_of l)
  stands_there v [] h = refl
  stands_there v (x ∷ l) h = rw (h.0.0, stands_there v l h.1)

  none_left : (before : List ℕ) (n : ℕ) → second_from m before (zeros n) ≡ 0
  none_left before zero = refl
  none_left before (suc n) = refl

  all_in : (a b : List Id) → AllIn (Lies m) a → AllIn (Lies m) b → AllIn (Lies m) (a ++ b)
  all_in [] b h k = k
  all_in (x ∷ a) b h k = (h.0, all_in a b h.1 k)

  second_from_lem : (before l : List Id) (n : ℕ) → AllIn (Lies m) before → AllIn (Lies m) l → second_from m (places_of before) (places_of l ++ zeros n) ≡ or_zero (second_in (bytes_of before) l)
  second_from_lem before [] n b h = none_left (places_of before) n
  second_from_lem before (x ∷ l) n b h =
      rw (ne_eqb x.place 0 (λ z. omega (arith, h.0.1)), h.0.0, stands_there x.bytes before b)
      (go (stands_in x.bytes (bytes_of before))
      (ap (λ (y : List ℕ). second_from m y (places_of l ++ zeros n)) (sym (places_append before (x ∷ [])))
      ∙ (second_from_lem (before ++ (x ∷ [])) l n (all_in before (x ∷ []) b (h.0, tt)) h.1 ∙ ap (λ (y : List (List ℕ)). or_zero (second_in y l)) (bytes_append before (x ∷ [])))))
    where
      go : (c : Bool) → second_from m (places_of before ++ (x.place ∷ [])) (places_of l ++ zeros n) ≡ or_zero (second_in (bytes_of before ++ (x.bytes ∷ [])) l)
          → pick c x.place (second_from m (places_of before ++ (x.place ∷ [])) (places_of l ++ zeros n)) ≡ or_zero (pick c (some x.place) (second_in (bytes_of before ++ (x.bytes ∷ [])) l))
      go true e = refl
      go false e = e

  positive : (before : List (List ℕ)) (l : List Id) (p : ℕ) → AllIn (Lies m) l → second_in before l ≡ some p → 1 ≤ p
  positive before [] p h e = never (cc)
  positive before (x ∷ l) p h e = go (stands_in x.bytes before) (positive (before ++ (x.bytes ∷ [])) l p h.1) e
    where
      go : (c : Bool) → (second_in (before ++ (x.bytes ∷ [])) l ≡ some p → 1 ≤ p) → pick c (some x.place) (second_in (before ++ (x.bytes ∷ [])) l) ≡ some p → 1 ≤ p
      go true k z = let y : x.place ≡ p = cc in rw (← y) h.0.1
      go false k z = k z

  -- as the code lends the list
  second-lent : (l : List ℕ) → length l ≡ 10001 → l ≡ filed_of m (zeros 10001) → (i : ℕ) → i ≡ second m (take (10001 - 1) (drop 1 l)) → i ≡ or_zero (second_in [] (ids_in m))
  unfolding second laid
  second-lent l n e i f =
      let a : l ≡ laid (places_of (ids_in m)) = e ∙ filed_all m in
      f
      ∙ (ap (λ (k : ℕ). second m (take (k - 1) (drop 1 l))) (sym n)
      ∙ (ap (second m) (rest_of 1 l) ∙ (ap (λ (y : List ℕ). second m (drop 1 y)) a ∙ second_from_lem [] (ids_in m) (most_items - length (places_of (ids_in m))) tt (ids_lie m))))

  -- **With the earliest second one, what is found without the rule of 24 is what is found.**
  pub found_second : (s : Surveyed) → s ≡ survey_but m → (l : List ℕ) → length l ≡ 10001 → l ≡ filed_of m (zeros 10001) → (o : rattle.Option ℕ) → o ≡ if_any (second m (take (10001 - 1) (drop 1 l)))
      → unless_second o s ≡ survey m
  unfolding survey_but survey
  found_second s e l n f o g =
      rw (e, g, second-lent l n f (second m (take (10001 - 1) (drop 1 l))) refl, twice_or_lem (message m)) (go (second_in [] (ids_in m)) refl)
    where
      there : (p : ℕ) → 1 ≤ p → if_any p ≡ rattle.Some p
      there zero h = never (omega arith)
      there (suc p) h = refl

      go : (o : Option ℕ) → second_in [] (ids_in m) ≡ o → unless_second (if_any (or_zero o)) (survey_by (noted lenient (message m) [])) ≡ survey_by (twice_or o (noted lenient (message m) []))
      go none z = refl
      go (some p) z = rw (there p (positive [] (ids_in m) p (ids_lie m) z))
