-- No TxId twice, apart from the other rules: reading goes as it does without that rule, up to the earliest second one.
use mathlib.Core.Path.{◌≡◌, refl, sym, ap, ◌∙◌}
use mathlib.Core.Bool.{Bool, true, false, not}
use mathlib.Core.Option.{Option, none, some}
use mathlib.Core.List.{List, [], ◌∷◌, ◌++◌, append-nil, append_assoc}
use Prim.Native.Nat.{ℕ}
use lib.Dec.{eqb, ltb}
use Rattle.text.specs.Truth.{pick}
use Rattle.text.specs.Quoted.{alike}
use Rattle.answers.specs.Given.{Given, yes, worth, refused as no, Rule, ◌else◌, in_order}
use Rattle.codes.specs.declared.Element.TheVariants.{LclInstrm}
use Rattle.profile.specs.declared.Kind.TheVariants.{Code}
use Rattle.profile.specs.declared.Field.TheVariants.{TxId}
use Rattle.profile.specs.Limits.{most_items}
use Rattle.profile.specs.Kinds.{same_kind}
use Rattle.profile.specs.Fields.{same_field}
use Rattle.profile.specs.Profile.{is_type}
use Rattle.kinds.specs.Given.{kind_given}
use Rattle.reading.specs.Trace.{What, item_begins, item_ends, there, absent, value, Entry, Trace, met, up_to, fault}
use Rattle.reading.specs.Noted.{Reading, on, stop, onward, Ended, Noting, noted}
use Rattle.reading.specs.Rules.{items_in, of_field, values_of, values_at, types_in, first_of, stands_in, ◌so◌, unlike_first, rules, own_kind, fitting}
use Rattle.reading.specs.Judged.{whats, or_refused, listed}
use Rattle.reading.proofs.Flat.{never, same_end, through}

-- noting by some rules; and by all but that of 24
abbrev pub listed_by : (List What → What → List Rule) → Noting (List Entry)
listed_by R e before = or_refused (fitting (own_kind e.what) (in_order (R (whats before) e.what) yes)) e.place (before ++ (e ∷ []))

abbrev pub without : ℕ → List Rule → List Rule
without n [] = []
without n (r ∷ l) = pick (eqb r.number n) (without n l) (r ∷ without n l)

abbrev pub lenient : Noting (List Entry)
lenient = listed_by (λ before w. without 24 (rules before w))

-- the entries that are noted along a trace, up to where it ends or stops, after what was noted before
abbrev pub read_then : Reading (List Entry) → List Entry → (List Entry → List Entry) → List Entry
read_then (on u) es f = f u
read_then (stop n p) es f = es

abbrev pub read_on : Trace → List Entry → List Entry
read_on (met e t) es = read_then (lenient e es) es (read_on t)
read_on (up_to p) es = es
read_on (fault n q) es = es

-- the TxIds of a list, in order: place and bytes
pub record Lying : Type 0 where
  pub place : ℕ
  pub bytes : List ℕ

abbrev pub lying_at : ℕ → List (List ℕ) → List Lying
lying_at p [] = []
lying_at p (v ∷ l) = record { place = p; bytes = v } ∷ lying_at p l

abbrev pub ids_of : List Entry → List Lying
ids_of [] = []
ids_of (e ∷ l) = lying_at e.place (of_field TxId e.what) ++ ids_of l

abbrev pub bytes_of : List Lying → List (List ℕ)
bytes_of [] = []
bytes_of (x ∷ l) = x.bytes ∷ bytes_of l

-- the place of the earliest one that stands among those before it, or none
abbrev pub second_in : List (List ℕ) → List Lying → Option ℕ
second_in before [] = none
second_in before (x ∷ l) = pick (stands_in x.bytes before) (some x.place) (second_in (before ++ (x.bytes ∷ [])) l)

-- 24 there, or else what the reading gives
abbrev pub twice_or : {S : Type 0} → Option ℕ → Reading S → Reading S
twice_or none r = r
twice_or (some p) r = stop 24 p

-- ---- lists of TxIds, one behind the other
abbrev pub or_else : Option ℕ → Option ℕ → Option ℕ
or_else none o = o
or_else (some p) o = some p

pub bytes_append : (a b : List Lying) → bytes_of (a ++ b) ≡ bytes_of a ++ bytes_of b
bytes_append [] b = refl
bytes_append (x ∷ a) b = ap (λ (l : List (List ℕ)). x.bytes ∷ l) (bytes_append a b)

pub ids_append : (a b : List Entry) → ids_of (a ++ b) ≡ ids_of a ++ ids_of b
ids_append [] b = refl
ids_append (e ∷ a) b =
    let here = lying_at e.place (of_field TxId e.what) in
    ap (λ (l : List Lying). here ++ l) (ids_append a b) ∙ sym (append_assoc here (ids_of a) (ids_of b))

bytes_at : (p : ℕ) (l : List (List ℕ)) → bytes_of (lying_at p l) ≡ l
bytes_at p [] = refl
bytes_at p (v ∷ l) = ap (λ (k : List (List ℕ)). v ∷ k) (bytes_at p l)

pub ids_bytes : (es : List Entry) → bytes_of (ids_of es) ≡ values_at TxId (whats es)
ids_bytes [] = refl
ids_bytes (e ∷ l) =
    let here = of_field TxId e.what in
    bytes_append (lying_at e.place here) (ids_of l) ∙ rw (bytes_at e.place here, ids_bytes l)

pub second_append : (before : List (List ℕ)) (a b : List Lying) → second_in before (a ++ b) ≡ or_else (second_in before a) (second_in (before ++ bytes_of a) b)
second_append before [] b = rw (append-nil before)
second_append before (x ∷ a) b = go (stands_in x.bytes before)
    (second_append (before ++ (x.bytes ∷ [])) a b ∙ rw (append_assoc before (x.bytes ∷ []) (bytes_of a)))
  where
    go : (c : Bool) → second_in (before ++ (x.bytes ∷ [])) (a ++ b) ≡ or_else (second_in (before ++ (x.bytes ∷ [])) a) (second_in (before ++ (x.bytes ∷ bytes_of a)) b)
        → pick c (some x.place) (second_in (before ++ (x.bytes ∷ [])) (a ++ b))
        ≡ or_else (pick c (some x.place) (second_in (before ++ (x.bytes ∷ [])) a)) (second_in (before ++ (x.bytes ∷ bytes_of a)) b)
    go true h = refl
    go false h = h

-- ---- one entry: x with all rules, y without that of 24; u is noted after it, and s is whether it is a second one
data Beside (p : ℕ) (u : List Entry) (x y : Reading (List Entry)) (s : Option ℕ) : Type 0 where
  stops : (n q : ℕ) → x ≡ stop n q → y ≡ stop n q → Beside p u x y s
  goes : x ≡ on u → y ≡ on u → s ≡ none → Beside p u x y s
  again : x ≡ stop 24 p → y ≡ on u → s ≡ some p → Beside p u x y s

abbrev Besides : Entry → List Entry → Type 0
Besides e es = Beside e.place (es ++ (e ∷ [])) (listed e es) (lenient e es) (second_in (values_at TxId (whats es)) (ids_of (e ∷ [])))

beside : (e : Entry) (es : List Entry) → Besides e es
beside e es = go e.what
  where
    p : ℕ
    p = e.place

    u : List Entry
    u = es ++ (e ∷ [])

    ws : List What
    ws = whats es

    ids : List (List ℕ)
    ids = values_at TxId ws

    -- one rule that is no TxId's
    one : (b : Bool) (n : ℕ) → Beside p u (or_refused (in_order (b else n ∷ []) yes) p u) (or_refused (in_order (b else n ∷ []) yes) p u) none
    one true n = goes refl refl refl
    one false n = stops n p refl refl

    valued : (g : Given) (a c d : Bool)
        → Beside p u (or_refused (fitting g (in_order (a else 11 ∷ (c so not d) else 24 ∷ []) yes)) p u) (or_refused (fitting g (in_order (a else 11 ∷ []) yes)) p u)
        (pick c (pick d (some p) none) none)
    valued (no n) a c d = stops n p refl refl
    valued yes false c d = stops 11 p refl refl
    valued yes true false d = goes refl refl refl
    valued yes true true false = goes refl refl refl
    valued yes true true true = again refl refl refl
    valued (worth i) false c d = stops 11 p refl refl
    valued (worth i) true false d = goes refl refl refl
    valued (worth i) true true false = goes refl refl refl
    valued (worth i) true true true = again refl refl refl

    known : (v : List ℕ) (c : Bool) → pick c (pick (stands_in v ids) (some p) none) none ≡ second_in ids (lying_at p (pick c (v ∷ []) []) ++ [])
    known v true = refl
    known v false = refl

    go : (w : What)
        → Beside p u (or_refused (fitting (own_kind w) (in_order (rules ws w) yes)) p u) (or_refused (fitting (own_kind w) (in_order (without 24 (rules ws w)) yes)) p u)
        (second_in ids (lying_at p (of_field TxId w) ++ []))
    go item_begins = one (ltb (items_in ws) most_items) 12
    go item_ends = goes refl refl refl
    go (there n) = one (is_type n so unlike_first true (types_in ws)) 23
    go (absent n) = one (is_type n so unlike_first false (types_in ws)) 4
    go (value k f v) =
        rw (← known v (same_field f TxId))
        (valued (kind_given k v) (same_kind k (Code LclInstrm) so alike (first_of v (values_of (Code LclInstrm) ws)) v) (same_field f TxId) (stands_in v ids))

-- ---- all of it
-- what is noted later stands behind what is noted now
pub record Longer (es l : List Entry) : Type 0 where
  pub more : List Entry
  pub is : l ≡ es ++ more

pub read_longer : (t : Trace) (es : List Entry) → Longer es (read_on t es)
read_longer (up_to p) es = record { more = []; is = sym (append-nil es) }
read_longer (fault n q) es = record { more = []; is = sym (append-nil es) }
read_longer (met e t) es =
    let h = read_longer t (es ++ (e ∷ [])) in
    go (record { more = e ∷ h.more; is = h.is ∙ append_assoc es (e ∷ []) h.more }) (fitting (own_kind e.what) (in_order (without 24 (rules (whats es) e.what)) yes))
  where
    go : Longer es (read_on t (es ++ (e ∷ []))) → (g : Given) → Longer es (read_then (or_refused g e.place (es ++ (e ∷ []))) es (read_on t))
    go later yes = later
    go later (worth n) = later
    go later (no n) = record { more = []; is = sym (append-nil es) }

-- where reading without that rule comes to its end, it is all that was noted
pub read_all : (t : Trace) (es : List Entry) (r : Ended (List Entry)) → noted lenient t es ≡ on r → read_on t es ≡ r.notes
read_all (up_to p) es r e = ap (λ (x : Ended (List Entry)). x.notes) (same_end (record { at = p; notes = es }) r e)
read_all (fault n q) es r e = never (cc)
read_all (met x t) es r e =
    let h = through (lenient x es) (noted lenient t) r e in
    rw h.first (read_all t h.mid r h.then)

second_more : (es : List Entry) (e : Entry) → second_in [] (ids_of es) ≡ none
    → second_in [] (ids_of (es ++ (e ∷ []))) ≡ second_in (values_at TxId (whats es)) (ids_of (e ∷ []))
second_more es e h = ap (second_in []) (ids_append es (e ∷ [])) ∙ (second_append [] (ids_of es) (ids_of (e ∷ [])) ∙ rw (h, ids_bytes es))

second_later : (a b : List Entry) (p : ℕ) → second_in [] (ids_of a) ≡ some p → second_in [] (ids_of (a ++ b)) ≡ some p
second_later a b p h = ap (second_in []) (ids_append a b) ∙ (second_append [] (ids_of a) (ids_of b) ∙ rw h)

pub twice_after : (t : Trace) (es : List Entry) → second_in [] (ids_of es) ≡ none
    → noted listed t es ≡ twice_or (second_in [] (ids_of (read_on t es))) (noted lenient t es)
twice_after (up_to p) es h = rw h
twice_after (fault n q) es h = rw h
twice_after (met e t) es h = go (twice_after t (es ++ (e ∷ []))) (beside e es)
  where
    u : List Entry
    u = es ++ (e ∷ [])

    go : (second_in [] (ids_of u) ≡ none → noted listed t u ≡ twice_or (second_in [] (ids_of (read_on t u))) (noted lenient t u))
        → Besides e es → noted listed (met e t) es ≡ twice_or (second_in [] (ids_of (read_on (met e t) es))) (noted lenient (met e t) es)
    go k (stops n q x y) = rw (x, y, h)
    go k (goes x y s) = rw (x, y) (k (second_more es e h ∙ s))
    go k (again x y s) =
        let l = read_longer t u in
        let z : second_in [] (ids_of (read_on t u)) ≡ some e.place =
        ap (λ (k : List Entry). second_in [] (ids_of k)) l.is ∙ second_later u l.more e.place (second_more es e h ∙ s) in
        rw (x, y, z)

-- along a whole message: 24 at the earliest second TxId of all that are noted without that rule; or where there is none, what is given without it
pub twice_or_lem : (t : Trace) → noted listed t [] ≡ twice_or (second_in [] (ids_of (read_on t []))) (noted lenient t [])
twice_or_lem t = twice_after t [] refl
