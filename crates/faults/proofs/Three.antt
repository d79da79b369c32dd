-- "3: ends where more is due": some continuation is refused neither 2 nor 3 nor 4.
use mathlib.Core.Path.{◌≡◌, refl, sym, ap, ◌∙◌}
use mathlib.Core.Bool.{Bool, true, false}
use mathlib.Core.List.{List, [], ◌∷◌, ◌++◌, append_assoc}
use mathlib.Core.Logic.{inl, inr}
use Prim.Native.Nat.{ℕ, ◌+◌, ◌≤◌}
use native.Mathlib.Omega.{arith}
use borrow.Author.Tests.{eqb-true, le-ltb}
use lib.Dec.{eqb}
use lib.ListN.{length, drop, length-append, length-drop}
use Rattle.text.specs.Truth.{both, pick}
use Rattle.text.proofs.Truths.{both_false, both_true}
use Rattle.tags.specs.declared.Look.{Look}
use Rattle.tags.specs.declared.Look.TheVariants.{Whole as Complete, Cut, Other}
use Rattle.tags.specs.Tags.{white, skipped, look, on_look, exactly, declaration, starts_question}
use Rattle.tags.proofs.Looks.{exactly_length, look_fits}
use Rattle.profile.specs.declared.Version.{Version}
use Rattle.profile.specs.Version.{versions, root}
use Rattle.profile.specs.Limits.{most_bytes}
use Rattle.profile.specs.Profile.{profile}
use Rattle.reading.specs.Trace.{Entry, Trace, met, up_to, fault, and_then, Opened, from, faulty, rooted, opened, trace, behind_all, message}
use Rattle.reading.specs.Noted.{stop}
use Rattle.reading.specs.Rules.{types_in}
use Rattle.reading.specs.Verdict.{refused}
use Rattle.reading.specs.Judged.{whats, judged}
use Rattle.reading.proofs.Flat.{never, flat}
use Rattle.reading.proofs.Lists.{whats_append, types_append}
use Rattle.faults.specs.Refusals.{◌among◌, of_what_is_said, in_document}
use Rattle.faults.specs.Completed.{full, room_of, enough, NoneBut, Completed}
use Rattle.faults.proofs.Numbers.{not_among, none_common, among_left}
use Rattle.faults.proofs.Causes.{as_parts, document_read, Breaks, MissesIn, said, broken, untyped, noted_stops}
use Rattle.faults.proofs.Faults.{met_reading}
use Rattle.faults.proofs.Begins.{rooted_ends, document_ext}
use Rattle.documents.proofs.Lists.{Unlike, kept_none}
use Rattle.documents.proofs.Typed.{lacking}
use Rattle.documents.proofs.Sure.{profile_sure}
use Rattle.documents.proofs.Texts.{Starts}
use Rattle.faults.proofs.Lacks.{Lack, lack_flat}
use Rattle.faults.proofs.Missing.{noted_kept, misses_twice, onwards, none_missing}
use Rattle.faults.proofs.Fills.{starts_more, least, least_full, trace_fills}
use Rattle.faults.proofs.Made.{Due, Fine, Made, made_as, made_more, filled_up, mend}
use Rattle.faults.proofs.Completes.{Place, behind_white, stays, whole_text, none_white, trace_ends, trace_comes}

place_more : {g : List ℕ → ℕ} (m y : List ℕ) → Place g m → (g m ≡ length m → Starts y) → Place g (m ++ y)
place_more {g} m y w l =
    record {
      within = omega (arith, w.kept y l, w.within, length-append m y);
      kept = λ x i. ap g (append_assoc m y x) ∙ (w.kept (y ++ x) (λ z. starts_more y x (l z)) ∙ sym (w.kept y l));
    }

-- ---- the root tag of one of some versions, at a place, and what follows it
module _ (g : List ℕ → ℕ) where
  abbrev Rooted : List Version → List ℕ → Trace
  Rooted vs k = in_document k (rooted vs k (g k))

  rooted-comes : (vs : List Version) (m : List ℕ) → Place g m → Due (length m) (Rooted vs m) → Made (room_of vs) m (Rooted vs)
  rooted-comes [] m w d = elim d [ inl z ↦ absurd (let y : ⊥ = omega arith in y) | inr z ↦ absurd (let y : ⊥ = omega arith in y) ]
  rooted-comes (v ∷ vs) m w d = go (look tag (drop (g m) m)) refl (rooted-comes vs m w) d
    where
      tag : List (ℕ → Bool)
      tag = exactly (root v)

      size : length tag ≡ length (root v)
      size = exactly_length (root v)

      b : ℕ
      b = room_of (v ∷ vs)

      go : (l : Look) → look tag (drop (g m) m) ≡ l → (Due (length m) (Rooted vs m) → Made (room_of vs) m (Rooted vs))
          → Due (length m) (in_document m (on_look l (from v (g m + length (root v))) (faulty 3 (length m)) (rooted vs m (g m)))) → Made b m (Rooted (v ∷ vs))
      go Other e k d =
          made_as b (Rooted (v ∷ vs)) (k d) (omega arith)
          (λ x i. let y = stays tag (omega arith) g m x (g m) w refl Other e (λ z. never (cc)) in rw (y.0, y.1) (rw y.0 at i))
          (λ x i. let y = stays tag (omega arith) g m x (g m) w refl Other e (λ z. never (cc)) in rw (y.0, y.1, e) (rw y.0 at i))
      go Complete e k d =
          made_as b (Rooted (v ∷ vs))
          (trace_comes (profile v) (profile_sure v) m (g m + length (root v)) (omega (arith, w.within, size, look_fits tag (drop (g m) m) e, length-drop (g m) m)) d) (omega arith)
          (λ x i. let y = stays tag (omega arith) g m x (g m) w refl Complete e (λ z. never (cc)) in rw (y.0, y.1) i)
          (λ x i. let y = stays tag (omega arith) g m x (g m) w refl Complete e (λ z. never (cc)) in rw (y.0, y.1, e) i)
      go Cut e k d =
          let r = mend tag (root v) (record { rest = _; is = refl }) (whole_text (root v)) (sym size) m (g m) w.within e in
          let n : List ℕ = m ++ r.more in
          let same : g n ≡ g m = w.kept r.more r.led in
          let at-end : g m + length (root v) ≡ length n = omega (arith, r.size, size) in
          made_more b m r.more (Rooted (v ∷ vs))
          (made_as (full (profile v)) (Rooted (v ∷ vs)) (filled_up (trace (profile v)) (least (profile v)) (trace_fills (profile v) (profile_sure v)) n) (least_full (profile v))
          (λ x i. let y = stays tag (omega arith) g n x (g m) (place_more m r.more w r.led) same Complete r.whole (λ z. never (cc)) in rw (y.0, y.1, at-end) i)
          (λ x i. let y = stays tag (omega arith) g n x (g m) (place_more m r.more w r.led) same Complete r.whole (λ z. never (cc)) in rw (y.0, y.1, same, r.whole, at-end) i))
          (omega (arith, r.short, size)) (rw (same, r.whole, at-end, trace_ends (profile v) n) (omega arith))

-- ---- the beginning
-- what starts `<?` has no root there; and starts so continued
question_root : (k : List ℕ) → starts_question k ≡ true → rooted versions k (skipped k 0) ≡ faulty 2 0
unfolding starts_question white
question_root [] e = never (cc)
question_root (c ∷ []) e = let z : both (eqb c 60) false ≡ true = e in never (cc (both_false (eqb c 60)))
question_root (c ∷ d ∷ k) e =
    let t = both_true (eqb c 60) (both (eqb d 63) true) e in
    let u = both_true (eqb d 63) true t.1 in
    rw (eqb-true c 60 t.0, eqb-true d 63 u.0)

question_on : (m x : List ℕ) → starts_question m ≡ true → starts_question (m ++ x) ≡ true
unfolding starts_question
question_on [] x e = never (cc)
question_on (c ∷ []) x e = let z : both (eqb c 60) false ≡ true = e in never (cc (both_false (eqb c 60)))
question_on (c ∷ d ∷ m) x e = e

abbrev Document : List ℕ → Trace
Document k = in_document k (opened k)

abbrev declared : List ℕ → Opened
declared k = on_look (look (exactly declaration) k) (rooted versions k (skipped k (length declaration))) (faulty 3 (length k)) (faulty 2 0)

-- at a message's end the root is due
root_due : (m : List ℕ) (p : ℕ) → p ≡ length m → Due (length m) (in_document m (rooted versions m (skipped m p)))
root_due m p e = rw (e, none_white m, rooted_ends m [] versions (omega arith)) (inl refl)

root_lack : (m : List ℕ) (p : ℕ) → p ≡ length m → Lack (in_document m (rooted versions m (skipped m p))) ≡ 0
root_lack m p e = rw (e, none_white m, rooted_ends m [] versions (omega arith))

-- behind a declaration that lies whole
declared_on : (m : List ℕ) → starts_question m ≡ true → look (exactly declaration) m ≡ Complete
    → Due (length m) (in_document m (rooted versions m (skipped m (length declaration)))) → Made (room_of versions) m Document
unfolding opened
declared_on m e c d =
    made_as (room_of versions) Document
    (rooted-comes (λ k. skipped k (length declaration)) versions m (behind_white m (length declaration) (omega (arith, look_fits (exactly declaration) m c))) d) (omega arith)
    (λ x i. rw (question_on m x e, kept x) i) (λ x i. rw (question_on m x e, kept x, e, c) i)
  where
    kept : (x : List ℕ) → look (exactly declaration) (m ++ x) ≡ Complete
    kept x = (stays (exactly declaration) (omega arith) (λ k. 0) m x 0 (record { within = omega arith; kept = λ x l. refl }) refl Complete c (λ z. never (cc))).1

module _ (m : List ℕ) where
  -- without a declaration
  plain-comes : starts_question m ≡ false → Due (length m) (in_document m (rooted versions m (skipped m 0))) → Made enough m Document
  unfolding opened
  plain-comes e d =
      let r = rooted-comes (λ k. skipped k 0) versions m (behind_white m 0 (omega arith)) d in
      let k : List ℕ = m ++ r.more in
      record { more = r.more; short = omega (arith, r.short); fine = go k (starts_question k) refl r.fine; lacks = rw e (low k (starts_question k) refl r.fine r.lacks) }
    where
      low : (k : List ℕ) (b : Bool) → starts_question k ≡ b → Fine (length k) (in_document k (rooted versions k (skipped k 0))) → {i : ℕ}
          → Lack (in_document k (rooted versions k (skipped k 0))) ≤ i → Lack (in_document k (pick b (declared k) (rooted versions k (skipped k 0)))) ≤ i
      low k false e f h = h
      low k true e f h = absurd (let z : ◌≡◌ {A = ℕ} 2 6 = rw (question_root k e) at f in omega arith)

      go : (k : List ℕ) (b : Bool) → starts_question k ≡ b → Fine (length k) (in_document k (rooted versions k (skipped k 0)))
          → Fine (length k) (in_document k (pick b (declared k) (rooted versions k (skipped k 0))))
      go k false e i = i
      go k true e i = absurd (let z : ◌≡◌ {A = ℕ} 2 6 = rw (question_root k e) at i in omega arith)

  -- with one
  declared-comes : starts_question m ≡ true → Due (length m) (in_document m (declared m)) → Made enough m Document
  unfolding opened
  declared-comes e = go (look (exactly declaration) m) refl
    where
      go : (l : Look) → look (exactly declaration) m ≡ l
          → Due (length m) (in_document m (on_look l (rooted versions m (skipped m (length declaration))) (faulty 3 (length m)) (faulty 2 0))) → Made enough m Document
      go Complete c d = made_as enough Document (declared_on m e c d) (omega arith) (λ x i. i) (λ x i. i)
      go Other c d = elim d [ inl z ↦ absurd (let y : ⊥ = omega arith in y) | inr z ↦ absurd (let y : ⊥ = omega arith in y) ]
      go Cut c d =
          let r = mend (exactly declaration) declaration (record { rest = _; is = refl }) (whole_text declaration) (sym (exactly_length declaration)) m 0 (omega arith) c in
          let n : List ℕ = m ++ r.more in
          let at-end : length declaration ≡ length n = omega (arith, r.size) in
          made_more enough m r.more Document
          (declared_on n (question_on m r.more e) r.whole (root_due n (length declaration) at-end)) (omega (arith, r.short))
          (rw (question_on m r.more e, r.whole) (omega (arith, root_lack n (length declaration) at-end)))

  document-comes : Due (length m) (Document m) → Made enough m Document
  unfolding opened
  document-comes d = go (starts_question m) refl d
    where
      go : (b : Bool) → starts_question m ≡ b → Due (length m) (in_document m (pick b (declared m) (rooted versions m (skipped m 0)))) → Made enough m Document
      go true e d = declared-comes e d
      go false e d = plain-comes e d

-- ---- what breaks off with 3 is due; what is fine breaks off with 6 alone
broken_due : (l : ℕ) (t : Trace) → Breaks 3 t → Due l t
broken_due l (met e t) b = broken_due l t b
broken_due l (up_to p) b = absurd b
broken_due l (fault n q) b = inl b

fine_broken : (l : ℕ) (t : Trace) (n : ℕ) → Fine l t → Breaks n t → n ≡ 6
fine_broken l (met e t) n f b = fine_broken l t n f b
fine_broken l (up_to p) n f b = absurd b
fine_broken l (fault k q) n f b = sym b ∙ f

none_but : (m : List ℕ) (t : Trace) → Fine (length m) t → NoneBut 6 (and_then t (behind_all m))
unfolding behind_all
none_but m (met e t) f = none_but m t f
none_but m (up_to p) f = rw (f, none_white m, le-ltb (length m) (length m) (omega arith)) tt
none_but m (fault n q) f = f

-- A message that is refused 3 is the beginning of one that is not refused 2, 3 or 4, where there is room for what is due.
pub three_continued : (m : List ℕ) (p : ℕ) → judged m ≡ refused 3 p → length m + enough ≤ most_bytes → Completed m
unfolding message
three_continued m p e h =
    elim (noted_stops (Document m) [] 3 p reads) [
      | said a ↦ absurd (not_among 3 of_what_is_said 3 refl a refl)
      | broken b ↦ go (document-comes m (broken_due (length m) (Document m) b))
      | untyped z h ↦ never (omega (arith, z))
    ]
  where
    reads : document_read m ≡ stop 3 p
    reads = (met_reading m 3 p e refl).1

    typed : Unlike (types_in (whats (flat (Document m))))
    typed = (noted_kept (Document m) [] p reads kept_none).typed

    no-four : (x : List ℕ) → Lack (Document (m ++ x)) ≤ Lack (Document m) → MissesIn (Document (m ++ x)) [] → ⊥
    no-four x h w =
        let o = onwards (document_ext m x) in
        let y : types_in (whats (flat (Document (m ++ x)))) ≡ types_in (whats (flat (Document m))) ++ types_in (whats o.rest) =
        ap (λ (l : List Entry). types_in (whats l)) o.is ∙ (ap types_in (whats_append (flat (Document m)) o.rest) ∙ types_append (whats (flat (Document m))) (whats o.rest)) in
        none_missing (types_in (whats (flat (Document m)))) (types_in (whats o.rest)) typed
        (omega (arith, h, lack_flat (Document m), lack_flat (Document (m ++ x)), ap lacking y)) (rw y at (misses_twice (Document (m ++ x)) [] w))

    not-of-form : (x : List ℕ) (n p : ℕ) → Fine (length (m ++ x)) (Document (m ++ x)) → Lack (Document (m ++ x)) ≤ Lack (Document m) → n among (2 ∷ 3 ∷ 4 ∷ []) → judged (m ++ x) ≡ refused n p → ⊥
    not-of-form x n p f l i e =
        let k : List ℕ = m ++ x in
        elim (noted_stops (Document k) [] n p (met_reading k n p e (among_left n (2 ∷ 3 ∷ 4 ∷ []) (6 ∷ of_what_is_said) i)).1) [
          | said a ↦ none_common (2 ∷ 3 ∷ 4 ∷ []) of_what_is_said refl n i a
          | broken b ↦ not_among 6 (2 ∷ 3 ∷ 4 ∷ []) n refl i (fine_broken (length k) (Document k) n f b)
          | untyped z h ↦ no-four x l h
        ]

    go : Made enough m Document → Completed m
    go d =
        let k : List ℕ = m ++ d.more in
        let g : length k ≤ most_bytes = omega (arith, d.short, length-append m d.more) in
        record {
          more = d.more;
          short = d.short;
          form = rw (le-ltb most_bytes (length k) g, as_parts k (opened k)) (none_but k (Document k) d.fine);
          answer = λ n p i f. not-of-form d.more n p d.fine d.lacks i f;
        }
