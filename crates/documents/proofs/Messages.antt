-- Whole messages: a document's message is read through and tells what the document says; and what is read through is a document's message.
use mathlib.Core.Path.{◌≡◌, refl, sym, ap, ◌∙◌}
use mathlib.Core.Bool.{Bool, true, false}
use mathlib.Core.List.{List, [], ◌∷◌, ◌++◌, append_assoc, append-nil}
use Prim.Native.Nat.{ℕ, ◌+◌, ◌≤◌}
use native.Mathlib.Nat.{zero-add}
use native.Mathlib.Omega.{arith}
use borrow.Author.Tests.{le-ltb, ltb-false, eqb-true, eq-eqb}
use lib.Dec.{eqb, ltb}
use lib.ListN.{length, take, drop, length-append, length-drop}
use lib.Seq.{drop-append_seam}
use Rattle.text.specs.Truth.{pick, lead, every, some}
use Rattle.text.specs.Quoted.{is}
use Rattle.text.proofs.Truths.{both_true}
use Rattle.text.proofs.Scan.{every_lead, lead_le}
use Rattle.tags.specs.declared.Look.{Look}
use Rattle.tags.specs.declared.Look.TheVariants.{Whole as Lies, Cut, Other}
use Rattle.tags.specs.Tags.{white, skipped, look, on_look, exactly, starts_question, declaration}
use Rattle.tags.proofs.Looks.{whole_text}
use Rattle.profile.specs.declared.Version.{Version}
use Rattle.profile.specs.declared.Version.TheVariants.{V02, V08}
use Rattle.profile.specs.Version.{versions, root}
use Rattle.profile.specs.Limits.{most_bytes}
use Rattle.profile.specs.Tree.{Shape}
use Rattle.profile.specs.Profile.{profile}
use Rattle.reading.specs.Trace.{up_to, fault, and_then, trace, Opened, from, faulty, rooted, opened, behind_all, inside, message}
use Rattle.reading.specs.Judged.{whats}
use Rattle.reading.proofs.Flat.{never, flat, Whole, split}
use Rattle.documents.specs.Document.{White, text}
use Rattle.documents.specs.Said.{said}
use Rattle.documents.specs.Message.{Message, head, whole, Lawful}
use Rattle.documents.proofs.Sure.{sure, profile_sure}
use Rattle.documents.proofs.Texts.{past, Starts, skip_to, space, space_text, space_white}
use Rattle.documents.proofs.Told.{Told, told_then, told_as}
use Rattle.documents.proofs.Complete.{trace_tells}
use Rattle.documents.proofs.Sound.{here, trace_found}

-- ---- the beginning of a document's message
pub root_starts : (v : Version) (s : List ℕ) → Starts (root v ++ s)
root_starts v s = record { rest = drop 1 (root v) ++ s; is = refl }

not_first : (c : ℕ) (l : List ℕ) → eqb c 60 ≡ false → is "<?" (take 2 (c ∷ l)) ≡ false
not_first c [] e = rw e
not_first c (d ∷ l) e = rw e

-- white space and the root tag begin no declaration
pub no_question : (v : Version) (w s : List ℕ) → White w → starts_question (w ++ (root v ++ s)) ≡ false
unfolding starts_question white
no_question v [] s h = refl
no_question v (c ∷ w) s h = go (eqb c 60) refl
  where
    head-white : some (eqb c) (32 ∷ 9 ∷ 13 ∷ 10 ∷ []) ≡ true
    head-white = (both_true (white c) (every white w) h).0

    go : (b : Bool) → eqb c 60 ≡ b → is "<?" (take 2 (c ∷ (w ++ (root v ++ s)))) ≡ false
    go false e = not_first c (w ++ (root v ++ s)) e
    go true e =
        let z : c ≡ 60 = eqb-true c 60 e in
        let y : some (eqb 60) (32 ∷ 9 ∷ 13 ∷ 10 ∷ []) ≡ true = rw z at head-white in
        never (cc)

pub question : (t : List ℕ) → starts_question (declaration ++ t) ≡ true
unfolding starts_question
question t = refl

module _ (m : List ℕ) where
  -- each version's root tag tells its version
  root-known : (v : Version) (p : ℕ) (s : List ℕ) → drop p m ≡ root v ++ s → rooted versions m p ≡ from v (p + length (root v))
  root-known V02 p s e = rw e
  root-known V08 p s e = rw e

  -- the root tag, after white space
  root-there : (v : Version) (p : ℕ) (w s : List ℕ) → White w → drop p m ≡ w ++ (root v ++ s) → rooted versions m (skipped m p) ≡ from v (p + length (w ++ root v))
  root-there v p w s h e =
      ap (rooted versions m) (skip_to m p w (root v ++ s) h (root_starts v s) e)
      ∙ root-known v (p + length w) s (past m w (root v ++ s) p e)
      ∙ ap (from v) (omega (arith, length-append w (root v)))

pub opens : {v : Version} {sh : Shape} (d : Message v sh) → Lawful d → (s : List ℕ) → opened (head d ++ s) ≡ from v (length (head d))
unfolding opened
opens {v} d law s = go d.declared
  where
    first : Bool → List ℕ
    first b = (pick b declaration [] ++ (d.before ++ root v)) ++ s

    go : (b : Bool) → pick (starts_question (first b))
        (on_look (look (exactly declaration) (first b)) (rooted versions (first b) (skipped (first b) (length declaration))) (faulty 3 (length (first b))) (faulty 2 0))
        (rooted versions (first b) (skipped (first b) 0))
        ≡ from v (length (pick b declaration [] ++ (d.before ++ root v)))
    go false =
        let e : (d.before ++ root v) ++ s ≡ d.before ++ (root v ++ s) = append_assoc d.before (root v) s in
        rw (ap starts_question e ∙ no_question v d.before s law.before)
        (root-there ((d.before ++ root v) ++ s) v 0 d.before s law.before e ∙ ap (from v) (zero-add (length (d.before ++ root v))))
    go true =
        let e : first true ≡ declaration ++ ((d.before ++ root v) ++ s) = append_assoc declaration (d.before ++ root v) s in
        let q : starts_question (first true) ≡ true = question ((d.before ++ root v) ++ s) in
        rw q
        (root-there (first true) v (length declaration) d.before s law.before
        (ap (drop (length declaration)) e ∙ drop-append_seam declaration ((d.before ++ root v) ++ s) ∙ append_assoc d.before (root v) s)
        ∙ ap (from v) (sym (length-append declaration (d.before ++ root v))))

-- ---- what stands behind the root's end
pub white_lead : (w : List ℕ) → White w → lead white w ≡ length w
white_lead w h = eqb-true (lead white w) (length w) (every_lead white w ∙ h)

pub lead_white : (w : List ℕ) → lead white w ≡ length w → White w
lead_white w h = sym (every_lead white w) ∙ eq-eqb (lead white w) (length w) h

module _ (m : List ℕ) where
  pub behind_told : (p : ℕ) (w : List ℕ) → White w → drop p m ≡ w → length m ≡ p + length w → Told (behind_all m p) (length m) []
  unfolding behind_all
  behind_told p w h e n =
      let z : skipped m p ≡ length m = ap (λ (x : List ℕ). p + lead white x) e ∙ ap (λ (x : ℕ). p + x) (white_lead w h) ∙ sym n in
      rw (z, le-ltb (length m) (length m) (omega arith)) (record { whole = refl; says = refl })

  pub behind_found : (p q : ℕ) → Whole (behind_all m p) q → White (drop p m)
  unfolding behind_all
  behind_found p q = go (ltb (skipped m p) (length m)) refl
    where
      go : (b : Bool) → ltb (skipped m p) (length m) ≡ b → Whole (pick b (fault 16 (skipped m p)) (up_to (skipped m p))) q → White (drop p m)
      go true e w = absurd w
      go false e w =
          let z : length m ≤ skipped m p = ltb-false (skipped m p) (length m) e in
          lead_white (drop p m) (omega (arith, z, lead_le white (drop p m), length-drop p m))

-- ---- a document's message, of any tree at each place of which one tag tells what comes
pub inside_told : {v : Version} {sh : Shape} → sure sh ≡ true → (d : Message v sh) → Lawful d
    → Told (and_then (trace sh (whole d) (length (head d))) (behind_all (whole d))) (length (whole d)) (said sh d.inside)
inside_told {sh = sh} a d law =
    told_as refl (append-nil (said sh d.inside))
    (told_then (trace sh (whole d) (length (head d))) (behind_all (whole d)) to (length (whole d)) (said sh d.inside) []
    (trace_tells (whole d) sh a d.inside law.inside (length (head d)) d.behind start)
    (behind_told (whole d) to d.behind law.behind (past (whole d) (text sh d.inside) d.behind (length (head d)) start)
    (omega (arith, length-append (head d) (text sh d.inside ++ d.behind), length-append (text sh d.inside) d.behind))))
  where
    to : ℕ
    to = length (head d) + length (text sh d.inside)

    start : drop (length (head d)) (whole d) ≡ text sh d.inside ++ d.behind
    start = drop-append_seam (head d) (text sh d.inside ++ d.behind)

-- A document's message is read through, to its end, and tells what the document says.
pub message_told : {v : Version} (d : Message v (profile v)) → Lawful d → length (whole d) ≤ most_bytes → Told (message (whole d)) (length (whole d)) (said (profile v) d.inside)
unfolding message
message_told {v} d law h = rw (le-ltb most_bytes (length (whole d)) h, opens d law (text (profile v) d.inside ++ d.behind)) (inside_told (profile_sure v) d law)

-- ---- the other way
pub record Opening (m : List ℕ) (v : Version) (p : ℕ) : Type 0 where
  pub declared : Bool
  pub before : List ℕ
  pub white : White before
  pub stands : m ≡ (pick declared declaration [] ++ (before ++ root v)) ++ drop p m

module _ (m : List ℕ) where
  rooted-from : (vs : List Version) (r : ℕ) (v : Version) (p : ℕ) → rooted vs m r ≡ from v p → drop r m ≡ root v ++ drop p m
  rooted-from [] r v p e = never (cc)
  rooted-from (w ∷ vs) r v p e = go (look (exactly (root w)) (drop r m)) refl e (rooted-from vs r v p)
    where
      go : (l : Look) → look (exactly (root w)) (drop r m) ≡ l → on_look l (from w (r + length (root w))) (faulty 3 (length m)) (rooted vs m r) ≡ from v p
          → (rooted vs m r ≡ from v p → drop r m ≡ root v ++ drop p m) → drop r m ≡ root v ++ drop p m
      go Lies q e k =
          let y : w ≡ v = cc in
          let z : r + length (root w) ≡ p = cc in
          rw (← y, ← z) (here m (root w) r q)
      go Cut q e k = never (cc)
      go Other q e k = k e

  begun : (b : Bool) (q : ℕ) (v : Version) (p : ℕ) → m ≡ pick b declaration [] ++ drop q m → rooted versions m (skipped m q) ≡ from v p → Opening m v p
  begun b q v p h e =
      record {
        declared = b;
        before = space m q;
        white = space_white m q;
        stands =
            h
            ∙ ap (λ (x : List ℕ). pick b declaration [] ++ x)
            (space_text m q ∙ ap (λ (x : List ℕ). space m q ++ x) (rooted-from versions (skipped m q) v p e) ∙ sym (append_assoc (space m q) (root v) (drop p m)))
            ∙ sym (append_assoc (pick b declaration []) (space m q ++ root v) (drop p m));
      }

  pub opened_from : (v : Version) (p : ℕ) → opened m ≡ from v p → Opening m v p
  unfolding opened
  opened_from v p = go (starts_question m) (look (exactly declaration) m) refl
    where
      go : (b : Bool) (l : Look) → look (exactly declaration) m ≡ l
          → pick b (on_look l (rooted versions m (skipped m (length declaration))) (faulty 3 (length m)) (faulty 2 0)) (rooted versions m (skipped m 0)) ≡ from v p → Opening m v p
      go true Lies q e = begun true (length declaration) v p (whole_text declaration m q) e
      go true Cut q e = never (cc)
      go true Other q e = never (cc)
      go false l q e = begun false 0 v p refl e

-- a message that is read through: the document, and that what was met is what it says
pub record Documented (m : List ℕ) : Type 0 where
  pub version : Version
  pub document : Message version (profile version)
  pub lawful : Lawful document
  pub is : m ≡ whole document
  pub short : length m ≤ most_bytes
  pub says : whats (flat (message m)) ≡ said (profile version) document.inside

module _ (m : List ℕ) (q : ℕ) where
  from_found : length m ≤ most_bytes → (o : Opened) → opened m ≡ o → Whole (inside m o) q → Documented m
  from_found short (faulty i r) e w = absurd w
  from_found short (from v p) e w =
      let s = split (trace (profile v) m p) (behind_all m) q w in
      let f = trace_found m (profile v) p s.mid s.first in
      let o = opened_from m v p e in
      let d : Message v (profile v) = record { declared = o.declared; before = o.before; inside = f.doc; behind = drop s.mid m } in
      let l : Lawful d = record { before = o.white; inside = f.proper; behind = behind_found m s.mid q s.then } in
      let z : m ≡ whole d = o.stands ∙ ap (λ (x : List ℕ). head d ++ x) f.part.stands in
      record {
        version = v;
        document = d;
        lawful = l;
        is = z;
        short = short;
        says = ap (λ (x : List ℕ). whats (flat (message x))) z ∙ (message_told d l (rw (← z) short)).says;
      }

  -- What is read through is a document's message, and what is met is what the document says.
  pub message_found : Whole (message m) q → Documented m
  unfolding message
  message_found = go (ltb most_bytes (length m)) refl
    where
      go : (b : Bool) → ltb most_bytes (length m) ≡ b → Whole (pick b (fault 1 0) (inside m (opened m))) q → Documented m
      go true e w = absurd w
      go false e w = from_found (ltb-false most_bytes (length m) e) (opened m) refl w
