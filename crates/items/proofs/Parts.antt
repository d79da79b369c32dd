-- A trace that breaks off nowhere: the parts of a group's children, where it ends, and the fields that are surely in it.
use mathlib.Core.Path.{◌≡◌, refl, sym, ap, ◌∙◌}
use mathlib.Core.Bool.{Bool, true, false}
use mathlib.Core.Logic.{◌⊎◌, inl, inr}
use mathlib.Core.List.{List, [], ◌∷◌, ◌++◌, append_assoc}
use Prim.Native.Nat.{ℕ, zero, suc, ◌+◌, ◌≤◌}
use Prim.Native.String.{String}
use native.Mathlib.Omega.{arith}
use lib.Dec.{ltb}
use lib.ListN.{length, drop, length-drop, length-append}
use lib.Seq.{drop-drop}
use Rattle.text.specs.Truth.{both, either, pick, lead}
use Rattle.text.proofs.Truths.{both_true, either_true}
use Rattle.tags.specs.declared.Look.{Look}
use Rattle.tags.specs.declared.Look.TheVariants.{Whole as Lies, Cut, Other}
use Rattle.tags.specs.Tags.{white, skipped, look, on_look, exactly, end_tag, plain_tag, start_tag}
use Rattle.tags.specs.Values.{value_at, behind_value}
use Rattle.tags.proofs.Looks.{text_fits}
use Rattle.profile.specs.declared.Kind.{Kind}
use Rattle.profile.specs.declared.Field.{Field}
use Rattle.profile.specs.Fields.{same_field}
use Rattle.profile.specs.Kinds.{is_amount}
use Rattle.profile.specs.Tree.{Occ, once, optional, many, more, Shape, end, leaf, group}
use Rattle.reading.specs.Trace.{value, Entry, ◌at◌, Trace, met, up_to, fault, and_then, begins, ends, priced, closed, valued, leaf_body, group_body, missing, turn, again, follow, child, trace}
use Rattle.reading.specs.Rules.{values_at}
use Rattle.reading.specs.Judged.{whats}
use Rattle.reading.proofs.Lists.{whats_append, at_append}
use Rattle.reading.proofs.Flat.{never, flat, Whole, split}
use Rattle.items.specs.Sure.{always, sure}

module _ (m : List ℕ) where
  -- ---- a child of a group: entered, or passed over
  pub data Turned (o : Occ) (n : String) (tag : List (ℕ → Bool)) (body next rest : ℕ → Trace) (p q : ℕ) : Type 0 where
    enters : look tag (drop (skipped m p) m) ≡ Lies → turn o n tag m body next rest p ≡ and_then (body (skipped m p)) next → Whole (and_then (body (skipped m p)) next) q
        → Turned o n tag body next rest p q
    passes : turn o n tag m body next rest p ≡ missing o n (skipped m p) (rest (skipped m p)) → Whole (missing o n (skipped m p) (rest (skipped m p))) q → Turned o n tag body next rest p q

  pub turned : (o : Occ) (n : String) (tag : List (ℕ → Bool)) (body next rest : ℕ → Trace) (p q : ℕ) → Whole (turn o n tag m body next rest p) q → Turned o n tag body next rest p q
  turned o n tag body next rest p q = go (look tag (drop (skipped m p) m)) refl
    where
      go : (l : Look) → look tag (drop (skipped m p) m) ≡ l
          → Whole (on_look l (and_then (body (skipped m p)) next) (fault 3 (length m)) (missing o n (skipped m p) (rest (skipped m p)))) q → Turned o n tag body next rest p q
      go Lies e w = enters e (rw e) w
      go Cut e w = absurd w
      go Other e w = passes (rw e) w

  pub never_passed : (o : Occ) (n : String) (p : ℕ) (t : Trace) (q : ℕ) → always o ≡ true → Whole (missing o n p t) q → ⊥
  never_passed once n p t q a w = w
  never_passed optional n p t q a w = never (cc)
  never_passed many n p t q a w = w
  never_passed more n p t q a w = never (cc)

  -- what stands before the rest of a group
  pub record Before (t : Trace) (rest : ℕ → Trace) (q : ℕ) : Type 0 where
    pub before : List Entry
    pub mid : ℕ
    pub then : Whole (rest mid) q
    pub entries : flat t ≡ before ++ flat (rest mid)

  more-before : {t u : Trace} {rest : ℕ → Trace} {q : ℕ} (a : List Entry) → flat u ≡ a ++ flat t → Before t rest q → Before u rest q
  more-before {t} {u} {rest} {q} a e b =
      record {
        before = a ++ b.before;
        mid = b.mid;
        then = b.then;
        entries = e ∙ (ap (λ (l : List Entry). a ++ l) b.entries ∙ sym (append_assoc a b.before (flat (rest b.mid))));
      }

  passed-before : (o : Occ) (n : String) (p : ℕ) (rest : ℕ → Trace) (q : ℕ) → Whole (missing o n p (rest p)) q → Before (missing o n p (rest p)) rest q
  passed-before once n p rest q w = absurd w
  passed-before optional n p rest q w = record { before = flat (missing optional n p (up_to p)); mid = p; then = w; entries = refl }
  passed-before many n p rest q w = absurd w
  passed-before more n p rest q w = record { before = []; mid = p; then = w; entries = refl }

  turn-before : (o : Occ) (n : String) (tag : List (ℕ → Bool)) (body next rest : ℕ → Trace) (p q : ℕ) → ((r : ℕ) → Whole (next r) q → Before (next r) rest q)
      → Whole (turn o n tag m body next rest p) q → Before (turn o n tag m body next rest p) rest q
  turn-before o n tag body next rest p q k w = go (turned o n tag body next rest p q w)
    where
      go : Turned o n tag body next rest p q → Before (turn o n tag m body next rest p) rest q
      go (enters e z x) =
          let a = split (body (skipped m p)) next q x in
          more-before (flat (body (skipped m p))) (ap flat z ∙ a.entries) (k a.mid a.then)
      go (passes z x) = more-before [] (ap flat z) (passed-before o n (skipped m p) rest q x)

  at_once : (rest : ℕ → Trace) (p q : ℕ) → Whole (rest p) q → Before (rest p) rest q
  at_once rest p q w = record { before = []; mid = p; then = w; entries = refl }

  module _ (n : String) (tag : List (ℕ → Bool)) (body rest : ℕ → Trace) where
    again-before : (i p q : ℕ) → Whole (again i n tag m body rest p) q → Before (again i n tag m body rest p) rest q
    again-before zero p q w = at_once rest p q w
    again-before (suc i) p q w = turn-before more n tag body (again i n tag m body rest) rest p q (λ r. again-before i r q) w

    follow-before : (o : Occ) (i p q : ℕ) → Whole (follow o i n tag m body rest p) q → Before (follow o i n tag m body rest p) rest q
    follow-before once i p q w = at_once rest p q w
    follow-before optional i p q w = at_once rest p q w
    follow-before many i p q w = again-before i p q w
    follow-before more i p q w = again-before i p q w

    pub child_before : (o : Occ) (p q : ℕ) → Whole (child o n tag m body rest p) q → Before (child o n tag m body rest p) rest q
    child_before o p q = turn-before o n tag body (follow o (length m) n tag m body rest) rest p q (λ r. follow-before o (length m) r q)

  -- ---- a group ends within the message
  closed-within : (n : String) (p q : ℕ) → Whole (closed n m p) q → q ≤ length m
  unfolding closed
  closed-within n p q = go (look (exactly (end_tag n)) (drop p m)) refl
    where
      go : (l : Look) → look (exactly (end_tag n)) (drop p m) ≡ l → Whole (on_look l (up_to (p + length (end_tag n))) (fault 3 (length m)) (fault 4 p)) q → q ≤ length m
      go Lies e w = omega (arith, text_fits (end_tag n) (drop p m) e, length-drop p m)
      go Cut e w = absurd w
      go Other e w = absurd w

  pub ends_within : (sh : Shape) (p q : ℕ) → Whole (trace sh m p) q → q ≤ length m
  ends_within (end n) p q w = closed-within n (skipped m p) q w
  ends_within (leaf o n k f rest) p q w =
      let b = child_before n (start_tag (is_amount k) n) (leaf_body o n k f m) (trace rest m) o p q w in
      ends_within rest b.mid q b.then
  ends_within (group o n inner rest) p q w =
      let b = child_before n (exactly (plain_tag n)) (group_body o n (trace inner m)) (trace rest m) o p q w in
      ends_within rest b.mid q b.then

-- ---- a field that is surely there
module _ (m : List ℕ) (g : Field) where
  abbrev many_at : List Entry → ℕ
  many_at l = length (values_at g (whats l))

  at_both : (a b : List Entry) → many_at (a ++ b) ≡ many_at a + many_at b
  at_both a b = ap (λ l. length (values_at g l)) (whats_append a b) ∙ (ap length (at_append g (whats a) (whats b)) ∙ length-append (values_at g (whats a)) (values_at g (whats b)))

  abbrev Has : (ℕ → Trace) → Type 0
  Has t = (p q : ℕ) → Whole (t p) q → 1 ≤ many_at (flat (t p))

  -- in the first of two parts, or in the second
  has_first : (t : Trace) (u : ℕ → Trace) (q : ℕ) → ((r : ℕ) → Whole t r → 1 ≤ many_at (flat t)) → Whole (and_then t u) q → 1 ≤ many_at (flat (and_then t u))
  has_first t u q h w =
      let s = split t u q w in
      rw s.entries (omega (arith, at_both (flat t) (flat (u s.mid)), h s.mid s.first))

  has-second : (t : Trace) (u : ℕ → Trace) (q : ℕ) → Has u → Whole (and_then t u) q → 1 ≤ many_at (flat (and_then t u))
  has-second t u q h w =
      let s = split t u q w in
      rw s.entries (omega (arith, at_both (flat t) (flat (u s.mid)), h s.mid q s.then))

  has-begun : (o : Occ) (n : String) (p : ℕ) (t : Trace) (q : ℕ) → (Whole t q → 1 ≤ many_at (flat t)) → Whole (begins o n p t) q → 1 ≤ many_at (flat (begins o n p t))
  has-begun once n p t q h w = h w
  has-begun optional n p t q h w = h w
  has-begun many n p t q h w = h w
  has-begun more n p t q h w = h w

  valued-has : (n : String) (k : Kind) (f : Field) → same_field f g ≡ true → Has (valued n k f m)
  unfolding valued
  valued-has n k f e p q = go (ltb (behind_value m p) (length m))
    where
      go : (b : Bool) → Whole (pick b (met (value k f (value_at m p) at p) (closed n m (behind_value m p))) (fault 3 (length m))) q
          → 1 ≤ many_at (flat (pick b (met (value k f (value_at m p) at p) (closed n m (behind_value m p))) (fault 3 (length m))))
      go true w = rw e (omega arith)
      go false w = absurd w

  child-has : (o : Occ) (n : String) (tag : List (ℕ → Bool)) (body rest : ℕ → Trace) (b c : Bool) → either (both (always o) b) c ≡ true → (b ≡ true → Has body) → (c ≡ true → Has rest)
      → Has (child o n tag m body rest)
  child-has o n tag body rest b c s h k p q w = go (either_true (both (always o) b) c s)
    where
      next : ℕ → Trace
      next = follow o (length m) n tag m body rest

      there : always o ≡ true → b ≡ true → Turned m o n tag body next rest p q → 1 ≤ many_at (flat (child o n tag m body rest p))
      there a y (enters e z x) = rw z (has_first (body (skipped m p)) next q (h y (skipped m p)) x)
      there a y (passes z x) = absurd (never_passed m o n (skipped m p) (rest (skipped m p)) q a x)

      go : (both (always o) b ≡ true) ⊎ (c ≡ true) → 1 ≤ many_at (flat (child o n tag m body rest p))
      go (inl y) =
          let z = both_true (always o) b y in
          there z.0 z.1 (turned m o n tag body next rest p q w)
      go (inr y) =
          let x = child_before m n tag body rest o p q w in
          rw x.entries (omega (arith, at_both x.before (flat (rest x.mid)), k y x.mid q x.then))

  pub surely : (sh : Shape) → sure g sh ≡ true → Has (trace sh m)
  surely (end n) e = λ p q w. never (cc)
  surely (leaf o n k f rest) e =
      child-has o n (start_tag (is_amount k) n) (leaf_body o n k f m) (trace rest m) (same_field f g) (sure g rest) e
      (λ h p q. let t = priced (is_amount k) m (p + length (start_tag (is_amount k) n)) in
      has-begun o n p (and_then (and_then t (valued n k f m)) (ends o)) q (has_first (and_then t (valued n k f m)) (ends o) q (λ r. has-second t (valued n k f m) r (valued-has n k f h))))
      (surely rest)
  surely (group o n inner rest) e =
      child-has o n (exactly (plain_tag n)) (group_body o n (trace inner m)) (trace rest m) (sure g inner) (sure g rest) e
      (λ h p q. let a = p + length (plain_tag n) in
      has-begun o n p (and_then (trace inner m a) (ends o)) q (has_first (trace inner m a) (ends o) q (surely inner h a)))
      (surely rest)
