-- What every entry is that reading by a tree meets.
use mathlib.Core.Path.{◌≡◌, refl}
use mathlib.Core.Bool.{Bool, true, false}
use mathlib.Core.List.{List, [], ◌∷◌}
use Prim.Native.Nat.{ℕ, zero, suc, ◌+◌, ◌<◌}
use Prim.Native.String.{String}
use borrow.Author.Tests.{ltb-true}
use lib.Dec.{ltb}
use lib.ListN.{length, drop}
use Rattle.text.specs.Truth.{pick}
use Rattle.tags.specs.declared.Look.{Look}
use Rattle.tags.specs.declared.Look.TheVariants.{Whole, Cut, Other}
use Rattle.tags.specs.Tags.{skipped, look, on_look, exactly, end_tag, plain_tag, start_tag, currency_place, in_euro}
use Rattle.tags.specs.Values.{value_at, behind_value}
use Rattle.profile.specs.declared.Kind.{Kind}
use Rattle.profile.specs.declared.Field.{Field}
use Rattle.profile.specs.Kinds.{is_amount}
use Rattle.profile.specs.Tree.{Occ, once, optional, many, more, Shape, end, leaf, group}
use Rattle.reading.specs.Trace.{absent, value, Entry, ◌at◌, Trace, met, up_to, fault, and_then, begins, ends, priced, closed, valued, leaf_body, group_body, missing, turn, again, follow, child, trace}
use Rattle.reading.proofs.Flat.{flat}

abbrev pub All : (Entry → Type 0) → Trace → Type 0
All P (met e t) = P e × All P t
All P (up_to p) = Unit {0}
All P (fault n q) = Unit {0}

abbrev pub AllIn : {A : Type 0} → (A → Type 0) → List A → Type 0
AllIn P [] = Unit {0}
AllIn P (e ∷ l) = P e × AllIn P l

pub all_flat : (P : Entry → Type 0) (t : Trace) → All P t → AllIn P (flat t)
all_flat P (met e t) h = (h.0, all_flat P t h.1)
all_flat P (up_to p) h = tt
all_flat P (fault n q) h = tt

pub all_then : (P : Entry → Type 0) (t : Trace) (g : ℕ → Trace) → All P t → ((p : ℕ) → All P (g p)) → All P (and_then t g)
all_then P (met e t) g h k = (h.0, all_then P t g h.1 k)
all_then P (up_to p) g h k = k p
all_then P (fault n q) g h k = tt

-- every element may come as often as A says, and one of a value has a kind, a field and a name as B says
abbrev pub Comes : (Occ → Type 0) → (Kind → Field → String → Type 0) → Shape → Type 0
Comes A B (end n) = Unit {0}
Comes A B (leaf o n k f rest) = A o × B k f n × Comes A B rest
Comes A B (group o n inner rest) = A o × Comes A B inner × Comes A B rest

-- a value is met behind its start tag, and before a `<`
module _ (m : List ℕ) (P : Entry → Type 0) (A : Occ → Type 0) (B : Kind → Field → String → Type 0)
    (a-value : (n : String) (k : Kind) (f : Field) → B k f n → (p q : ℕ) → q ≡ p + length (start_tag (is_amount k) n) → look (start_tag (is_amount k) n) (drop p m) ≡ Whole
    → behind_value m q < length m → P (value k f (value_at m q) at q))
    (a-begin : (o : Occ) → A o → (n : String) (p : ℕ) (t : Trace) → All P t → All P (begins o n p t))
    (an-absent : (n : String) (p : ℕ) → P (absent n at p))
    (an-end : (o : Occ) → A o → (p : ℕ) → All P (ends o p)) where
  closed_all : (n : String) (p : ℕ) → All P (closed n m p)
  unfolding closed
  closed_all n p = go (look (exactly (end_tag n)) (drop p m))
    where
      go : (l : Look) → All P (on_look l (up_to (p + length (end_tag n))) (fault 3 (length m)) (fault 4 p))
      go Whole = tt
      go Cut = tt
      go Other = tt

  valued-all : (n : String) (k : Kind) (f : Field) → B k f n → (p q : ℕ) → q ≡ p + length (start_tag (is_amount k) n) → look (start_tag (is_amount k) n) (drop p m) ≡ Whole
      → All P (and_then (priced (is_amount k) m q) (valued n k f m))
  unfolding valued
  valued-all n k f h p q e w = first (is_amount k)
    where
      held : (b : Bool) → ltb (behind_value m q) (length m) ≡ b → All P (pick b (met (value k f (value_at m q) at q) (closed n m (behind_value m q))) (fault 3 (length m)))
      held true l = (a-value n k f h p q e w (ltb-true (behind_value m q) (length m) l), closed_all n (behind_value m q))
      held false l = tt

      euro : (b : Bool) → All P (and_then (pick b (up_to q) (fault 6 (currency_place q))) (valued n k f m))
      euro true = held (ltb (behind_value m q) (length m)) refl
      euro false = tt

      first : (b : Bool) → All P (and_then (priced b m q) (valued n k f m))
      first true = euro (in_euro m q)
      first false = held (ltb (behind_value m q) (length m)) refl

  missing-all : (o : Occ) (n : String) (p : ℕ) (t : Trace) → All P t → All P (missing o n p t)
  missing-all once n p t h = tt
  missing-all optional n p t h = (an-absent n p, h)
  missing-all many n p t h = tt
  missing-all more n p t h = h

  module _ (n : String) (tag : List (ℕ → Bool)) (body rest : ℕ → Trace) (b : (p : ℕ) → look tag (drop p m) ≡ Whole → All P (body p)) (z : (p : ℕ) → All P (rest p)) where
    turn-all : (o : Occ) (next : ℕ → Trace) → ((p : ℕ) → All P (next p)) → (p : ℕ) → All P (turn o n tag m body next rest p)
    turn-all o next h p = go (look tag (drop (skipped m p) m)) refl
      where
        go : (l : Look) → look tag (drop (skipped m p) m) ≡ l → All P (on_look l (and_then (body (skipped m p)) next) (fault 3 (length m)) (missing o n (skipped m p) (rest (skipped m p))))
        go Whole e = all_then P (body (skipped m p)) next (b (skipped m p) e) h
        go Cut e = tt
        go Other e = missing-all o n (skipped m p) (rest (skipped m p)) (z (skipped m p))

    again-all : (i : ℕ) (p : ℕ) → All P (again i n tag m body rest p)
    again-all zero p = z p
    again-all (suc i) p = turn-all more (again i n tag m body rest) (again-all i) p

    follow-all : (o : Occ) (i : ℕ) (p : ℕ) → All P (follow o i n tag m body rest p)
    follow-all once i p = z p
    follow-all optional i p = z p
    follow-all many i p = again-all i p
    follow-all more i p = again-all i p

    child-all : (o : Occ) (p : ℕ) → All P (child o n tag m body rest p)
    child-all o = turn-all o (follow o (length m) n tag m body rest) (follow-all o (length m))

  pub trace_all : (sh : Shape) → Comes A B sh → (p : ℕ) → All P (trace sh m p)
  trace_all (end n) c = λ p. closed_all n (skipped m p)
  trace_all (leaf o n k f rest) c =
      child-all n (start_tag (is_amount k) n) (leaf_body o n k f m) (trace rest m)
      (λ p w. let q = p + length (start_tag (is_amount k) n) in
      a-begin o c.0 n p (and_then (and_then (priced (is_amount k) m q) (valued n k f m)) (ends o))
      (all_then P (and_then (priced (is_amount k) m q) (valued n k f m)) (ends o) (valued-all n k f c.1 p q refl w) (an-end o c.0)))
      (trace_all rest c.2) o
  trace_all (group o n inner rest) c =
      child-all n (exactly (plain_tag n)) (group_body o n (trace inner m)) (trace rest m)
      (λ p w. let q = p + length (plain_tag n) in
      a-begin o c.0 n p (and_then (trace inner m q) (ends o)) (all_then P (trace inner m q) (ends o) (trace_all inner c.1 q) (an-end o c.0)))
      (trace_all rest c.2) o
