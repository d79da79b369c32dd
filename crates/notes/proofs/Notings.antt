-- What each step of noting says, as the code finds it.
use mathlib.Core.Path.{◌≡◌, refl, ap}
use mathlib.Core.Bool.{Bool, true, false, beq}
use mathlib.Core.List.{List}
use Prim.Native.Nat.{ℕ, ◌<◌, ◌≤◌}
use borrow.Author.Tests.{lt-ltb, le-ltb}
use Rattle.std.specs.Prelude.{Result, Ok, Err, Option, None, Some}
use Rattle.std.specs.Result.{MatchResult, IsErrAnd}
use Rattle.std.specs.Option.{unwrap_or}
use Rattle.answers.specs.declared.Refusal.{Refusal}
use Rattle.answers.specs.declared.Refused.{Refused}
use Rattle.answers.specs.Refusals.{refusal_number}
use Rattle.answers.specs.Given.{told_of, given_any}
use Rattle.profile.specs.declared.Kind.{Kind}
use Rattle.profile.specs.declared.Field.{Field}
use Rattle.profile.specs.Limits.{most_items}
use Rattle.kinds.specs.Given.{kind_given}
use Rattle.text.specs.Truth.{pick}
use Rattle.reading.specs.Noted.{Reading, on, stop, onward, Ended}
use Rattle.reading.proofs.Flat.{never}
use Rattle.notes.specs.declared.Notes.{Notes}
use Rattle.notes.specs.declared.State.{State}
use Rattle.notes.specs.Notes.{on_given, with_item, with_type, with_start, kept, value_noted, item_noted, type_refusal, unsaid, said_by, type_noted}
use Rattle.notes.specs.Steps.{staying}

abbrev pub here : ℕ → Notes → Ended Notes
here p n = record { at = p; notes = n }

-- ---- an item begins
module _ (p : ℕ) (n : Notes) where
  pub begins : n.count < most_items → on (here p (with_item p n)) ≡ staying p (item_noted p n)
  unfolding item_noted
  begins h = rw (lt-ltb n.count most_items h)

  pub too_many_lem : most_items ≤ n.count → stop 12 p ≡ staying p (item_noted p n)
  unfolding item_noted
  too_many_lem h = rw (le-ltb n.count most_items h)

-- ---- the payment type
module _ (b : Bool) (p : ℕ) (n : Notes) where
  pub first_type : n.typed ≡ None → on (here p (with_type (Some b) n)) ≡ staying p (type_noted b p n)
  unfolding type_noted
  first_type h = rw h

  module _ (c : Bool) (h : n.typed ≡ Some c) where
    pub same_type : beq c b ≡ true → (r : ℕ) → r ≡ type_refusal b → stop r p ≡ staying p (type_noted b p n)
    unfolding type_noted
    same_type g r e = rw (e, h) (go c b g)
      where
        go : (c b : Bool) → beq c b ≡ true → stop (type_refusal b) p ≡ staying p (pick (unsaid (Some c) b) (on (with_type (Some c) n)) (stop (type_refusal b) p))
        go true true g = refl
        go true false g = never (cc)
        go false true g = never (cc)
        go false false g = refl

    pub other_type : beq c b ≡ false → on (here p n) ≡ staying p (type_noted b p n)
    unfolding type_noted
    other_type g = go c b g h
      where
        go : (c b : Bool) → beq c b ≡ false → n.typed ≡ Some c → on (here p n) ≡ staying p (pick (unsaid n.typed b) (on (with_type (said_by n.typed b) n)) (stop (type_refusal b) p))
        go true true g h = never (cc)
        go true false g h = rw h
        go false true g h = rw h
        go false false g h = never (cc)

-- ---- a value judged, and then noted: j is what its checker says, and m the same with the place
module _ (k : Kind) (f : Field) (v : List ℕ) (p : ℕ) (n : Notes) (j : Result (Option ℕ) Refusal) (e : given_any j ≡ kind_given k v)
    (m : Result (Option ℕ) Refused) (placed : MatchResult j (λ o. m ≡ Ok o) (λ w. IsErrAnd m (λ r. r ≡ record { why = w; at = p }))) where
  abbrev noting : ℕ → Reading Notes
  noting c = onward (kept k c p n) (λ u. on (with_start f p u))

  pub refused_kind : (r : Refused) → m ≡ Err r → stop (refusal_number r.why) r.at ≡ staying p (value_noted k f v p n)
  unfolding value_noted
  refused_kind r h = go j e placed
    where
      go : (j : Result (Option ℕ) Refusal) → given_any j ≡ kind_given k v → MatchResult j (λ o. m ≡ Ok o) (λ w. IsErrAnd m (λ r. r ≡ record { why = w; at = p }))
          → stop (refusal_number r.why) r.at ≡ staying p (on_given (kind_given k v) p noting)
      go (Ok o) e q = never (cc)
      go (Err w) e q = let z = rw h at q in rw (← e, z)

  module _ (o : Option ℕ) (h : m ≡ Ok o) where
    told : told_of o ≡ kind_given k v
    told = go j e placed
      where
        go : (j : Result (Option ℕ) Refusal) → given_any j ≡ kind_given k v → MatchResult j (λ o. m ≡ Ok o) (λ w. IsErrAnd m (λ r. r ≡ record { why = w; at = p }))
            → told_of o ≡ kind_given k v
        go (Ok u) e q = let z : u ≡ o = cc in rw (← z) e
        go (Err w) e q = absurd (rw h at q)

    module _ (c : ℕ) (w : c ≡ unwrap_or o 0) where
      goes : noting c ≡ value_noted k f v p n
      unfolding value_noted
      goes = rw (w, ← told) (go o)
        where
          go : (o : Option ℕ) → noting (unwrap_or o 0) ≡ on_given (told_of o) p noting
          go None = refl
          go (Some c) = refl

      pub kept_on : (s : State) → on (here s.at s.notes) ≡ staying p (kept k c p n) → on (here s.at (with_start f p s.notes)) ≡ staying p (value_noted k f v p n)
      kept_on s y = rw (← goes) (go (kept k c p n) y)
        where
          go : (x : Reading Notes) → on (here s.at s.notes) ≡ staying p x → on (here s.at (with_start f p s.notes)) ≡ staying p (onward x (λ u. on (with_start f p u)))
          go (on u) q = let d : here s.at s.notes ≡ here p u = cc in ap (λ (t : Ended Notes). on (here t.at (with_start f p t.notes))) d
          go (stop j r) q = never (cc)

      pub kept_stop : (i q : ℕ) → stop i q ≡ staying p (kept k c p n) → stop i q ≡ staying p (value_noted k f v p n)
      kept_stop i q y = rw (← goes) (go (kept k c p n) y)
        where
          go : (x : Reading Notes) → stop i q ≡ staying p x → stop i q ≡ staying p (onward x (λ u. on (with_start f p u)))
          go (on u) d = never (cc)
          go (stop i q) d = d
