-- Where the payment type is missing: what was read to its end has it unlike the header in each item, and what is continued without missing it stays so.
use mathlib.Core.Path.{◌≡◌, refl, ap, ◌∙◌}
use mathlib.Core.Bool.{Bool, true, false}
use mathlib.Core.List.{List, [], ◌∷◌, ◌++◌, append-nil, append_assoc}
use mathlib.Core.Logic.{inl, inr}
use Prim.Native.Nat.{ℕ, ◌+◌, ◌≤◌}
use native.Mathlib.Omega.{arith}
use Rattle.text.specs.Truth.{pick}
use Rattle.answers.specs.Given.{Given, yes, worth, refused as no}
use Rattle.profile.specs.Profile.{is_type}
use Rattle.reading.specs.Trace.{What, item_begins, item_ends, there, absent, value, Entry, Trace, met, up_to, fault}
use Rattle.reading.specs.Noted.{onward, stop, noted}
use Rattle.reading.specs.Rules.{types_in, ◌so◌, unlike_first, weighed}
use Rattle.reading.specs.Judged.{whats, or_refused, listed}
use Rattle.reading.proofs.Lists.{whats_append, types_append}
use Rattle.reading.proofs.Flat.{never, flat}
use Rattle.documents.specs.Document.{Each}
use Rattle.documents.specs.Holds.{Passes}
use Rattle.documents.proofs.Lists.{Unlike, Kept, kept_more}
use Rattle.documents.proofs.Typed.{lacking, lacking_append}
use Rattle.faults.specs.Refusals.{of_what_is_said}
use Rattle.faults.proofs.Numbers.{not_among}
use Rattle.faults.proofs.Extends.{Extends, also, done, wrong, ended}
use Rattle.faults.proofs.Weighs.{SaidIn, or_four, weighed_said, Misses}
use Rattle.faults.proofs.Causes.{MissesIn}

-- ---- the payment type, in a message that is read through to its end: in the items where not in the header
pub noted_kept : (t : Trace) (es : List Entry) (p : ℕ) → noted listed t es ≡ stop 3 p → Kept (whats es) → Kept (whats (es ++ flat t))
noted_kept (up_to q) es p e h = never (cc)
noted_kept (fault n q) es p e h = rw (append-nil es) h
noted_kept (met x t) es p e h = go (weighed (whats es) x.what) refl (weighed_said (whats es) x.what) (noted_kept t (es ++ (x ∷ [])) p) e
  where
    all : Kept (whats ((es ++ (x ∷ [])) ++ flat t)) → Kept (whats (es ++ (x ∷ flat t)))
    all k = rw (append_assoc es (x ∷ []) (flat t)) at k

    more : Passes (weighed (whats es) x.what) → Kept (whats (es ++ (x ∷ [])))
    more k = rw (whats_append es (x ∷ [])) (kept_more (whats es) x.what h k)

    go : (g : Given) → weighed (whats es) x.what ≡ g → SaidIn or_four g
        → (noted listed t (es ++ (x ∷ [])) ≡ stop 3 p → Kept (whats (es ++ (x ∷ []))) → Kept (whats ((es ++ (x ∷ [])) ++ flat t)))
        → onward (or_refused g x.place (es ++ (x ∷ []))) (noted listed t) ≡ stop 3 p → Kept (whats (es ++ (x ∷ flat t)))
    go yes w s k e = all (k e (more (rw w tt)))
    go (worth v) w s k e = all (k e (more (rw w tt)))
    go (no i) w s k e = absurd (not_among 3 or_four i refl s (cc))

-- what is missing is said of the header first, and then once more
abbrev pub Twice : List Bool → Type 0
Twice [] = ⊥
Twice (x ∷ l) = (x ≡ false) × (1 ≤ lacking l)

pub misses_twice : (t : Trace) (es : List Entry) → MissesIn t es → Twice (types_in (whats (es ++ flat t)))
misses_twice (up_to p) es f = absurd f
misses_twice (fault n q) es f = absurd f
misses_twice (met e t) es (inr f) = rw (append_assoc es (e ∷ []) (flat t)) at (misses_twice t (es ++ (e ∷ [])) f)
misses_twice (met e t) es (inl f) = go e.what refl f
  where
    r : List Bool
    r = types_in (whats (flat t))

    two : (i : Bool) (l : List Bool) → (i so unlike_first false l) ≡ false → Twice (l ++ (pick i (false ∷ []) [] ++ r))
    two false l f = never (cc)
    two true [] f = never (cc)
    two true (true ∷ l) f = never (cc)
    two true (false ∷ l) f = (refl, omega (arith, lacking_append l (false ∷ r)))

    go : (w : What) → e.what ≡ w → Misses (whats es) w → Twice (types_in (whats (es ++ (e ∷ flat t))))
    go item_begins z f = absurd f
    go item_ends z f = absurd f
    go (there n) z f = absurd f
    go (value k g v) z f = absurd f
    go (absent n) z f =
        let y : types_in (whats (es ++ (e ∷ flat t))) ≡ types_in (whats es) ++ (pick (is_type n) (false ∷ []) [] ++ r) =
        ap types_in (whats_append es (e ∷ flat t)) ∙ (types_append (whats es) (e.what ∷ whats (flat t)) ∙ rw z) in
        rw y (two (is_type n) (types_in (whats es)) f)

-- what is read of a message is read of it continued
pub record Onward (s t : Trace) : Type 0 where
  pub rest : List Entry
  pub is : flat t ≡ flat s ++ rest

pub onwards : {l a : ℕ} {s t : Trace} → Extends l a s t → Onward s t
onwards (also e h x) = let r = onwards x in record { rest = r.rest; is = ap (λ (l : List Entry). e ∷ l) r.is }
onwards (done p h g) = record { rest = []; is = refl }
onwards (wrong n q f z h) = record { rest = []; is = refl }
onwards {t = t} ended = record { rest = flat t; is = refl }

-- so nothing is missing that was not
pub none_missing : (a r : List Bool) → Unlike a → lacking (a ++ r) ≤ lacking a → Twice (a ++ r) → ⊥
none_missing [] [] u h w = w
none_missing [] (true ∷ r) u h w = never (let z = w.0 in cc)
none_missing [] (false ∷ r) u h w = never (omega (arith, h))
none_missing (true ∷ a) r u h w = never (let z = w.0 in cc)
none_missing (false ∷ a) r u h w = never (omega (arith, h, w.1, all_have a u))
  where
    all_have : (a : List Bool) → Each (λ y. y ≡ true) a → lacking a ≡ 0
    all_have [] e = refl
    all_have (true ∷ a) e = all_have a e.1
    all_have (false ∷ a) e = never (let z = e.0 in cc)
