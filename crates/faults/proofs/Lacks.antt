-- How often the payment type is found missing in what a trace tells.
use mathlib.Core.Path.{◌≡◌, refl, ap, ◌∙◌}
use mathlib.Core.Bool.{Bool, true, false}
use mathlib.Core.List.{List, [], ◌∷◌, ◌++◌}
use Prim.Native.Nat.{ℕ, ◌+◌, ◌≤◌}
use Prim.Native.String.{String}
use native.Mathlib.Omega.{arith}
use Rattle.text.specs.Truth.{pick}
use Rattle.profile.specs.Tree.{Occ, once, optional, many, more}
use Rattle.profile.specs.Profile.{is_type}
use Rattle.reading.specs.Trace.{What, there, absent, Entry, Trace, met, up_to, fault, and_then, begins, ends, missing}
use Rattle.reading.specs.Rules.{of_type, types_in}
use Rattle.reading.specs.Judged.{whats}
use Rattle.reading.proofs.Flat.{flat, Whole}
use Rattle.documents.proofs.Typed.{lacking, lacking_append}

abbrev pub lack : What → ℕ
lack w = lacking (of_type w)

abbrev pub Lack : Trace → ℕ
Lack (met e t) = lack e.what + Lack t
Lack (up_to p) = 0
Lack (fault n q) = 0

pub lack_flat : (t : Trace) → Lack t ≡ lacking (types_in (whats (flat t)))
lack_flat (met e t) = omega (arith, lack_flat t, lacking_append (of_type e.what) (types_in (whats (flat t))))
lack_flat (up_to p) = refl
lack_flat (fault n q) = refl

-- ---- one part after another
pub lack_then : (t : Trace) (f : ℕ → Trace) (q : ℕ) → Whole t q → Lack (and_then t f) ≡ Lack t + Lack (f q)
lack_then (met e t) f q w = omega (arith, lack_then t f q w)
lack_then (up_to p) f q w = rw w (omega arith)
lack_then (fault n p) f q w = absurd w

pub lack_first : (t : Trace) (f : ℕ → Trace) → Lack t ≤ Lack (and_then t f)
lack_first (met e t) f = omega (arith, lack_first t f)
lack_first (up_to p) f = omega arith
lack_first (fault n q) f = omega arith

-- ---- an element's beginning and end
lack_there : (n : String) → lack (there n) ≡ 0
lack_there n = go (is_type n)
  where
    go : (b : Bool) → lacking (pick b (true ∷ []) []) ≡ 0
    go true = refl
    go false = refl

pub lack_begins : (o : Occ) (n : String) (p : ℕ) (t : Trace) → Lack (begins o n p t) ≡ Lack t
lack_begins once n p t = refl
lack_begins optional n p t = omega (arith, lack_there n)
lack_begins many n p t = omega arith
lack_begins more n p t = omega arith

pub lack_ends : (o : Occ) (p : ℕ) → Lack (ends o p) ≡ 0
lack_ends once p = refl
lack_ends optional p = refl
lack_ends many p = refl
lack_ends more p = refl

-- ---- a trace that breaks off at once
pub data Broken : Trace → Type 0 where
  at_once : (n q : ℕ) → Broken (fault n q)

pub broken_then : (t : Trace) (f : ℕ → Trace) → Broken t → Broken (and_then t f)
broken_then t f (at_once n q) = at_once n q

pub broken_lack : (t : Trace) → Broken t → Lack t ≡ 0
broken_lack t (at_once n q) = refl

-- so an element that holds nothing else
pub body_lack : (o : Occ) (n : String) (p : ℕ) (t : Trace) (f : ℕ → Trace) → Broken t → Lack (and_then (begins o n p (and_then t (ends o))) f) ≡ 0
body_lack o n p t f h = go o (broken_lack (and_then (and_then t (ends o)) f) (broken_then (and_then t (ends o)) f (broken_then t (ends o) h)))
  where
    go : (i : Occ) → Lack (and_then (and_then t (ends o)) f) ≡ 0 → Lack (and_then (begins i n p (and_then t (ends o))) f) ≡ 0
    go once e = e
    go optional e = omega (arith, e, lack_there n)
    go many e = omega (arith, e)
    go more e = omega (arith, e)
