-- The numbers of kinds, fields, occurrences and names name what they are the numbers of.
use mathlib.Core.Path.{◌≡◌, refl, sym}
use mathlib.Core.Bool.{Bool, true, false}
use mathlib.Core.List.{List}
use Prim.Native.Nat.{ℕ, zero, suc, ◌+◌, ◌-◌, ◌≤◌, ◌<◌}
use native.Mathlib.Omega.{arith}
use lib.ListN.{length, get_or, get_or-eq_default}
use Rattle.profile.specs.declared.Kind.TheVariants.{Plain}
use Rattle.profile.specs.declared.Simple.TheVariants.{Reference}
use Rattle.profile.specs.declared.Field.TheVariants as field
use Rattle.profile.specs.Listed.{fields}
use Rattle.profile.specs.Tree.{Occ, once, optional, many, more}
use Rattle.profile.specs.Profile.{is_type}
use Rattle.table.specs.Table.{kinds, kind_of, field_of, occ_of, as_occ, mark_name}

-- ---- a number that is none of the m numbers behind b lies outside a list of their entries
abbrev None : ℕ → ℕ → ℕ → Type 0
None b n zero = Unit {0}
None b n (suc m) = None b n m × (n ≡ suc (b + m) → ⊥)

beyond : (b n m : ℕ) → None b n m → b < n → b + m < n
beyond b n zero h g = omega arith
beyond b n (suc m) h g = let i : b + m < n = beyond b n m h.0 g in let z : n ≡ suc (b + m) → ⊥ = h.1 in omega arith

outside : {A : Type 0} (l : List A) (d : A) → get_or l 0 d ≡ d → (n : ℕ) → (0 < n → length l ≤ n) → d ≡ get_or l n d
outside l d e zero h = sym e
outside l d e (suc n) h = sym (get_or-eq_default l d (h (omega arith)))

pub other_kind : (n : ℕ) → None 2 n 18 → Plain Reference ≡ kind_of n
unfolding kind_of
other_kind n h = outside kinds (Plain Reference) refl (n - 2) (λ g. omega (arith, beyond 2 n 18 h (omega arith)))

pub other_field : (n : ℕ) → None 0 n 26 → field.MsgId ≡ field_of n
unfolding field_of
other_field n h = outside fields field.MsgId refl n (λ g. omega (arith, beyond 0 n 26 h g))

-- ---- how often an element may come, and its name by its mark
pub occ_of_lem : (o : Occ) → occ_of (as_occ o) ≡ o
occ_of_lem once = refl
occ_of_lem optional = refl
occ_of_lem many = refl
occ_of_lem more = refl

pub marked : (b : Bool) → is_type (mark_name b) ≡ b
unfolding is_type
marked true = refl
marked false = refl
