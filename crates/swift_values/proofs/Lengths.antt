-- How long an IBAN is, by the two letters of its country.
use mathlib.Core.Path.{◌≡◌, refl}
use mathlib.Core.List.{[], ◌∷◌}
use Prim.Native.Nat.{ℕ, ◌≤◌}
use Rattle.accounts.specs.Lengths.{lengths, length_of}
use Rattle.swift_values.specs.Blocks.{Long}

-- ---- the lengths by country
pub long_of : (x y n a b : ℕ) → a ≡ x → b ≡ y → 15 ≤ n → n ≤ 34 → length_of (x ∷ y ∷ []) ≡ n → Long (a ∷ b ∷ []) n
long_of x y n a b e f lo hi l = record { is = rw (e, f) l; least = lo; most = hi }

pub ad_long : length_of (65 ∷ 68 ∷ []) ≡ 24
unfolding length_of lengths
ad_long = refl

pub at_long : length_of (65 ∷ 84 ∷ []) ≡ 20
unfolding length_of lengths
at_long = refl

pub be_long : length_of (66 ∷ 69 ∷ []) ≡ 16
unfolding length_of lengths
be_long = refl

pub bg_long : length_of (66 ∷ 71 ∷ []) ≡ 22
unfolding length_of lengths
bg_long = refl

pub ch_long : length_of (67 ∷ 72 ∷ []) ≡ 21
unfolding length_of lengths
ch_long = refl

pub cy_long : length_of (67 ∷ 89 ∷ []) ≡ 28
unfolding length_of lengths
cy_long = refl

pub cz_long : length_of (67 ∷ 90 ∷ []) ≡ 24
unfolding length_of lengths
cz_long = refl

pub de_long : length_of (68 ∷ 69 ∷ []) ≡ 22
unfolding length_of lengths
de_long = refl

pub dk_long : length_of (68 ∷ 75 ∷ []) ≡ 18
unfolding length_of lengths
dk_long = refl

pub ee_long : length_of (69 ∷ 69 ∷ []) ≡ 20
unfolding length_of lengths
ee_long = refl

pub es_long : length_of (69 ∷ 83 ∷ []) ≡ 24
unfolding length_of lengths
es_long = refl

pub fi_long : length_of (70 ∷ 73 ∷ []) ≡ 18
unfolding length_of lengths
fi_long = refl

pub fr_long : length_of (70 ∷ 82 ∷ []) ≡ 27
unfolding length_of lengths
fr_long = refl

pub gb_long : length_of (71 ∷ 66 ∷ []) ≡ 22
unfolding length_of lengths
gb_long = refl

pub gi_long : length_of (71 ∷ 73 ∷ []) ≡ 23
unfolding length_of lengths
gi_long = refl

pub gr_long : length_of (71 ∷ 82 ∷ []) ≡ 27
unfolding length_of lengths
gr_long = refl

pub hr_long : length_of (72 ∷ 82 ∷ []) ≡ 21
unfolding length_of lengths
hr_long = refl

pub hu_long : length_of (72 ∷ 85 ∷ []) ≡ 28
unfolding length_of lengths
hu_long = refl

pub ie_long : length_of (73 ∷ 69 ∷ []) ≡ 22
unfolding length_of lengths
ie_long = refl

pub is_long : length_of (73 ∷ 83 ∷ []) ≡ 26
unfolding length_of lengths
is_long = refl

pub it_long : length_of (73 ∷ 84 ∷ []) ≡ 27
unfolding length_of lengths
it_long = refl

pub li_long : length_of (76 ∷ 73 ∷ []) ≡ 21
unfolding length_of lengths
li_long = refl

pub lt_long : length_of (76 ∷ 84 ∷ []) ≡ 20
unfolding length_of lengths
lt_long = refl

pub lu_long : length_of (76 ∷ 85 ∷ []) ≡ 20
unfolding length_of lengths
lu_long = refl

pub lv_long : length_of (76 ∷ 86 ∷ []) ≡ 21
unfolding length_of lengths
lv_long = refl

pub mc_long : length_of (77 ∷ 67 ∷ []) ≡ 27
unfolding length_of lengths
mc_long = refl

pub mt_long : length_of (77 ∷ 84 ∷ []) ≡ 31
unfolding length_of lengths
mt_long = refl

pub nl_long : length_of (78 ∷ 76 ∷ []) ≡ 18
unfolding length_of lengths
nl_long = refl

pub no_long : length_of (78 ∷ 79 ∷ []) ≡ 15
unfolding length_of lengths
no_long = refl

pub pl_long : length_of (80 ∷ 76 ∷ []) ≡ 28
unfolding length_of lengths
pl_long = refl

pub pt_long : length_of (80 ∷ 84 ∷ []) ≡ 25
unfolding length_of lengths
pt_long = refl

pub ro_long : length_of (82 ∷ 79 ∷ []) ≡ 24
unfolding length_of lengths
ro_long = refl

pub se_long : length_of (83 ∷ 69 ∷ []) ≡ 24
unfolding length_of lengths
se_long = refl

pub si_long : length_of (83 ∷ 73 ∷ []) ≡ 19
unfolding length_of lengths
si_long = refl

pub sk_long : length_of (83 ∷ 75 ∷ []) ≡ 24
unfolding length_of lengths
sk_long = refl

pub sm_long : length_of (83 ∷ 77 ∷ []) ≡ 27
unfolding length_of lengths
sm_long = refl

pub va_long : length_of (86 ∷ 65 ∷ []) ≡ 22
unfolding length_of lengths
va_long = refl
