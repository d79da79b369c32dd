-- A padded value stripped of the spaces behind it is the value, if it does not end in a space itself; and digits tell their number.
use mathlib.Core.Path.{◌≡◌, refl, sym, ap, ◌∙◌}
use mathlib.Core.Bool.{true, false}
use mathlib.Core.List.{List, [], ◌∷◌, ◌++◌}
use Prim.Native.Nat.{ℕ, zero, suc, ◌+◌, ◌-◌, ◌*◌, ◌/◌, ◌%◌, ◌^◌, ◌≤◌, ◌<◌}
use native.Mathlib.Omega.{arith}
use lib.ListN.{length, take, replicate, length-append}
use native.Mathlib.Nat.{pow-suc}
use Rattle.text.specs.Truth.{both, every, last}
use Rattle.text.proofs.Truths.{never}
use Rattle.words.specs.Collapsed.{space, up_to_last}
use Rattle.words.proofs.Ends.{last_stop}
use Rattle.postings.specs.Record.{padded, digits}
use Rattle.postings.proofs.Long.{length_padded}

-- a value that a field of n bytes holds as it is: it is no longer, and does not end in a space
abbrev pub Held : ℕ → List ℕ → Type 0
Held n v = (length v ≤ n) × (space (last v) ≡ false)

-- ---- the spaces behind a value are no matter of what stands before them
spaces_all : (k : ℕ) → every space (replicate k 32) ≡ true
spaces_all zero = refl
spaces_all (suc k) = spaces_all k

every_spaced : (k : ℕ) (v : List ℕ) → every space (v ++ replicate k 32) ≡ every space v
every_spaced k [] = spaces_all k
every_spaced k (c ∷ v) = ap (both (space c)) (every_spaced k v)

spaces_stripped : (k : ℕ) → up_to_last space (replicate k 32) ≡ []
spaces_stripped zero = refl
spaces_stripped (suc k) = rw (spaces_all k)

spaced_stripped : (k : ℕ) (v : List ℕ) → up_to_last space (v ++ replicate k 32) ≡ up_to_last space v
spaced_stripped k [] = spaces_stripped k
spaced_stripped k (c ∷ v) = rw (every_spaced k v, spaced_stripped k v)

spaces_taken : (n k : ℕ) → n ≤ k → take {A = ℕ} n (replicate k 32) ≡ replicate n 32
spaces_taken zero k h = refl
spaces_taken (suc n) zero h = never (omega arith)
spaces_taken (suc n) (suc k) h = ap (λ (l : List ℕ). 32 ∷ l) (spaces_taken n k (omega arith))

padded_is : (n k : ℕ) (v : List ℕ) → length v ≤ n → n ≤ k → take n (v ++ replicate k 32) ≡ v ++ replicate (n - length v) 32
padded_is n k [] h g =
    let z : n - 0 ≡ n = omega arith in
    rw z (spaces_taken n k g)
padded_is zero k (c ∷ v) h g = never (omega arith)
padded_is (suc n) k (c ∷ v) h g =
    let z : suc n - suc (length v) ≡ n - length v = omega arith in
    rw z (ap (λ (l : List ℕ). c ∷ l) (padded_is n k v (omega arith) (omega arith)))

pub padded_stripped : (n : ℕ) (v : List ℕ) → Held n v → up_to_last space (padded n v) ≡ v
unfolding padded
padded_stripped n v h = ap (up_to_last space) (padded_is n n v h.0 (omega arith)) ∙ (spaced_stripped (n - length v) v ∙ last_stop space v h.1)

-- so it is told from its padded bytes
pub padded_one : (n : ℕ) (v w : List ℕ) → Held n v → Held n w → padded n v ≡ padded n w → v ≡ w
padded_one n v w h g e = sym (padded_stripped n v h) ∙ (ap (up_to_last space) e ∙ padded_stripped n w g)

-- ---- two lists that begin, or end, in as many bytes are the same before and behind
pub same_fronts : {A : Type 0} (x y a b : List A) → length x ≡ length y → x ++ a ≡ y ++ b → (x ≡ y) × (a ≡ b)
same_fronts [] [] a b h e = (refl, e)
same_fronts [] (d ∷ y) a b h e = never (omega arith)
same_fronts (c ∷ x) [] a b h e = never (omega arith)
same_fronts (c ∷ x) (d ∷ y) a b h e =
    let z : c ≡ d = cc in
    let t : x ++ a ≡ y ++ b = cc in
    let r = same_fronts x y a b (omega arith) t in
    (rw (z, r.0), r.1)

pub same_ends : {A : Type 0} (x y a b : List A) → length a ≡ length b → x ++ a ≡ y ++ b → (x ≡ y) × (a ≡ b)
same_ends x y a b n e = same_fronts x y a b (omega (arith, ap length e, length-append x a, length-append y b, n)) e

-- so with a field before or behind the rest
pub first_field : (n : ℕ) (v w a b : List ℕ) → padded n v ++ a ≡ padded n w ++ b → (padded n v ≡ padded n w) × (a ≡ b)
first_field n v w a b = same_fronts (padded n v) (padded n w) a b (length_padded n v ∙ sym (length_padded n w))

pub last_field : (n : ℕ) (v w x y : List ℕ) → x ++ padded n v ≡ y ++ padded n w → (x ≡ y) × (padded n v ≡ padded n w)
last_field n v w x y = same_ends x y (padded n v) (padded n w) (length_padded n v ∙ sym (length_padded n w))

-- ---- as many digits as a number has at most
fewer : (c p : ℕ) → c < p * 10 → c / 10 < p
fewer c p h = omega arith

pub digits_one : (n c d : ℕ) → c < 10 ^ n → d < 10 ^ n → digits n c ≡ digits n d → c ≡ d
unfolding digits
digits_one zero c d h g e = omega arith
digits_one (suc n) c d h g e =
    let p = same_ends (digits n (c / 10)) (digits n (d / 10)) ((48 + c % 10) ∷ []) ((48 + d % 10) ∷ []) refl e in
    let q : 48 + c % 10 ≡ 48 + d % 10 = let z = p.1 in cc in
    let h' : c < 10 ^ n * 10 = rw (pow-suc 10 n) at h in
    let g' : d < 10 ^ n * 10 = rw (pow-suc 10 n) at g in
    let r : c / 10 ≡ d / 10 = digits_one n (c / 10) (d / 10) (fewer c (10 ^ n) h') (fewer d (10 ^ n) g') p.0 in
    omega (arith, q, r)
