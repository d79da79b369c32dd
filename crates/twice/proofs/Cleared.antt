-- The index cleared.
use Rattle.std.proofs.Common.{◌≡◌, ℕ, ◌<◌, ◌≤◌, List, ◌++◌, length, drop, take, replicate, ap, ◌∙◌, arith, length-append, length-drop, le-leb, length-take-le}
use borrow.Author.Tests.{lt-leb}
use lib.ListN.{length-replicate, get_or-replicate, get_or-append}
use Rattle.twice.specs.Twice.{least_index, cleared}
use Rattle.twice.specs.Engine.{AllFree}

-- the slots cleared are free
pub cleared_free : (index x : List ℕ) → 16384 ≤ length index → x ≡ replicate (length (take 16384 index)) 0
    → (least_index ≤ length (x ++ drop 16384 index)) × AllFree (x ++ drop 16384 index)
unfolding least_index
cleared_free index x h e =
    let n : length (take 16384 index) ≡ 16384 = length-take-le 16384 index h in
    let l : length x ≡ 16384 = ap length e ∙ length-replicate {A = ℕ} _ 0 ∙ n in (
      omega (arith, length-append x (drop 16384 index)),
      λ slot g. get_or-append x (drop 16384 index) 0 slot (omega arith) ∙ rw e (get_or-replicate (length (take 16384 index)) slot 0 0 (omega arith)),
    )

-- and the index is as long
pub cleared_long : (index x y : List ℕ) → 16384 ≤ length index → length x ≡ length (take 16384 index) → length y ≡ length (x ++ drop 16384 index) → length y ≡ length index
cleared_long index x y h e f = omega (arith, length-append x (drop 16384 index), length-drop 16384 index, length-take-le 16384 index h)

-- all cleared at the end, whatever the search wrote
pub cleared_whole : (index y : List ℕ) (n : ℕ) → n ≡ length index → least_index ≤ length index → y ≡ replicate n 0 → y ≡ cleared index
unfolding cleared
cleared_whole index y n l h e = e ∙ rw (l, le-leb least_index (length index) h)

pub cleared_not : (index : List ℕ) → length index < least_index → index ≡ cleared index
unfolding cleared
cleared_not index h = rw (lt-leb least_index (length index) h)
