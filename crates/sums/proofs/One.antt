-- Two answers that the contract of `weigh` allows are equal: the verdict, every byte of the key, and every number of what is added to the table.
use mathlib.Core.Path.{◌≡◌, sym, ◌∙◌}
use mathlib.Core.List.{List}
use Prim.Native.Nat.{ℕ}
use Rattle.std.specs.Prelude.{Result, Ok, Err}
use Rattle.answers.specs.declared.Refused.{Refused}
use Rattle.reading.proofs.Flat.{never}
use Rattle.keys.specs.declared.Keyed.{Keyed}
use Rattle.keys.specs.Indexed.{keyed_with}
use Rattle.keys.proofs.One.{one_key}
use Rattle.sums.specs.declared.Weighed.{Weighed}
use Rattle.sums.specs.Sums.{lot_with}
use Rattle.sums.specs.Engine.{keyed_in, lot_in}

pub one_weighed : (index m : List ℕ) (a b : Result Weighed Refused) → keyed_in a ≡ keyed_with index m → lot_in a ≡ lot_with index m → keyed_in b ≡ keyed_with index m → lot_in b ≡ lot_with index m → a ≡ b
one_weighed index m (Ok a) (Ok b) p q r s =
    let k : ◌≡◌ {A = Result Keyed Refused} (Ok a.keyed) (Ok b.keyed) = one_key (Ok a.keyed) (Ok b.keyed) (keyed_with index m) p r in
    let y : a.keyed ≡ b.keyed = cc in
    let l : a.lot ≡ b.lot = q ∙ sym s in
    rw (y, l)
one_weighed index m (Err x) (Err y) p q r s =
    let k : ◌≡◌ {A = Result Keyed Refused} (Err x) (Err y) = one_key (Err x) (Err y) (keyed_with index m) p r in
    let z : x ≡ y = cc in
    rw z
one_weighed index m (Ok a) (Err y) p q r s = let k = one_key (Ok a.keyed) (Err y) (keyed_with index m) p r in never (cc)
one_weighed index m (Err x) (Ok b) p q r s = let k = one_key (Err x) (Ok b.keyed) (keyed_with index m) p r in never (cc)
