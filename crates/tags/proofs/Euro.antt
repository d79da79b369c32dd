-- Whether EUR lies at a place, as the code asks.
use mathlib.Core.Path.{◌≡◌}
use mathlib.Core.Bool.{false}
use mathlib.Core.List.{List}
use Prim.Native.Nat.{ℕ, ◌<◌, ◌≤◌}
use native.Mathlib.Omega.{arith}
use lib.Dec.{eqb}
use lib.ListN.{length, drop, drop_of_length-le}
use Rattle.std.specs.List.{starts_with}
use Rattle.text.specs.Quoted.{bytes}
use Rattle.tags.specs.Tags.{currency_place, in_euro}
use Rattle.tags.proofs.Looks.{whole_asked}

-- from is the currency's place
module _ (m : List ℕ) (p from : ℕ) (e : from ≡ currency_place p) where
  pub past_end : length m < from → false ≡ in_euro m p
  unfolding in_euro
  past_end h = let g : length m ≤ from = omega arith in rw (← e, drop_of_length-le m g)

  pub as_seen : (s : List ℕ) → s ≡ drop from m → starts_with eqb s (bytes "EUR") ≡ in_euro m p
  unfolding in_euro
  as_seen s d = rw (whole_asked (bytes "EUR") s, d, e)
