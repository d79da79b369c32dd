-- What is noted keeps the state good, and a refusal within the message.
use mathlib.Core.Path.{◌≡◌, refl}
use mathlib.Core.Bool.{Bool, true, false}
use mathlib.Core.List.{List}
use Prim.Native.Nat.{ℕ, ◌≤◌}
use native.Mathlib.Omega.{arith}
use borrow.Author.Tests.{ltb-true}
use lib.Dec.{ltb}
use lib.ListN.{length}
use Rattle.text.specs.Truth.{pick}
use Rattle.answers.specs.Given.{Given, yes, worth, refused}
use Rattle.codes.specs.declared.Element.{Element}
use Rattle.codes.specs.declared.Element.TheVariants.{SttlmMtd, SvcLvl, LclInstrm, SeqTp, ChrgBr, Prtry}
use Rattle.profile.specs.declared.Kind.{Kind}
use Rattle.profile.specs.declared.Kind.TheVariants.{Plain, Count, Total, Amount, Code}
use Rattle.profile.specs.declared.Field.{Field}
use Rattle.profile.specs.Limits.{most_items}
use Rattle.kinds.specs.Given.{kind_given}
use Rattle.reading.specs.Noted.{Reading, on, stop, onward, Ended}
use Rattle.notes.specs.declared.Notes.{Notes}
use Rattle.notes.specs.Notes.{on_given, with_item, with_type, with_service, with_start, may_follow, service_kept, coded, kept, value_noted, added_up, item_noted, type_refusal, unsaid, said_by, type_noted}
use Rattle.notes.specs.Steps.{staying, Good, Fine}
use Rattle.notes.proofs.Notings.{here}

-- a later place is later than an earlier one
pub later : (m : List ℕ) (p q : ℕ) → p ≤ q → (r : Reading (Ended Notes)) → Fine m q r → Fine m p r
later m p q h (on t) f = (f.0, omega arith)
later m p q h (stop n k) f = f

-- the same notes at another place within the message
pub good_at : (m : List ℕ) (s : Ended Notes) (p : ℕ) → Good m s → p ≤ length m → Good m (here p s.notes)
good_at m s p g h = record { small = g.small; within = h; counted = g.counted }

-- the running sum does not matter
pub added_good : (m : List ℕ) (k : Kind) (p : ℕ) (n : Notes) → Good m (here p n) → Good m (here p (added_up k n))
added_good m (Plain s) p n g = g
added_good m Count p n g = g
added_good m Total p n g = g
added_good m Amount p n g = record { small = g.small; within = g.within; counted = g.counted }
added_good m (Code e) p n g = g

module _ (m : List ℕ) (p : ℕ) (n : Notes) (g : Good m (here p n)) where
  abbrev Stays : Reading Notes → Type 0
  Stays x = Fine m p (staying p x)

  stays : (u : Notes) → u.count ≡ n.count → Stays (on u)
  stays u c = (record { small = g.small; within = g.within; counted = omega (arith, g.counted) }, omega arith)

  service-stays : (i : ℕ) → Stays (service_kept i p n)
  unfolding service_kept
  service-stays i = go (may_follow n.service i)
    where
      go : (b : Bool) → Stays (pick b (on (with_service i n)) (stop 11 p))
      go true = stays (with_service i n) refl
      go false = g.within

  coded-stays : (e : Element) (i : ℕ) → Stays (coded e i p n)
  coded-stays LclInstrm i = service-stays i
  coded-stays SttlmMtd i = stays n refl
  coded-stays SvcLvl i = stays n refl
  coded-stays SeqTp i = stays n refl
  coded-stays ChrgBr i = stays n refl
  coded-stays Prtry i = stays n refl

  kept-stays : (k : Kind) (c : ℕ) → Stays (kept k c p n)
  kept-stays (Plain s) c = stays n refl
  kept-stays Count c = stays _ refl
  kept-stays Total c = stays _ refl
  kept-stays Amount c = stays _ refl
  kept-stays (Code e) c = coded-stays e c

  pub value_fine : (k : Kind) (f : Field) (v : List ℕ) → Stays (value_noted k f v p n)
  unfolding value_noted
  value_fine k f v = go (kind_given k v)
    where
      then : (x : Reading Notes) → Stays x → Stays (onward x (λ u. on (with_start f p u)))
      then (on u) h = (record { small = g.small; within = g.within; counted = h.0.counted }, omega arith)
      then (stop i q) h = h

      go : (x : Given) → Stays (on_given x p (λ c. onward (kept k c p n) (λ u. on (with_start f p u))))
      go yes = then (kept k 0 p n) (kept-stays k 0)
      go (worth c) = then (kept k c p n) (kept-stays k c)
      go (refused i) = g.within

  pub begun_fine : Stays (item_noted p n)
  unfolding item_noted
  begun_fine = go (ltb n.count most_items) refl
    where
      go : (b : Bool) → ltb n.count most_items ≡ b → Stays (pick b (on (with_item p n)) (stop 12 p))
      go true e = (record { small = g.small; within = g.within; counted = omega (arith, ltb-true n.count most_items e) }, omega arith)
      go false e = g.within

  pub type_fine : (b : Bool) → Stays (type_noted b p n)
  unfolding type_noted
  type_fine b = go (unsaid n.typed b)
    where
      go : (x : Bool) → Stays (pick x (on (with_type (said_by n.typed b) n)) (stop (type_refusal b) p))
      go true = stays (with_type (said_by n.typed b) n) refl
      go false = g.within
