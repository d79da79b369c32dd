-- An item that stands in a message, read again by the engine: it goes to its end, and the notes are the sum of what it holds.
use mathlib.Core.Path.{◌≡◌, refl, sym, ap, ◌∙◌}
use mathlib.Core.Option.{Option, none, some}
use mathlib.Core.List.{List, []}
use Prim.Native.Nat.{ℕ, ◌≤◌}
use borrow.Author.Tests.{le-leb}
use lib.ListN.{length}
use Rattle.profile.specs.declared.Version.{Version}
use Rattle.profile.specs.Limits.{most_bytes}
use Rattle.reading.specs.Noted.{Reading, on, Ended, noted}
use Rattle.reading.specs.Items.{Item}
use Rattle.reading.specs.Trace.{Entry, Trace}
use Rattle.reading.specs.Judged.{listed}
use Rattle.reading.proofs.Flat.{never, same_end}
use Rattle.reading.proofs.More.{lenient, read_on, ids_of, second_in, twice_or, twice_or_lem}
use Rattle.reading.proofs.Simulates.{Alike, going, stopped, Beside, simulates}
use Rattle.items.specs.Alone.{alone}
use Rattle.items.specs.Chain.{around, Stands}
use Rattle.notes.specs.declared.Notes.{Notes}
use Rattle.notes.specs.Notes.{fresh, in_notes}
use Rattle.notes.specs.Steps.{reads}
use Rattle.notes.proofs.Sums.{Summed, summed_fresh, sums}
use Rattle.engine.specs.Engine.{item_at}

-- what passes with the rule of 24 passes without it
leniently : (t : Trace) (r : Ended (List Entry)) → noted listed t [] ≡ on r → noted lenient t [] ≡ on r
leniently t r e = go (second_in [] (ids_of (read_on t []))) (sym (twice_or_lem t) ∙ e)
  where
    go : (o : Option ℕ) → twice_or o (noted lenient t []) ≡ on r → noted lenient t [] ≡ on r
    go none z = z
    go (some p) z = never (cc)

pub record Again (v : Version) (m : List ℕ) (p : ℕ) (x : Item) (s : Stands v m p x) : Type 0 where
  pub state : Ended Notes
  pub is : item_at v m p ≡ on state
  pub to : state.at ≡ x.to
  pub summed : Summed (around x s.inner) state.notes

pub stands_again : (v : Version) (m : List ℕ) (p : ℕ) (x : Item) → length m ≤ most_bytes → p ≤ length m → (s : Stands v m p x) → Again v m p x s
unfolding item_at
stands_again v m p x small h s =
    go (noted lenient (alone v m p) []) (reads (alone v m p) fresh) refl (simulates Summed lenient in_notes sums (alone v m p) [] fresh summed_fresh) (leniently (alone v m p) end s.alone)
  where
    end : Ended (List Entry)
    end = record { at = x.to; notes = around x s.inner }

    near : item_at v m p ≡ reads (alone v m p) fresh
    near = rw (le-leb (length m) most_bytes small, le-leb p (length m) h)

    go : (a : Reading (Ended (List Entry))) (b : Reading (Ended Notes)) → reads (alone v m p) fresh ≡ b → Alike (Beside Summed) a b → a ≡ on end → Again v m p x s
    go a b f (going {s = d} {t = u} r) e =
        let z : d ≡ end = same_end d end e in
        record {
          state = u;
          is = near ∙ f;
          to = sym r.at ∙ ap (λ (w : Ended (List Entry)). w.at) z;
          summed = rw (← ap (λ (w : Ended (List Entry)). w.notes) z) r.notes;
        }
    go a b f stopped e = never (cc)
