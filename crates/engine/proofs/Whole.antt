-- The whole profile, or one item, read from a place on, where the message is not too long.
use mathlib.Core.Path.{◌≡◌, refl, sym, ap, ◌∙◌}
use mathlib.Core.Bool.{true, false}
use mathlib.Core.List.{List}
use Prim.Native.Nat.{ℕ, ◌+◌, ◌≤◌, ◌<◌}
use native.Mathlib.Omega.{arith}
use borrow.Author.Tests.{le-leb, lt-leb}
use lib.ListN.{length, drop}
use Rattle.tags.specs.declared.Look.{Look}
use Rattle.tags.specs.declared.Look.TheVariants.{Whole, Cut, Other}
use Rattle.tags.specs.Tags.{skipped, look, on_look}
use Rattle.profile.specs.declared.Version.{Version}
use Rattle.profile.specs.Limits.{most_bytes}
use Rattle.profile.specs.Profile.{profile}
use Rattle.reading.specs.Trace.{Trace, met, up_to, fault, and_then, trace}
use Rattle.reading.specs.Noted.{Reading, stop, Ended}
use Rattle.items.specs.Alone.{item_tag, item_body, alone}
use Rattle.notes.specs.declared.Notes.{Notes}
use Rattle.notes.specs.Notes.{fresh}
use Rattle.notes.specs.Steps.{reads, Good, Fine}
use Rattle.notes.proofs.Notings.{here}
use Rattle.notes.proofs.Stays.{later}
use Rattle.engine.specs.Engine.{placed, fits, message_at, places_at, item_at}
use Rattle.engine.proofs.Steps.{passed_on}

abbrev Found : Type 0
Found = Reading (Ended Notes)

module _ (v : Version) (m : List ℕ) (p : ℕ) where
  long : most_bytes < length m → fits m p ≡ false
  long h = rw (lt-leb (length m) most_bytes h)

  far : length m ≤ most_bytes → length m < p → fits m p ≡ false
  far h g = rw (le-leb (length m) most_bytes h, lt-leb p (length m) g)

  -- what is shown of `message` and of `item`
  abbrev pub Told : (Version → List ℕ → ℕ → Found) → Found → Type 0
  Told f x = (x ≡ f v m p) × Fine m 0 x

  pub message_long : most_bytes < length m → (x : Found) → x ≡ stop 1 0 → Told message_at x
  unfolding message_at
  message_long h x e = passed_on m 0 x (stop 1 0) (message_at v m p) e (rw (long h)) (omega arith)

  pub message_far : length m ≤ most_bytes → length m < p → (x : Found) → x ≡ stop 1 0 → Told message_at x
  unfolding message_at
  message_far h g x e = passed_on m 0 x (stop 1 0) (message_at v m p) e (rw (far h g)) (omega arith)

  -- and of where TxIds begin
  pub places_long : most_bytes < length m → (l : List ℕ) → l ≡ places_at v m p l
  unfolding places_at
  places_long h l = rw (long h)

  pub places_far : length m ≤ most_bytes → length m < p → (l : List ℕ) → l ≡ places_at v m p l
  unfolding places_at
  places_far h g l = rw (far h g)

  pub item_long : most_bytes < length m → (x : Found) → x ≡ stop 1 0 → Told item_at x
  unfolding item_at
  item_long h x e = passed_on m 0 x (stop 1 0) (item_at v m p) e (rw (long h)) (omega arith)

  pub item_far : length m ≤ most_bytes → length m < p → (x : Found) → x ≡ stop 1 0 → Told item_at x
  unfolding item_at
  item_far h g x e = passed_on m 0 x (stop 1 0) (item_at v m p) e (rw (far h g)) (omega arith)

  module _ (h : length m ≤ most_bytes) (g : p ≤ length m) (s : Ended Notes) (e : s ≡ here p fresh) where
    near : fits m p ≡ true
    near = rw (le-leb (length m) most_bytes h, le-leb p (length m) g)

    pub begins : Good m s
    begins = rw e (record { small = h; within = g; counted = omega arith })

    pub message_is : (x : Found) → x ≡ reads (trace (profile v) m s.at) s.notes → Fine m s.at x → Told message_at x
    unfolding message_at
    message_is x w f = (w ∙ rw (near, e), later m 0 s.at (omega arith) x f)

    pub places_are : (l y : List ℕ) → y ≡ placed (trace (profile v) m s.at) s.notes l → y ≡ places_at v m p l
    unfolding places_at
    places_are l y w = w ∙ rw (near, e)

    -- ---- an item, whose start tag is due after white space
    module _ (q : Ended Notes) (at : q ≡ here (skipped m s.at) s.notes) (good : Good m q) (w : Look) (lies : w ≡ look item_tag (drop q.at m)) where
      then_up_to : (t : Trace) → and_then t up_to ≡ t
      then_up_to (met e t) = ap (met e) (then_up_to t)
      then_up_to (up_to p) = refl
      then_up_to (fault n q) = refl

      abbrev chosen : Ended Notes → Look → Found
      chosen q Whole = reads (item_body v m q.at) q.notes
      chosen q Cut = stop 3 (length m)
      chosen q Other = stop 4 q.at

      is_at : q ≡ here (skipped m p) fresh
      is_at = at ∙ rw e

      here-is : item_at v m p ≡ chosen q w
      unfolding item_at alone
      here-is = rw near (go (look item_tag (drop (skipped m p) m)) ∙ sym (ap (chosen q) lies ∙ ap (λ (u : Ended Notes). chosen u (look item_tag (drop u.at m))) is_at))
        where
          go : (l : Look) → reads (on_look l (and_then (item_body v m (skipped m p)) up_to) (fault 3 (length m)) (fault 4 (skipped m p))) fresh
              ≡ chosen (here (skipped m p) fresh) l
          go Whole = ap (λ (t : Trace). reads t fresh) (then_up_to (item_body v m (skipped m p)))
          go Cut = refl
          go Other = refl

      pub item_enters : w ≡ Whole → (x : Found) → x ≡ reads (item_body v m q.at) q.notes → Fine m (q.at + 1) x → Told item_at x
      item_enters c x y f = (y ∙ sym (here-is ∙ ap (chosen q) c), later m 0 (q.at + 1) (omega arith) x f)

      pub item_cut : w ≡ Cut → (x : Found) → x ≡ stop 3 (length m) → Told item_at x
      item_cut c x y = passed_on m 0 x (stop 3 (length m)) (item_at v m p) y (sym (here-is ∙ ap (chosen q) c)) (omega arith)

      pub item_other : w ≡ Other → (x : Found) → x ≡ stop 4 q.at → Told item_at x
      item_other c x y = passed_on m 0 x (stop 4 q.at) (item_at v m p) y (sym (here-is ∙ ap (chosen q) c)) good.within
