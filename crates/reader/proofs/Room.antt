-- Room for the amounts that are due: what each step of the reader leaves of it.
use mathlib.Core.Path.{◌≡◌, refl, sym, ◌∙◌}
use mathlib.Core.Bool.{Bool, true}
use mathlib.Core.List.{List, [], ◌∷◌, ◌++◌}
use Prim.Native.Nat.{ℕ, zero, suc, ◌+◌}
use Prim.Native.String.{String}
use native.Mathlib.Omega.{arith}
use lib.ListN.{get_or}
use Rattle.text.specs.Truth.{both}
use Rattle.text.proofs.Truths.{both_true}
use Rattle.profile.specs.declared.Version.{Version}
use Rattle.profile.specs.Tree.{Occ, Shape, end, leaf, group}
use Rattle.profile.specs.Profile.{profile}
use Rattle.reading.specs.Trace.{Trace, up_to, missing, priced}
use Rattle.reading.specs.Noted.{on, Ended}
use Rattle.items.specs.Sums.{of_amount, of_others, an_amount, amounts_in}
use Rattle.items.proofs.Room as law
use Rattle.items.proofs.Room.{fair, fairly, profile_fair, profile_none}
use Rattle.table.specs.declared.Occ as code
use Rattle.table.specs.declared.What.TheVariants.{Value}
use Rattle.table.specs.declared.Row.{Row}
use Rattle.text.proofs.Truths.{never}
use Rattle.profile.specs.declared.Kind.{Kind}
use Rattle.profile.specs.declared.Field.{Field}
use Rattle.table.specs.Table.{rows_of, occ_of, repeats, mark_name, amount_due, width, due, item_row, Element}
use Rattle.table.proofs.Tied.{Tied, NoValue, group_no_value, same_value}
use Rattle.table.proofs.Rows.{due_first, due_item_lem}
use Rattle.notes.specs.declared.Notes.{Notes}
use Rattle.notes.specs.Notes.{fresh, in_notes}
use Rattle.notes.specs.Steps.{reads, Room}
use Rattle.notes.proofs.Notings.{here}
use Rattle.notes.proofs.Room.{adds}
use Rattle.reader.specs.Reader.{entered, occ_in, element_in, rest_in, amounts_of}

abbrev sum : Notes → ℕ
sum n = n.sum

abbrev count : Notes → ℕ
count n = n.count

abbrev Leaves : ℕ → Trace → Notes → Type 0
Leaves = law.Leaves an_amount in_notes sum count adds

-- what is left where reading goes on
left : (y : ℕ) (t : Trace) (n : Notes) (u : Ended Notes) → Leaves y t n → on u ≡ reads t n → Room y u.notes
left y t n u h e = law.ended_room an_amount in_notes sum count adds y t n u h (sym e)

-- ---- of every tree in the table an item has one amount at most
abbrev Fair : List Shape → Type 0
Fair l = (k : ℕ) → fairly an_amount (get_or l k (end "")) ≡ true

fair_more : (sh : Shape) (l : List Shape) → fairly an_amount sh ≡ true → Fair l → Fair (sh ∷ l)
fair_more sh l e h zero = e
fair_more sh l e h (suc k) = h k

fair_append : (a b : List Shape) → Fair a → Fair b → Fair (a ++ b)
fair_append [] b g h k = h k
fair_append (s ∷ a) b g h zero = g 0
fair_append (s ∷ a) b g h (suc k) = fair_append a b (λ i. g (suc i)) h k

rows_fair : (sh : Shape) → fairly an_amount sh ≡ true → Fair (rows_of sh)
rows_fair (end n) e = fair_more (end n) [] e (λ k. refl)
rows_fair (leaf o n k f rest) e = fair_more (leaf o n k f rest) (rows_of rest) e (rows_fair rest (both_true (fair o (of_amount k)) (fairly an_amount rest) e).1)
rows_fair (group o n inner rest) e =
    let b = both_true (fair o (amounts_in inner)) (both (fairly an_amount inner) (fairly an_amount rest)) e in
    let c = both_true (fairly an_amount inner) (fairly an_amount rest) b.1 in
    fair_more (group o n inner rest) (rows_of inner ++ rows_of rest) e (fair_append (rows_of inner) (rows_of rest) (rows_fair inner c.0) (rows_fair rest c.1))

pub due_fair : (v : Version) (k : ℕ) → fairly an_amount (due v k) ≡ true
unfolding due
due_fair v = rows_fair (profile v) (profile_fair v)

again : (o : code.Occ) → repeats o ≡ true → (x : ℕ) → of_others (occ_of o) x ≡ 0
again code.TheVariants.Once h x = never (cc)
again code.TheVariants.Optional h x = never (cc)
again code.TheVariants.Many h x = refl
again code.TheVariants.More h x = refl

-- ---- what is due is due in its first element or behind it
pub split : (sh : Shape) → amounts_in sh ≡ amounts_of sh + amounts_in (rest_in sh)
split (end n) = omega arith
split (leaf o n k f rest) = refl
split (group o n inner rest) = refl

-- an element that may come again has its own
pub item_own : (sh : Shape) (i : code.Occ) → repeats i ≡ true → occ_of i ≡ occ_in sh → amounts_of sh ≡ 0
item_own (end n) i h e = refl
item_own (leaf o n k f rest) i h e = rw (← e) (again i h (of_amount k))
item_own (group o n inner rest) i h e = rw (← e) (again i h (amounts_in inner))

-- ---- each step
pub missing_room : (o : Occ) (s : String) (p : ℕ) (n : Notes) (u : Ended Notes) → on u ≡ reads (missing o s p (up_to p)) n → (y : ℕ) → Room y n → Room y u.notes
missing_room o s p n u e y r =
    left y (missing o s p (up_to p)) n u (law.leaves_missing an_amount in_notes sum count adds y y o s p (up_to p) n r (λ w q. q)) e

module _ (m : List ℕ) where
  pub element_room : (sh : Shape) → fairly an_amount sh ≡ true → (p : ℕ) (n : Notes) (u : Ended Notes) → on u ≡ reads (element_in sh m p) n → (y : ℕ) → Room (amounts_of sh + y) n → Room y u.notes
  element_room (end a) e p n u q y r = left y (up_to p) n u (omega (arith, r)) q
  element_room (leaf o a k f rest) e p n u q y r =
      left y (element_in (leaf o a k f rest) m p) n u
      (law.leaves_leaf an_amount in_notes sum count adds m y o a k f (both_true (fair o (of_amount k)) (fairly an_amount rest) e).0 p n r) q
  element_room (group o a inner rest) e p n u q y r =
      let b = both_true (fair o (amounts_in inner)) (both (fairly an_amount inner) (fairly an_amount rest)) e in
      left y (element_in (group o a inner rest) m p) n u
      (law.leaves_group an_amount in_notes sum count adds m y o a inner b.0 (law.leaves_trace an_amount in_notes sum count adds m inner (both_true (fairly an_amount inner) (fairly an_amount rest) b.1).0 y) p n r) q

  -- past a start tag there is room for what the element holds
  entered-room : (o : Occ) (a : String) (b : Bool) (w p : ℕ) (n : Notes) (u : Ended Notes) → on u ≡ reads (entered o a b w m p) n
      → (x : ℕ) → fair o x ≡ true → Room (of_others o x) n → Room x u.notes
  entered-room o a b w p n u q x f r =
      left x (entered o a b w m p) n u
      (law.leaves_begins an_amount in_notes sum count adds x 0 x o a p (priced b m (p + w)) n f (omega (arith, r))
      (λ s z. law.leaves_priced an_amount in_notes sum count adds m x b (p + w) s (omega (arith, z)))) q

  module _ (v : Version) (k : ℕ) (r : Row) (p : ℕ) (n : Notes) (u : Ended Notes)
      (q : on u ≡ reads (entered (occ_of r.occ) (mark_name r.typed) (amount_due r.what) (width r) m p) n) where
    pub group_room : (sh : Shape) → Tied v k sh r → Element sh → NoValue r → fairly an_amount sh ≡ true → Room (amounts_of sh) n → Room (amounts_in (due v (k + 1))) u.notes
    group_room (end a) t x z e g = absurd x
    group_room (leaf o a kd f rest) t x z e g = absurd (z kd f t.what)
    group_room (group o a inner rest) t x z e g =
        rw t.first
        (entered-room (occ_of r.occ) (mark_name r.typed) (amount_due r.what) (width r) p n u q (amounts_in inner)
        (rw t.occ (both_true (fair o (amounts_in inner)) (both (fairly an_amount inner) (fairly an_amount rest)) e).0) (rw t.occ g))

    pub value_room : (c : Kind) (d : Field) → r.what ≡ Value c d → (sh : Shape) → Tied v k sh r → Element sh → fairly an_amount sh ≡ true → Room (amounts_of sh) n → Room (of_amount c) u.notes
    value_room c d z (end a) t x e g = absurd x
    value_room c d z (leaf o a kd f rest) t x e g =
        rw (same_value c kd d f (sym z ∙ t.what)).0
        (entered-room (occ_of r.occ) (mark_name r.typed) (amount_due r.what) (width r) p n u q (of_amount kd)
        (rw t.occ (both_true (fair o (of_amount kd)) (fairly an_amount rest) e).0) (rw t.occ g))
    value_room c d z (group o a inner rest) t x e g = absurd (group_no_value c d (sym t.what ∙ z))

-- ---- at the start, of the profile or of one item, no amount is due
pub profile_room : (v : Version) (p : ℕ) (s : Ended Notes) → s ≡ here p fresh → Room (amounts_in (due v 0)) s.notes
profile_room v p s e = rw (e, due_first v, profile_none v) (omega arith)

pub item_room : (v : Version) (k : ℕ) → k ≡ item_row v → (p q : ℕ) (s u : Ended Notes) → s ≡ here p fresh → u ≡ here q s.notes → Room (amounts_of (due v k)) u.notes
item_room v k i p q s u e f = rw (f, e, i, due_item_lem v) (omega arith)
