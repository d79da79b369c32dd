-- The table with one bulk more, and why no sum of it overflows.
use mathlib.Core.Path.{◌≡◌, refl, sym, ap, ◌∙◌}
use mathlib.Core.Bool.{Bool, true, false}
use mathlib.Core.List.{List, [], ◌∷◌, ◌++◌}
use Prim.Native.Nat.{ℕ, zero, suc, ◌+◌, ◌*◌, ◌≤◌, ◌<◌}
use native.Mathlib.Numerals.{add-one}
use native.Mathlib.Omega.{arith}
use borrow.Author.Tests.{eq-eqb, ne_eqb, eqb-true}
use lib.Dec.{eqb}
use lib.ListN.{length, take, get_or, set}
use lib.Seq.{take-suc, length-take-le}
use Rattle.text.specs.Truth.{pick}
use Rattle.text.proofs.Truths.{never}
use Rattle.accounts.specs.Lengths.{in_one}
use Rattle.items.specs.Sums.{most_sum}
use Rattle.sums.specs.declared.Lot.{Lot}
use Rattle.book.specs.Book.{most_open}
use Rattle.play.specs.Table.{cell, row, table_of}
use Rattle.play.specs.Code.{Within, most_cell, Light, AllLight, added_row, with_lot}
use Rattle.play.proofs.Runs.{none}

-- ---- one bulk more
cell_in : (s q : ℕ) (l : List Lot) (x : Lot) → eqb x.service s ≡ true → cell s q (l ++ (x ∷ [])) ≡ cell s q l + get_or x.sums q 0
cell_in s q [] x e = rw e (omega arith)
cell_in s q (y ∷ l) x e = omega (arith, cell_in s q l x e)

cell_out : (s q : ℕ) (l : List Lot) (x : Lot) → eqb x.service s ≡ false → cell s q (l ++ (x ∷ [])) ≡ cell s q l
cell_out s q [] x e = rw e (omega arith)
cell_out s q (y ∷ l) x e = omega (arith, cell_out s q l x e)

row_in_lem : (s : ℕ) (l : List Lot) (x : Lot) → eqb x.service s ≡ true → row s (l ++ (x ∷ [])) ≡ added_row (row s l) x.sums
row_in_lem s l x e = rw (cell_in s 0 l x e, cell_in s 1 l x e, cell_in s 2 l x e, cell_in s 3 l x e)

row_out : (s : ℕ) (l : List Lot) (x : Lot) → eqb x.service s ≡ false → row s (l ++ (x ∷ [])) ≡ row s l
row_out s l x e = rw (cell_out s 0 l x e, cell_out s 1 l x e, cell_out s 2 l x e, cell_out s 3 l x e)

table_more : (l : List Lot) (x : Lot) → with_lot (table_of l) x ≡ table_of (l ++ (x ∷ []))
unfolding table_of
table_more l x = go (eqb x.service 1) refl (eqb x.service 2) refl
  where
    go : (b : Bool) → eqb x.service 1 ≡ b → (c : Bool) → eqb x.service 2 ≡ c
        → pick b (added_row (row 1 l) x.sums ∷ row 2 l ∷ []) (pick c (row 1 l ∷ added_row (row 2 l) x.sums ∷ []) (row 1 l ∷ row 2 l ∷ []))
        ≡ row 1 (l ++ (x ∷ [])) ∷ row 2 (l ++ (x ∷ [])) ∷ []
    go true e true f = never (omega (arith, eqb-true x.service 1 e, eqb-true x.service 2 f))
    go true e false f = rw (row_in_lem 1 l x e, row_out 2 l x f)
    go false e true f = rw (row_out 1 l x e, row_in_lem 2 l x f)
    go false e false f = rw (row_out 1 l x e, row_out 2 l x f)

-- what the code adds
module _ (t : List (List ℕ)) (x : Lot) where
  pub in_core : x.service ≡ 1 → (r : List ℕ) → r ≡ added_row (get_or t 0 []) x.sums → set t 0 r ≡ with_lot t x
  in_core e r f = rw (f, eq-eqb x.service 1 e)

  module _ (n : x.service ≡ 1 → ⊥) where
    pub in_b2b : x.service ≡ 2 → (r : List ℕ) → r ≡ added_row (get_or t 1 []) x.sums → set t 1 r ≡ with_lot t x
    in_b2b e r f = rw (f, ne_eqb x.service 1 n, eq-eqb x.service 2 e)

    pub in_none : (x.service ≡ 2 → ⊥) → t ≡ with_lot t x
    in_none m = rw (ne_eqb x.service 1 n, ne_eqb x.service 2 m)

-- ---- no sum overflows
cell_most : (s q : ℕ) → ((x : Lot) → Light x → get_or x.sums q 0 ≤ most_sum) → (l : List Lot) → AllLight l → cell s q l ≤ length l * most_sum
cell_most s q f [] h = omega arith
cell_most s q f (x ∷ l) h = go (eqb x.service s) (f x h.0) (cell_most s q f l h.1)
  where
    go : (b : Bool) → get_or x.sums q 0 ≤ most_sum → cell s q l ≤ length l * most_sum → pick b (get_or x.sums q 0) 0 + cell s q l ≤ suc (length l) * most_sum
    go true g k = omega arith
    go false g k = omega arith

row_most : (s : ℕ) (l : List Lot) → AllLight l → length l ≤ most_open → Within most_cell (row s l)
row_most s l h g =
    record {
      first = omega (arith, cell_most s 0 (λ x k. k.first) l h);
      second = omega (arith, cell_most s 1 (λ x k. k.second) l h);
      third = omega (arith, cell_most s 2 (λ x k. k.third) l h);
      fourth = omega (arith, cell_most s 3 (λ x k. k.fourth) l h);
    }

light_at : (i : ℕ) (l : List Lot) → AllLight l → i < length l → Light (get_or l i none)
light_at i [] h b = never (omega arith)
light_at zero (x ∷ l) h b = h.0
light_at (suc i) (x ∷ l) h b = light_at i l h.1 (omega arith)

light_first : (i : ℕ) (l : List Lot) → AllLight l → AllLight (take i l)
light_first zero l h = tt
light_first (suc i) [] h = tt
light_first (suc i) (x ∷ l) h = (h.0, light_first i l h.1)

-- ---- the loop: so many lots are added up
module _ (lots : List Lot) (i : ℕ) (t : List (List ℕ)) (is : t ≡ table_of (take i lots)) (below : i < length lots) where
  pub lot_fits : length lots ≤ most_open → AllLight lots → Within most_cell (get_or t 0 []) × Within most_cell (get_or t 1 []) × Light (get_or lots i none)
  unfolding table_of
  lot_fits few light =
      let h = light_first i lots light in
      let n : length (take i lots) ≤ most_open = omega (arith, length-take-le i lots (omega arith)) in
      rw is (row_most 1 (take i lots) h n, row_most 2 (take i lots) h n, light_at i lots light below)

  pub lot_more : (r : List (List ℕ)) → r ≡ with_lot t (get_or lots i none) → r ≡ table_of (take (i + 1) lots)
  lot_more r e =
      e
      ∙ (ap (λ (u : List (List ℕ)). with_lot u (get_or lots i none)) is
      ∙ (table_more (take i lots) (get_or lots i none) ∙ ap table_of (rw (add-one i) (sym (take-suc lots i none below)))))

pub flat_table : (t : List (List ℕ)) (l : List Lot) → t ≡ table_of l
    → get_or (get_or t 0 []) 0 0 ∷ get_or (get_or t 0 []) 1 0 ∷ get_or (get_or t 0 []) 2 0 ∷ get_or (get_or t 0 []) 3 0 ∷ get_or (get_or t 1 []) 0 0 ∷ get_or (get_or t 1 []) 1 0 ∷
    get_or (get_or t 1 []) 2 0
    ∷ get_or (get_or t 1 []) 3 0
    ∷ []
    ≡ in_one (table_of l)
unfolding table_of
flat_table t l e = rw e
