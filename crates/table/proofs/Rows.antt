-- The law of the table, over every tree: each row is tied to the shape that is due there, and keeps within the table.
use mathlib.Core.Path.{◌≡◌, refl, sym, ap, ◌∙◌}
use mathlib.Core.Bool.{Bool, true, false}
use mathlib.Core.List.{List, [], ◌∷◌, ◌++◌, map, append-nil, append_assoc}
use Prim.Native.Nat.{ℕ, zero, suc, ◌+◌, ◌-◌, ◌<◌}
use Prim.Native.String.{String}
use native.Mathlib.Numerals.{add-one}
use native.Mathlib.Nat.{le_of_suc-le-suc}
use native.Mathlib.Omega.{arith}
use lib.ListN.{length, take, drop, get_or, replicate, length-append, get_or-map}
use lib.Seq.{drop-drop, take-append_seam, drop-append_seam}
use Rattle.text.specs.Truth.{part}
use Rattle.text.specs.Quoted.{byte}
use Rattle.text.proofs.Truths.{never}
use Rattle.tags.specs.Tags.{exactly, end_tag, plain_tag}
use Rattle.tags.proofs.Looks.{exactly_length}
use Rattle.profile.specs.declared.Version.{Version}
use Rattle.profile.specs.declared.Version.TheVariants.{V02, V08}
use Rattle.profile.specs.Kinds.{is_amount}
use Rattle.profile.specs.Tree.{Shape, end, leaf, group, many}
use Rattle.profile.specs.Profile.{bulk_name, item_name, in_header, in_item, is_type, profile}
use Rattle.table.specs.declared.Row.{Row}
use Rattle.table.specs.Table.{rows_of, start_text, tags_of, numbers_at, numbers_of, kind_of, field_of, row_of, row_in, opens_by, closes_by, room, tags, table, due, many_rows, item_row, Element}
use Rattle.table.proofs.Numbers.{occ_of_lem, marked}
use Rattle.table.proofs.Opens.{opens_by_lem, width_by}
use Rattle.table.proofs.Tied.{TiedBy, KeptBy, Tied, RowKept}

-- ---- a fact of every row, the first of which is row k
abbrev All : (ℕ → Row → Type 0) → ℕ → List Row → Type 0
All P k [] = Unit {0}
All P k (r ∷ l) = P k r × All P (suc k) l

module _ (P : ℕ → Row → Type 0) where
  all_append : (a b : List Row) (k m : ℕ) → m ≡ k + length a → All P k a → All P m b → All P k (a ++ b)
  all_append [] b k m e x y = let z : m ≡ k = omega arith in rw z at y
  all_append (r ∷ a) b k m e x y = (x.0, all_append a b (suc k) m (omega arith) x.1 y)

  all_at : (l : List Row) (k j m : ℕ) (d : Row) → m ≡ k + j → All P k l → j < length l → P m (get_or l j d)
  all_at [] k j m d e x h = never (omega arith)
  all_at (r ∷ l) k zero m d e x h = let z : m ≡ k = omega arith in rw z x.0
  all_at (r ∷ l) k (suc j) m d e x h = all_at l (suc k) j m d (omega arith) x.1 (le_of_suc-le-suc h)

-- ---- how many rows a tree has, and that it stands in its own first row
same_length : {A B : Type 0} (a b : List A) (x y : List B) → length a ≡ length x → length b ≡ length y → length (a ++ b) ≡ length (x ++ y)
same_length a b x y e f = omega (arith, length-append a b, length-append x y)

many_numbers : (sh : Shape) (k p : ℕ) → length (numbers_of k p sh) ≡ length (rows_of sh)
many_numbers (end n) k p = refl
many_numbers (leaf o n kd f rest) k p = ap suc (many_numbers rest (suc k) (p + length (start_text (is_amount kd) n) + length (end_tag n)))
many_numbers (group o n inner rest) k p =
    let q = p + length (plain_tag n) in
    let m = suc k + length (rows_of inner) in
    ap suc
    (same_length (numbers_of (suc k) q inner) (numbers_of m (q + length (tags_of inner)) rest) (rows_of inner) (rows_of rest) (many_numbers inner (suc k) q)
    (many_numbers rest m (q + length (tags_of inner))))

abbrev later : Shape → List Shape
later (end n) = []
later (leaf o n kd f rest) = rows_of rest
later (group o n inner rest) = rows_of inner ++ rows_of rest

first : (sh : Shape) → rows_of sh ≡ sh ∷ later sh
first (end n) = refl
first (leaf o n kd f rest) = refl
first (group o n inner rest) = refl

-- ---- what stands at a place of a list
record Stands {A : Type 0} (l : List A) (k : ℕ) (x : A) (behind : List A) (d : A) : Type 0 where
  here : get_or l k d ≡ x
  within : k < length l
  next : drop (suc k) l ≡ behind

stands : {A : Type 0} (l : List A) (k : ℕ) (x : A) (r : List A) (d : A) → drop k l ≡ x ∷ r → Stands l k x r d
stands [] zero x r d e = never (cc)
stands [] (suc k) x r d e = never (cc)
stands (y ∷ l) zero x r d e = record { here = cc; within = omega arith; next = cc }
stands (y ∷ l) (suc k) x r d e =
    let s = stands l k x r d e in
    record { here = s.here; within = omega (arith, s.within); next = s.next }

record Parts (t : List ℕ) (p : ℕ) (a b c : List ℕ) : Type 0 where
  one : part p (length a) t ≡ a
  from : drop (p + length a) t ≡ b ++ c
  two : part (p + length a) (length b) t ≡ b
  on : drop (p + length a + length b) t ≡ c

parts : (t : List ℕ) (p : ℕ) (a b c : List ℕ) → drop p t ≡ a ++ (b ++ c) → Parts t p a b c
parts t p a b c e =
    let f : drop (p + length a) t ≡ b ++ c = sym (drop-drop (length a) p t) ∙ ap (drop (length a)) e ∙ drop-append_seam a (b ++ c) in
    record {
      one = ap (take (length a)) e ∙ take-append_seam a (b ++ c);
      from = f;
      two = ap (take (length b)) f ∙ take-append_seam b c;
      on = sym (drop-drop (length b) (p + length a) t) ∙ ap (drop (length b)) f ∙ drop-append_seam b c;
    }

some_tag : (b : Bool) (n : String) → 0 < length (start_text b n)
some_tag true n = omega arith
some_tag false n = omega arith

some_rows : (sh : Shape) → 0 < length (rows_of sh)
some_rows sh = rw (first sh) (omega arith)

-- ---- a tree's own table, and its tags with more behind them
module _ (S : Shape) (more : List ℕ) where
  abbrev text : List ℕ
  text = tags_of S ++ more

  abbrev due_in : ℕ → Shape
  due_in k = get_or (rows_of S) k (end "")

  abbrev Right : ℕ → Row → Type 0
  Right k r = TiedBy (text) due_in (length (rows_of S)) k (due_in k) r × KeptBy (text) due_in (length (rows_of S)) r

  -- sh is due from row k on, and its tags stand from p on
  record Due (k p : ℕ) (sh : Shape) : Type 0 where
    after : List Shape
    rows : drop k (rows_of S) ≡ rows_of sh ++ after
    behind : List ℕ
    wording : drop p (text) ≡ tags_of sh ++ behind

  whole : Due 0 0 S
  whole = record { after = []; rows = sym (append-nil (rows_of S)); behind = more; wording = refl }

  standing : (k p : ℕ) (sh : Shape) (h : Due k p sh) → Stands (rows_of S) k sh (later sh ++ h.after) (end "")
  standing k p sh h = stands (rows_of S) k sh (later sh ++ h.after) (end "") (h.rows ∙ ap (λ (l : List Shape). l ++ h.after) (first sh))

  parted : (p : ℕ) (a b c e : List ℕ) → drop p (text) ≡ (a ++ (b ++ c)) ++ e → Parts (text) p a b (c ++ e)
  parted p a b c e h = parts (text) p a b (c ++ e) (h ∙ append_assoc a (b ++ c) e ∙ ap (λ (l : List ℕ). a ++ l) (append_assoc b c e))

  law : (sh : Shape) (k p : ℕ) → Due k p sh → All Right k (numbers_of k p sh)
  unfolding closes_by
  law (end n) k p h = (
    (
      rw (standing k p (end n) h).here
          (record {
            what = refl;
            close = ap exactly (parts (text) p [] (end_tag n) h.behind h.wording).two;
            finish = refl;
          }),
      record { next = some_rows S },
    ),
    tt,
  )
  law (leaf o n kd f rest) k p h =
      let s = standing k p (leaf o n kd f rest) h in
      let t = parted p (start_text (is_amount kd) n) (end_tag n) (tags_of rest) h.behind h.wording in
      let q = p + length (start_text (is_amount kd) n) + length (end_tag n) in
      let d : Due (suc k) q rest = record { after = h.after; rows = s.next; behind = h.behind; wording = t.on } in
      let y = standing (suc k) q rest d in
      let r = numbers_at k p (leaf o n kd f rest) in (
        (
          rw s.here
              (record {
                what = refl;
                amount = refl;
                occ = occ_of_lem o;
                name = marked (is_type n);
                some = some_tag (is_amount kd) n;
                start = opens_by_lem (is_amount kd) n r refl (text) t.one;
                width = width_by (is_amount kd) n r refl refl;
                close = ap exactly t.two;
                finish = refl;
                later = omega arith;
                next = y.here;
              }),
          record { next = y.within },
        ),
        law rest (suc k) q d,
      )
  law (group o n inner rest) k p h =
      let s = standing k p (group o n inner rest) h in
      let t = parted p (plain_tag n) (tags_of inner) (tags_of rest) h.behind h.wording in
      let q = p + length (plain_tag n) in
      let i : Due (suc k) q inner = record {
        after = rows_of rest ++ h.after;
        rows = s.next ∙ append_assoc (rows_of inner) (rows_of rest) h.after;
        behind = tags_of rest ++ h.behind;
        wording = t.from;
      } in
      let m = suc k + length (rows_of inner) in
      let d : Due m (q + length (tags_of inner)) rest = record {
        after = h.after;
        rows = sym (drop-drop (length (rows_of inner)) (suc k) (rows_of S)) ∙ ap (drop (length (rows_of inner))) i.rows ∙ drop-append_seam (rows_of inner) (rows_of rest ++ h.after);
        behind = h.behind;
        wording = t.on;
      } in
      let x = standing (suc k) q inner i in
      let y = standing m (q + length (tags_of inner)) rest d in
      let r = numbers_at k p (group o n inner rest) in (
        (
          rw s.here
              (record {
                what = refl;
                amount = refl;
                occ = occ_of_lem o;
                name = marked (is_type n);
                some = some_tag false n;
                start = opens_by_lem false n r refl (text) t.one;
                width = width_by false n r refl refl ∙ exactly_length (plain_tag n);
                below = omega (arith, x.within);
                first = rw add-one x.here;
                later = omega arith;
                next = y.here;
              }),
          record { next = y.within },
        ),
        all_append Right (numbers_of (suc k) q inner) (numbers_of m (q + length (tags_of inner)) rest) (suc k) m (ap (λ (j : ℕ). suc k + j) (sym (many_numbers inner (suc k) q)))
            (law inner (suc k) q i) (law rest m (q + length (tags_of inner)) d),
      )

-- ---- the table of a version
-- each row is had again from its number
had_again : (v : Version) → map row_of (table v) ≡ numbers_of 0 0 (profile v)
unfolding table profile is_type kind_of field_of
had_again V02 = refl
had_again V08 = refl

row_in_lem : (v : Version) (k : ℕ) → row_in (table v) k ≡ get_or (numbers_of 0 0 (profile v)) k (row_of 0)
row_in_lem v k = sym (get_or-map row_of (table v) k 0) ∙ ap (λ (l : List Row). get_or l k (row_of 0)) (had_again v)

pub rows : (v : Version) (k : ℕ) → k < many_rows v → Tied v k (due v k) (row_in (table v) k) × RowKept v (row_in (table v) k)
unfolding many_rows due tags
rows v k h =
    let more = replicate (room - length (tags_of (profile v))) (byte " ") in
    rw (row_in_lem v k)
    (all_at (Right (profile v) more) (numbers_of 0 0 (profile v)) 0 k k (row_of 0) (omega arith)
    (law (profile v) more (profile v) 0 0 (whole (profile v) more)) (rw (many_numbers (profile v) 0 0) h))

-- as the code reads it from rows that are lent
pub row_tied : (v : Version) (rs : List ℕ) (k : ℕ) (r : Row) → r ≡ row_in rs k → rs ≡ table v → k < many_rows v → Tied v k (due v k) r × RowKept v r
row_tied v rs k r e f h = rw (e, f) (rows v k h)

-- what is due first is the whole profile
pub due_first : (v : Version) → due v 0 ≡ profile v
unfolding due
due_first v = rw (first (profile v))

pub first_row : (v : Version) → 0 < many_rows v
unfolding many_rows
first_row v = some_rows (profile v)

-- the item is due from the item's row on
pub due_item_lem : (v : Version) → due v (item_row v) ≡ group many item_name (in_item v) (end bulk_name)
unfolding due item_row profile in_header in_item
due_item_lem V02 = refl
due_item_lem V08 = refl

pub item_element : (v : Version) → Element (due v (item_row v))
item_element v = rw (due_item_lem v) tt

pub item_row_lem : (v : Version) → item_row v < many_rows v
unfolding item_row many_rows profile in_header
item_row_lem V02 = omega arith
item_row_lem V08 = omega arith

pub item_tag_lem : (v : Version) (names : List ℕ) (rs : List ℕ) (r : Row) → names ≡ tags v → rs ≡ table v → r ≡ row_in rs (item_row v)
    → opens_by names r ≡ exactly (plain_tag item_name)
item_tag_lem v names rs r e f h =
    let t : Tied v (item_row v) (group many item_name (in_item v) (end bulk_name)) r = rw (due_item_lem v) at (row_tied v rs (item_row v) r h f (item_row_lem v)).0 in
    rw e t.start

-- there are so few rows that 256 turns pass them all
pub few_rows : (v : Version) → many_rows v < 256
unfolding many_rows profile
few_rows V02 = omega arith
few_rows V08 = omega arith
