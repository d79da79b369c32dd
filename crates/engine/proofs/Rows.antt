-- A row told of an item, and the laws of a loop that reads several items: it begins, goes on by one, stops, ends.
use mathlib.Core.Path.{◌≡◌, refl, sym, ap, ◌∙◌}
use mathlib.Core.List.{List, [], ◌∷◌, ◌++◌, append-nil, append_assoc}
use Prim.Native.Nat.{ℕ, zero, suc, ◌+◌, ◌-◌, ◌*◌, ◌/◌, ◌≤◌, ◌<◌}
use native.Mathlib.Numerals.{add-one}
use native.Mathlib.Omega.{arith}
use borrow.Author.Tests.{le-leb, lt-leb}
use borrow.Rule.Slice.PartMut.{put_mid, mid_len, same_len_mid}
use lib.ListN.{length, take, drop, get_or, set, length-append, length-drop, length-set, drop_of_length-le}
use lib.Seq.{paste-suc, take_all, take_at, drop_at, drop-drop, drop-cons, set_at}
use Rattle.profile.specs.declared.Version.{Version}
use Rattle.profile.specs.Limits.{most_bytes}
use Rattle.profile.specs.Listed.{many_fields}
use Rattle.reading.specs.Noted.{Reading, on, stop, Ended}
use Rattle.notes.specs.declared.Notes.{Notes}
use Rattle.engine.specs.Engine.{item_at}
use Rattle.engine.specs.Several.{items_from, behind, row_length, row_of, rows_of, told_in, Tells}
use Rattle.engine.proofs.Whole.{item_long, item_far}

-- ---- a row at the front of a part
module _ (n : Notes) (part : List ℕ) where
  pub tell_short : length part < row_length → part ≡ told_in n part
  unfolding told_in
  tell_short h = rw (lt-leb row_length (length part) h)

  -- so many of the starts are written
  pub record Telling (i : ℕ) (out : List ℕ) : Type 0 where
    pub some : i ≤ many_fields
    pub long : length out ≡ length part
    pub is : out ≡ take i n.starts ++ drop i part

  module _ (h : row_length ≤ length part) (l : length n.starts ≡ many_fields) where
    pub tell_more : (i : ℕ) (out : List ℕ) → Telling i out → i < many_fields → Telling (i + 1) (set out i (get_or n.starts i 0))
    tell_more i out t g =
        let z : 0 + i ≡ i = omega arith in
        let y : 0 + suc i ≡ suc i = omega arith in
        record {
          some = omega arith;
          long = length-set out i (get_or n.starts i 0) ∙ t.long;
          is = rw (t.is, add-one i) (rw (z, y) at (paste-suc part 0 n.starts i 0 (omega arith) (omega arith)));
        }

    pub tell_end : (i : ℕ) (out : List ℕ) → Telling i out → many_fields ≤ i → set out many_fields n.cents ≡ told_in n part
    unfolding told_in
    tell_end i out t g =
        let z : i ≡ many_fields = omega (arith, t.some) in
        let e : out ≡ n.starts ++ (get_or part many_fields 0 ∷ drop row_length part) =
        t.is ∙ rw (z, take_all many_fields n.starts (omega arith), drop-cons part many_fields 0 (omega arith)) in
        rw (e, le-leb row_length (length part) h)
        (set_at n.starts (get_or part many_fields 0) (drop row_length part) n.cents many_fields l ∙ sym (append_assoc n.starts (n.cents ∷ []) (drop row_length part)))

-- ---- parts written one behind the other: w stands in l, before what was lent, and x comes to stand behind it
module _ (w lent l : List ℕ) (a : ℕ) (is : l ≡ w ++ drop a lent) where
  pub front_long : length l ≡ length lent → a ≤ length lent → length w ≡ a
  front_long n h = omega (arith, ap length is, length-append w (drop a lent), length-drop a lent)

  pub put_next : length w ≡ a → (j : ℕ) (x : List ℕ) → put_mid a (a + j - a) l x ≡ w ++ (x ++ drop (a + j) lent)
  put_next n j x =
      let z : a + j - a ≡ j = omega arith in
      rw (is, take_at w (drop a lent) a n, drop_at w (drop a lent) a n, z) (ap (λ (r : List ℕ). w ++ (x ++ r)) (drop-drop j a lent))

-- ---- items one behind the other
rows_append : (a b : List (Ended Notes)) → rows_of (a ++ b) ≡ rows_of a ++ rows_of b
rows_append [] b = refl
rows_append (s ∷ a) b = rw (rows_append a b) (sym (append_assoc (row_of s.notes) (rows_of a) (rows_of b)))

behind_append : (p : ℕ) (a b : List (Ended Notes)) → behind p (a ++ b) ≡ behind (behind p a) b
behind_append p [] b = refl
behind_append p (s ∷ a) b = behind_append s.at a b

module _ (v : Version) (m : List ℕ) where
  none_from : (k p n q : ℕ) → stop n q ≡ item_at v m p → items_from v m k p ≡ []
  none_from zero p n q e = refl
  none_from (suc k) p n q e = rw (← e)

  one_more : (k p : ℕ) (s : Ended Notes) → on s ≡ item_at v m p → 0 < k → items_from v m k p ≡ s ∷ items_from v m (k - 1) s.at
  one_more zero p s e h = absurd (let z : ⊥ = omega arith in z)
  one_more (suc k) p s e h =
      let z : suc k - 1 ≡ k = omega arith in
      rw (← e, z)

-- ---- the loop: so many items are read, and their rows stand before what the lent rows held there
pub record Reads (v : Version) (m : List ℕ) (first : ℕ) (rows₀ : List ℕ) (i at : ℕ) (rows : List ℕ) : Type 0 where
  pub some : i ≤ length rows₀ / row_length
  pub done : List (Ended Notes)
  pub all : items_from v m (length rows₀ / row_length) first ≡ done ++ items_from v m (length rows₀ / row_length - i) at
  pub many : length done ≡ i
  pub place : at ≡ behind first done
  pub long : length rows ≡ length rows₀
  pub is : rows ≡ rows_of done ++ drop (row_length * i) rows₀

abbrev most : List ℕ → ℕ
most rows = length rows / row_length

pub reads_begin : (v : Version) (m : List ℕ) (first : ℕ) (rows₀ : List ℕ) → Reads v m first rows₀ 0 first rows₀
reads_begin v m first rows₀ =
    let z : most rows₀ - 0 ≡ most rows₀ = omega arith in
    record { some = omega arith; done = []; all = rw z; many = refl; place = refl; long = refl; is = refl }

module _ {v : Version} {m : List ℕ} {first : ℕ} {rows₀ : List ℕ} {i at : ℕ} {rows : List ℕ} (r : Reads v m first rows₀ i at rows) where
  -- nothing more is read
  read_all : items_from v m (most rows₀ - i) at ≡ [] → Tells v m first rows₀ (record { read = i; at = at }) rows
  read_all e =
      let d : items_from v m (most rows₀) first ≡ r.done = r.all ∙ (rw e (append-nil r.done)) in
      record { many = sym (ap length d ∙ r.many); place = r.place ∙ rw d; told = r.is ∙ rw (d, r.many) }

  pub reads_end : most rows₀ ≤ i → Tells v m first rows₀ (record { read = i; at = at }) rows
  reads_end h =
      let z : most rows₀ - i ≡ 0 = omega arith in
      read_all (rw z)

  -- where its row begins and ends
  module _ (h : i < most rows₀) where
    pub row_fits : row_length * i + row_length ≤ length rows
    row_fits = omega (arith, r.long)

    row-wide : row_length * i + row_length - row_length * i ≡ row_length
    row-wide = omega arith

    abbrev pub row_at : List ℕ
    row_at = take (row_length * i + row_length - row_length * i) (drop (row_length * i) rows)

    abbrev pub with_row : List ℕ → List ℕ
    with_row x = put_mid (row_length * i) (row_length * i + row_length - row_length * i) rows x

    row_long : length row_at ≡ row_length
    row_long = mid_len (row_length * i) (row_length * i + row_length) rows row_fits ∙ row-wide

    with-is : (x : List ℕ) → with_row x ≡ rows_of r.done ++ (x ++ drop (row_length * (i + 1)) rows₀)
    with-is x =
        let d = rows_of r.done in
        let z : row_length * i + row_length ≡ row_length * (i + 1) = omega arith in
        let n = front_long d rows₀ rows (row_length * i) r.is r.long (omega arith) in
        put_next d rows₀ rows (row_length * i) r.is n row_length x ∙ rw z

    told_is_lem : (n : Notes) → told_in n row_at ≡ row_of n
    unfolding told_in
    told_is_lem n =
        let g : length row_at ≤ row_length = omega (arith, row_long) in
        rw (le-leb row_length (length row_at) (omega (arith, row_long)), drop_of_length-le row_at g) (append-nil (row_of n))

    module _ {y : Reading (Ended Notes)} (e : y ≡ item_at v m at) where
      pub reads_stop : (n q : ℕ) → y ≡ stop n q → Tells v m first rows₀ (record { read = i; at = at }) rows
      reads_stop n q g = read_all (none_from v m (most rows₀ - i) at n q (sym g ∙ e))

      pub reads_on : (s : Ended Notes) → y ≡ on s → (x : List ℕ) → x ≡ told_in s.notes row_at → length x ≡ length row_at → Reads v m first rows₀ (i + 1) s.at (with_row x)
      reads_on s g x w l =
          let z : most rows₀ - i - 1 ≡ most rows₀ - (i + 1) = omega arith in
          let q : x ≡ row_of s.notes = w ∙ told_is_lem s.notes in
          let n = items_from v m (most rows₀ - (i + 1)) s.at in
          let o : items_from v m (most rows₀ - i) at ≡ s ∷ n = one_more v m (most rows₀ - i) at s (sym g ∙ e) (omega arith) ∙ rw z in
          let t = drop (row_length * (i + 1)) rows₀ in
          record {
            some = omega arith;
            done = r.done ++ (s ∷ []);
            all = r.all ∙ (rw (o, append_assoc r.done (s ∷ []) n));
            many = length-append r.done (s ∷ []) ∙ omega (arith, r.many);
            place = sym (behind_append first r.done (s ∷ []));
            long = same_len_mid (row_length * i) (row_length * i + row_length - row_length * i) rows x l ∙ r.long;
            is = with-is x ∙ rw (q, rows_append r.done (s ∷ []), append-nil (row_of s.notes), append_assoc (rows_of r.done) (row_of s.notes) t);
          }

-- a message that is too long, and a place behind it: nothing is read
module _ (v : Version) (m : List ℕ) (first : ℕ) (rows₀ : List ℕ) where
  none_read : stop 1 0 ≡ item_at v m first → Tells v m first rows₀ (record { read = 0; at = first }) rows₀
  none_read e = read_all (reads_begin v m first rows₀) (none_from v m (most rows₀ - 0) first 1 0 e)

  pub reads_long : most_bytes < length m → Tells v m first rows₀ (record { read = 0; at = first }) rows₀
  reads_long h = none_read (item_long v m first h (stop 1 0) refl).0

  pub reads_far : length m ≤ most_bytes → length m < first → Tells v m first rows₀ (record { read = 0; at = first }) rows₀
  reads_far h g = none_read (item_far v m first h g (stop 1 0) refl).0
