-- By the tree: what ends where more is due can be completed, within what one text of every element takes.
use mathlib.Core.Path.{◌≡◌, refl, sym, ap, ◌∙◌}
use mathlib.Core.Bool.{Bool, true, false}
use mathlib.Core.List.{List, [], ◌++◌, append-nil}
use mathlib.Core.Logic.{inl, inr}
use Prim.Native.Nat.{ℕ, zero, suc, ◌+◌, ◌≤◌, ◌<◌}
use Prim.Native.String.{String}
use native.Mathlib.Nat.{add-zero}
use native.Mathlib.Omega.{arith}
use borrow.Author.Tests.{ltb-true, ltb-false, lt-ltb, le-ltb}
use lib.Dec.{ltb}
use lib.ListN.{length, drop, length-append, length-drop, drop_of_length-le}
use Rattle.text.specs.Truth.{both, pick}
use Rattle.text.proofs.Truths.{both_true}
use Rattle.text.proofs.Scan.{lead_le}
use Rattle.tags.specs.declared.Look.{Look}
use Rattle.tags.specs.declared.Look.TheVariants.{Whole as Complete, Cut, Other}
use Rattle.tags.specs.Tags.{white, skipped, look, on_look, exactly, end_tag, plain_tag, start_tag, currency_place, in_euro}
use Rattle.tags.specs.Values.{in_value, value_at, behind_value}
use Rattle.tags.proofs.Looks.{exactly_length, look_text, look_fits}
use Rattle.profile.specs.declared.Kind.{Kind}
use Rattle.profile.specs.declared.Field.{Field}
use Rattle.profile.specs.Kinds.{is_amount}
use Rattle.profile.specs.Tree.{Occ, once, optional, many, more, Shape, end, leaf, group}
use Rattle.reading.specs.Trace.{value, ◌at◌, Trace, met, up_to, fault, and_then, begins, ends, priced, closed, valued, leaf_body, group_body, missing, turn, again, follow, child, trace}
use Rattle.reading.proofs.Flat.{never}
use Rattle.documents.specs.Document.{opening}
use Rattle.documents.proofs.Sure.{unless_once, apart, sure}
use Rattle.documents.proofs.Texts.{look_opening, opening_length, Starts, opening_starts, white_bracket}
use Rattle.faults.specs.Completed.{full}
use Rattle.faults.proofs.Fronts.{Sights, whole, cut, other, seen, none_left}
use Rattle.faults.proofs.Extends.{Extends, also, done, wrong, ended, start_wide, priced_ext, valued_ext, then_ext, leaf_ext, group_ext, trace_ext}
use Rattle.faults.proofs.Fills.{begins_by, ends_by, closed_fills, valued_fills, least, least_full, leaf_follows, group_follows}
use Rattle.faults.proofs.Lacks.{Lack, lack_begins, lack_ends, Broken, at_once, body_lack}
use Rattle.faults.proofs.Made.{Due, Fine, Made, made_now, made_as, made_more, filled, filled_up, first_made, then_made_lem, run_same, mend}

abbrev pub Comes : (List ℕ → ℕ → Trace) → ℕ → Type 0
Comes F b = (m : List ℕ) (p : ℕ) → p ≤ length m → Due (length m) (F m p) → Made b m (λ n. F n p)

text_led : (n : String) → Starts (end_tag n)
text_led n = record { rest = _; is = refl }

pub whole_text : (t : List ℕ) → look (exactly t) t ≡ Complete
whole_text t = rw (append-nil t) at (look_text t [])

-- ---- a place of a message, which stays where it is when the message is continued, if it is not its end or a `<` comes there
pub record Place (g : List ℕ → ℕ) (m : List ℕ) : Type 0 where
  pub within : g m ≤ length m
  pub kept : (x : List ℕ) → (g m ≡ length m → Starts x) → g (m ++ x) ≡ g m

pub behind_white : (m : List ℕ) (p : ℕ) → p ≤ length m → Place (λ k. skipped k p) m
behind_white m p h = record { within = omega (arith, lead_le white (drop p m), length-drop p m); kept = λ x l. run_same white white_bracket m x p h l }

-- ---- an end tag at a place
closed_at : (n : String) (g : List ℕ → ℕ) (m : List ℕ) → Place g m
    → Due (length m) (closed n m (g m)) → Made (length (end_tag n)) m (λ k. closed n k (g k))
unfolding closed
closed_at n g m w = go (look (exactly (end_tag n)) (drop (g m) m)) refl
  where
    T : List ℕ → Trace
    T k = on_look (look (exactly (end_tag n)) (drop (g k) k)) (up_to (g k + length (end_tag n))) (fault 3 (length k)) (fault 4 (g k))

    go : (l : Look) → look (exactly (end_tag n)) (drop (g m) m) ≡ l → Due (length m) (on_look l (up_to (g m + length (end_tag n))) (fault 3 (length m)) (fault 4 (g m)))
        → Made (length (end_tag n)) m T
    go Complete e d = made_now (length (end_tag n)) m T (rw e d)
    go Other e d = elim d [ inl z ↦ absurd (let y : ⊥ = omega arith in y) | inr z ↦ absurd (let y : ⊥ = omega arith in y) ]
    go Cut e d =
        let r = mend (exactly (end_tag n)) (end_tag n) (text_led n) (whole_text (end_tag n)) (sym (exactly_length (end_tag n))) m (g m) w.within e in
        record {
          more = r.more;
          short = omega (arith, r.short, exactly_length (end_tag n));
          fine = rw (w.kept r.more r.led, r.whole) (omega (arith, r.size, exactly_length (end_tag n)));
          lacks = rw (w.kept r.more r.led, r.whole) (omega arith);
        }

closed_comes : (n : String) → Comes (closed n) (length (end_tag n))
closed_comes n m p h = closed_at n (λ k. p) m (record { within = h; kept = λ x l. refl })

-- ---- a value and its end tag
valued_comes : (n : String) (k : Kind) (f : Field) → Comes (valued n k f) (length (end_tag n))
unfolding valued
valued_comes n k f m p h = go (ltb (behind_value m p) (length m)) refl
  where
    T : List ℕ → Trace
    T s = pick (ltb (behind_value s p) (length s)) (met (value k f (value_at s p) at p) (closed n s (behind_value s p))) (fault 3 (length s))

    stays_behind : (x : List ℕ) → behind_value m p < length m → behind_value (m ++ x) p ≡ behind_value m p
    stays_behind x g = run_same in_value refl m x p h (λ z. absurd (let y : ⊥ = omega arith in y))

    stays_within : (x : List ℕ) → behind_value m p < length m → ltb (behind_value m p) (length (m ++ x)) ≡ true
    stays_within x g = lt-ltb (behind_value m p) (length (m ++ x)) (omega (arith, length-append m x))

    past_end : ltb (length m) (length (m ++ end_tag n)) ≡ true
    past_end = lt-ltb (length m) (length (m ++ end_tag n)) (omega (arith, length-append m (end_tag n)))

    go : (b : Bool) → ltb (behind_value m p) (length m) ≡ b
        → Due (length m) (pick b (met (value k f (value_at m p) at p) (closed n m (behind_value m p))) (fault 3 (length m))) → Made (length (end_tag n)) m T
    go true e d =
        let g : behind_value m p < length m = ltb-true (behind_value m p) (length m) e in
        made_as (length (end_tag n)) T (closed_comes n m (behind_value m p) (omega arith) d) (omega arith)
        (λ x i. rw (stays_behind x g, stays_within x g) i) (λ x i. rw (stays_behind x g, stays_within x g, e) (omega (arith, i)))
    go false e d =
        let g : behind_value m p ≡ length m = omega (arith, ltb-false (behind_value m p) (length m) e, lead_le in_value (drop p m), length-drop p m) in
        record {
          more = end_tag n;
          short = omega arith;
          fine = rw (run_same in_value refl m (end_tag n) p h (λ z. text_led n), g, past_end) (filled (closed n) (end_tag n) (closed_fills n) m).0;
          lacks = rw (run_same in_value refl m (end_tag n) p h (λ z. text_led n), g, past_end) (omega (arith, (filled (closed n) (end_tag n) (closed_fills n) m).1));
        }

-- ---- an element from behind its start tag
-- what a step at the start or end of an element adds is no fault
ends_now : (o : Occ) (l : ℕ) → Fine l (ends o l)
ends_now o l = ends_by (Fine l) (λ e u h. h) o l refl

-- what an element holds, and its end
module _ (o : Occ) (n : String) (S : List ℕ → Trace) (p s b : ℕ) (ext : (m x : List ℕ) → s ≤ length m → Extends (length m) s (S m) (S (m ++ x)))
    (comes : (m : List ℕ) → s ≤ length m → Due (length m) (S m) → Made b m S) where
  abbrev body : List ℕ → Trace
  body m = begins o n p (and_then (S m) (ends o))

  body-comes : (m : List ℕ) → s ≤ length m → Due (length m) (body m) → Made b m body
  body-comes m h d =
      made_as b body
      (then_made_lem S (λ m. ends o) m s b 0 (λ k x g. ext k x (omega arith)) (comes m h) (λ k. made_now 0 k (λ j. ends o (length k)) (ends_now o (length k))) (λ k. lack_ends o (length k)) b
      (omega arith)
      (λ q u v w. made_now b m (λ k. ends o q) (ends_by (λ t. Due (length m) t → Fine (length m) t) (λ e t h. h) o q (λ d. d) w))
      (begins_by (λ t. Due (length m) t → Due (length m) (and_then (S m) (ends o))) (λ e t h. h) o n p (and_then (S m) (ends o)) (λ d. d) d))
      (omega arith) (λ x i. begins_by (Fine (length (m ++ x))) (λ e t h. h) o n p (and_then (S (m ++ x)) (ends o)) i)
      (λ x i. omega (arith, i, lack_begins o n p (and_then (S (m ++ x)) (ends o)), lack_begins o n p (and_then (S m) (ends o))))

-- ---- at the message's end more is due
pub none_white : (m : List ℕ) → skipped m (length m) ≡ length m
none_white m = rw (drop_of_length-le m {i = length m} (omega arith)) (add-zero (length m))

turn_ends : (o : Occ) (n : String) (tag : List (ℕ → Bool)) → 0 < length tag → (m : List ℕ) (b f r : ℕ → Trace) → turn o n tag m b f r (length m) ≡ fault 3 (length m)
turn_ends o n tag h m b f r = rw (none_white m, none_left tag h m)

pub trace_ends : (sh : Shape) (m : List ℕ) → trace sh m (length m) ≡ fault 3 (length m)
unfolding closed
trace_ends (end n) m = rw (none_white m, none_left (exactly (end_tag n)) (omega arith) m)
trace_ends (leaf o n k f rest) m =
    turn_ends o n (start_tag (is_amount k) n) (start_wide (is_amount k) n).0 m (leaf_body o n k f m)
    (follow o (length m) n (start_tag (is_amount k) n) m (leaf_body o n k f m) (trace rest m)) (trace rest m)
trace_ends (group o n inner rest) m =
    turn_ends o n (exactly (plain_tag n)) (omega arith) m (group_body o n (trace inner m)) (follow o (length m) n (exactly (plain_tag n)) m (group_body o n (trace inner m)) (trace rest m)) (trace rest m)

valued_ends : (n : String) (k : Kind) (f : Field) (m : List ℕ) → valued n k f m (length m) ≡ fault 3 (length m)
unfolding valued
valued_ends n k f m = rw (drop_of_length-le m {i = length m} (omega arith), add-zero (length m), le-ltb (length m) (length m) (omega arith))

-- ---- a value with its currency
priced_fine : (b : Bool) (m : List ℕ) (p : ℕ) → Due (length m) (priced b m p) → Fine (length m) (priced b m p)
priced_fine false m p d = d
priced_fine true m p d = go (in_euro m p) d
  where
    go : (b : Bool) → Due (length m) (pick b (up_to p) (fault 6 (currency_place p))) → Fine (length m) (pick b (up_to p) (fault 6 (currency_place p)))
    go true d = d
    go false d = refl

module _ (n : String) (k : Kind) (f : Field) where
  abbrev priced_value : List ℕ → ℕ → Trace
  priced_value m p = and_then (priced (is_amount k) m p) (valued n k f m)

  pv-comes : (m : List ℕ) (p : ℕ) → (is_amount k ≡ true → 5 ≤ p) → p ≤ length m → Due (length m) (priced_value m p) → Made (length (end_tag n)) m (λ m. priced_value m p)
  pv-comes m p five h =
      then_made_lem (λ m. priced (is_amount k) m p) (valued n k f) m p 0 (length (end_tag n)) (λ j x g. priced_ext j x (is_amount k) p (omega arith) five)
      (λ d. made_now 0 m (λ m. priced (is_amount k) m p) (priced_fine (is_amount k) m p d)) (filled_up (valued n k f) (end_tag n) (valued_fills n k f))
      (λ j. ap Lack (valued_ends n k f j)) (length (end_tag n)) (omega arith)
      (λ q u v w. valued_comes n k f m q v w)

  pv-broken : (m : List ℕ) → Broken (priced_value m (length m))
  pv-broken m = go (is_amount k)
    where
      last : Broken (valued n k f m (length m))
      last = rw (valued_ends n k f m) (at_once 3 (length m))

      go : (b : Bool) → Broken (and_then (priced b m (length m)) (valued n k f m))
      go false = last
      go true = euro (in_euro m (length m))
        where
          euro : (b : Bool) → Broken (and_then (pick b (up_to (length m)) (fault 6 (currency_place (length m)))) (valued n k f m))
          euro true = last
          euro false = at_once 6 (currency_place (length m))

  pv-due : (m : List ℕ) → Due (length m) (priced_value m (length m))
  pv-due m = go (is_amount k)
    where
      last : Due (length m) (valued n k f m (length m))
      last = rw (valued_ends n k f m) (inl refl)

      go : (b : Bool) → Due (length m) (and_then (priced b m (length m)) (valued n k f m))
      go false = last
      go true = euro (in_euro m (length m))
        where
          euro : (b : Bool) → Due (length m) (and_then (pick b (up_to (length m)) (fault 6 (currency_place (length m)))) (valued n k f m))
          euro true = last
          euro false = inr refl

-- ---- what follows a part, where it is the same wherever the part may end
then_same : {l a : ℕ} {s t : Trace} (f g : ℕ → Trace) → Extends l a s t → ((q : ℕ) → a ≤ q → q ≤ l → f q ≡ g q) → and_then s f ≡ and_then s g
then_same f g (also e h x) k = ap (met e) (then_same f g x k)
then_same f g (done p h i) k = k p h i
then_same f g (wrong n q r z h) k = refl
then_same f g ended k = refl

-- ---- an element of a group
-- tests that are not cut are seen so in the message continued, from a place that stays
pub stays : (tag : List (ℕ → Bool)) → 0 < length tag → (g : List ℕ → ℕ) (m x : List ℕ) (q : ℕ) → Place g m → g m ≡ q → (l : Look) → look tag (drop q m) ≡ l → (l ≡ Cut → ⊥)
    → (g (m ++ x) ≡ q) × (look tag (drop q (m ++ x)) ≡ l)
stays tag some g m x q w s l e no_cut = go (look tag (drop q m)) (look tag (drop q (m ++ x))) (seen m x q (omega (arith, w.within)) tag) e
  where
    same : q < length m → g (m ++ x) ≡ q
    same h = w.kept x (λ z. absurd (let y : ⊥ = omega arith in y)) ∙ s

    go : (k j : Look) → Sights q (q + length tag) (length m) k j → k ≡ l → (g (m ++ x) ≡ q) × (j ≡ l)
    go k j (whole h) e = (same (omega arith), e)
    go k j (cut h) e = absurd (no_cut (sym e))
    go k j (other h) e = (same h, e)

module _ (n : String) (tag : List (ℕ → Bool)) (some : 0 < length tag) (first : List ℕ) (led : Starts first) (fits : look tag first ≡ Complete) (same : length first ≡ length tag)
    (B R : List ℕ → ℕ → Trace) (bb br : ℕ)
    (bext : (m x : List ℕ) (p : ℕ) → p + length tag ≤ length m → Extends (length m) (p + length tag) (B m p) (B (m ++ x) p))
    (bcom : (m : List ℕ) (p : ℕ) → p + length tag ≤ length m → Due (length m) (B m p) → Made bb m (λ k. B k p))
    (bdue : (m : List ℕ) (p : ℕ) → p + length tag ≡ length m → Due (length m) (B m p))
    (bz : (m : List ℕ) (p : ℕ) → p + length tag ≡ length m → (f : ℕ → Trace) → Lack (and_then (B m p) f) ≡ 0) (rcom : Comes R br) where
  module _ (o : Occ) (F : List ℕ → ℕ → Trace) (be b : ℕ) (ef : (m : List ℕ) → Made be m (λ k. F k (length m))) (ez : (m : List ℕ) → Lack (F m (length m)) ≡ 0) (enough : length tag + bb + be ≤ b) (wide : br ≤ b) where
    abbrev Turn : List ℕ → ℕ → Trace
    Turn k p = turn o n tag k (B k) (F k) (R k) p

    turn-comes : (m : List ℕ) (p : ℕ) → p ≤ length m → ((q : ℕ) → p < q → q ≤ length m → Due (length m) (F m q) → Made b m (λ k. F k q))
        → Due (length m) (Turn m p) → Made b m (λ k. Turn k p)
    turn-comes m p h cf = go (look tag (drop q m)) refl
      where
        q : ℕ
        q = skipped m p

        place : Place (λ k. skipped k p) m
        place = behind_white m p h

        qh : q ≤ length m
        qh = place.within

        on : (x : List ℕ) (l : Look) → look tag (drop q m) ≡ l → (l ≡ Cut → ⊥) → (skipped (m ++ x) p ≡ q) × (look tag (drop q (m ++ x)) ≡ l)
        on x l = stays tag some (λ k. skipped k p) m x q place refl l

        passed : (o : Occ) → look tag (drop q m) ≡ Other → Due (length m) (missing o n q (R m q)) → Made b m (λ k. turn o n tag k (B k) (F k) (R k) p)
        passed once e d = elim d [ inl z ↦ absurd (let y : ⊥ = omega arith in y) | inr z ↦ absurd (let y : ⊥ = omega arith in y) ]
        passed many e d = elim d [ inl z ↦ absurd (let y : ⊥ = omega arith in y) | inr z ↦ absurd (let y : ⊥ = omega arith in y) ]
        passed optional e d =
            made_as b (λ k. turn optional n tag k (B k) (F k) (R k) p) (rcom m q qh d) wide (λ x i. let y = on x Other e (λ z. never (cc)) in rw (y.0, y.1) i)
            (λ x i. let y = on x Other e (λ z. never (cc)) in rw (y.0, y.1, e) (omega (arith, i)))
        passed more e d =
            made_as b (λ k. turn more n tag k (B k) (F k) (R k) p) (rcom m q qh d) wide (λ x i. let y = on x Other e (λ z. never (cc)) in rw (y.0, y.1) i)
            (λ x i. let y = on x Other e (λ z. never (cc)) in rw (y.0, y.1, e) (omega (arith, i)))

        go : (l : Look) → look tag (drop q m) ≡ l → Due (length m) (on_look l (and_then (B m q) (F m)) (fault 3 (length m)) (missing o n q (R m q))) → Made b m (λ k. Turn k p)
        go Other e d = passed o e d
        go Complete e d =
            let f : q + length tag ≤ length m = omega (arith, qh, look_fits tag (drop q m) e, length-drop q m) in
            made_as b (λ k. Turn k p)
            (then_made_lem (λ k. B k q) F m (q + length tag) bb be (λ j x g. bext j x q (omega arith)) (bcom m q f) ef ez b (omega arith) (λ t u v w. cf t (omega arith) v w) d) (omega arith)
            (λ x i. let y = on x Complete e (λ z. never (cc)) in rw (y.0, y.1) i) (λ x i. let y = on x Complete e (λ z. never (cc)) in rw (y.0, y.1, e) i)
        go Cut e d =
            let r = mend tag first led fits same m q qh e in
            let k : List ℕ = m ++ r.more in
            let s : skipped k p ≡ q = place.kept r.more r.led in
            let g : Place (λ k. skipped k p) k = behind_white k p (omega (arith, length-append m r.more)) in
            made_more b m r.more (λ k. Turn k p)
            (made_as (bb + be) (λ k. Turn k p)
            (first_made (λ j. B j q) F k (q + length tag) bb be (λ j x i. bext j x q (omega (arith, r.size))) (bcom k q (omega (arith, r.size))) ef ez (bb + be) (omega arith)
            (bdue k q (sym r.size)))
            (omega arith) (λ x i. let y = stays tag some (λ k. skipped k p) k x q g s Complete r.whole (λ z. never (cc)) in rw (y.0, y.1) i)
            (λ x i. let y = stays tag some (λ k. skipped k p) k x q g s Complete r.whole (λ z. never (cc)) in rw (y.0, y.1, s, r.whole) i))
            (omega (arith, r.short)) (rw (s, r.whole) (omega (arith, bz k q (sym r.size) (F k))))

  -- each time round moves on: more times than there are bytes change nothing
  abbrev rows : List ℕ → ℕ → Trace
  rows m = again (length m) n tag m (B m) (R m)

  again-same : (m : List ℕ) (i j p : ℕ) → p ≤ length m → length m < i + p → length m < j + p → again i n tag m (B m) (R m) p ≡ again j n tag m (B m) (R m) p
  again-same m zero j p h d e = never (omega arith)
  again-same m (suc i) zero p h d e = never (omega arith)
  again-same m (suc i) (suc j) p h d e = go (look tag (drop q m)) refl (λ t u v. again-same m i j t v (omega arith) (omega arith))
    where
      q : ℕ
      q = skipped m p

      go : (l : Look) → look tag (drop q m) ≡ l → ((t : ℕ) → q + length tag ≤ t → t ≤ length m → again i n tag m (B m) (R m) t ≡ again j n tag m (B m) (R m) t)
          → on_look l (and_then (B m q) (again i n tag m (B m) (R m))) (fault 3 (length m)) (R m q) ≡ on_look l (and_then (B m q) (again j n tag m (B m) (R m))) (fault 3 (length m)) (R m q)
      go Complete e k =
          then_same (again i n tag m (B m) (R m)) (again j n tag m (B m) (R m))
          (bext m [] q (omega (arith, lead_le white (drop p m), length-drop p m, look_fits tag (drop q m) e, length-drop q m))) k
      go Cut e k = refl
      go Other e k = refl

  rows-turn : (m : List ℕ) (p : ℕ) → 1 ≤ p → p ≤ length m → rows m p ≡ turn more n tag m (B m) (rows m) (R m) p
  rows-turn m p h g = again-same m (length m) (suc (length m)) p g (omega arith) (omega arith)

  module _ (be b : ℕ) (enough : length tag + bb + be ≤ b) (wide : br ≤ b) where
    rows-comes : ((m : List ℕ) → Made be m (λ k. rows k (length m))) → ((m : List ℕ) → Lack (rows m (length m)) ≡ 0) → (i : ℕ) (m : List ℕ) (p : ℕ) → 1 ≤ p → p ≤ length m → length m < i + p
        → Due (length m) (rows m p) → Made b m (λ k. rows k p)
    rows-comes ef ez zero m p l h g d = never (omega arith)
    rows-comes ef ez (suc i) m p l h g d =
        made_as b (λ k. rows k p)
        (turn-comes more rows be b ef ez enough wide m p h (λ q u v w. rows-comes ef ez i m q (omega arith) v (omega arith) w) (rw (rows-turn m p l h) at d)) (omega arith)
        (λ x i. rw (rows-turn (m ++ x) p l (omega (arith, length-append m x))) i)
        (λ x i. rw (rows-turn (m ++ x) p l (omega (arith, length-append m x)), rows-turn m p l h) i)

    follow-comes : (o : Occ) → ((m : List ℕ) → Made be m (λ k. follow o (length k) n tag k (B k) (R k) (length m)))
        → ((m : List ℕ) → Lack (follow o (length m) n tag m (B m) (R m) (length m)) ≡ 0) → (m : List ℕ) (p : ℕ) → 1 ≤ p → p ≤ length m
        → Due (length m) (follow o (length m) n tag m (B m) (R m) p) → Made b m (λ k. follow o (length k) n tag k (B k) (R k) p)
    follow-comes once ef ez m p l h d = made_as b (λ k. R k p) (rcom m p h d) wide (λ x i. i) (λ x i. i)
    follow-comes optional ef ez m p l h d = made_as b (λ k. R k p) (rcom m p h d) wide (λ x i. i) (λ x i. i)
    follow-comes many ef ez m p l h d = rows-comes ef ez (suc (length m)) m p l h (omega arith) d
    follow-comes more ef ez m p l h d = rows-comes ef ez (suc (length m)) m p l h (omega arith) d

    child-comes : (o : Occ) → ((m : List ℕ) → Made be m (λ k. follow o (length k) n tag k (B k) (R k) (length m)))
        → ((m : List ℕ) → Lack (R m (length m)) ≡ 0) → Comes (λ m. child o n tag m (B m) (R m)) b
    child-comes o ef rz m p h d =
        turn-comes o (λ k. follow o (length k) n tag k (B k) (R k)) be b ef (λ k. follow-ends o k) enough wide m p h
        (λ q u v w. follow-comes o ef (λ k. follow-ends o k) m q (omega arith) v w) d
      where
        again-ends : (i : ℕ) (k : List ℕ) → Lack (again i n tag k (B k) (R k) (length k)) ≡ 0
        again-ends zero k = rz k
        again-ends (suc i) k = ap Lack (turn_ends more n tag some k (B k) (again i n tag k (B k) (R k)) (R k))

        follow-ends : (o : Occ) (k : List ℕ) → Lack (follow o (length k) n tag k (B k) (R k) (length k)) ≡ 0
        follow-ends once k = rz k
        follow-ends optional k = rz k
        follow-ends many k = again-ends (length k) k
        follow-ends more k = again-ends (length k) k

-- ---- by the tree: one text of every element
-- a body of which what it holds is due is due
body_due : (o : Occ) (n : String) (p l : ℕ) (t : Trace) → Due l t → Due l (begins o n p (and_then t (ends o)))
body_due o n p l t d = begins_by (Due l) (λ e t h. h) o n p (and_then t (ends o)) (go t d)
  where
    go : (t : Trace) → Due l t → Due l (and_then t (ends o))
    go (met e t) d = go t d
    go (fault n q) d = d
    go (up_to q) d = ends_by (Due l) (λ e t h. h) o q d

module _ (o : Occ) (n : String) (rest : Shape) (s : sure rest ≡ true) (rcom : Comes (trace rest) (full rest)) where
  leaf-comes : (k : Kind) (f : Field) → unless_once o (apart (start_tag (is_amount k) n) rest) ≡ true → Comes (trace (leaf o n k f rest)) (full (leaf o n k f rest))
  leaf-comes k f t =
      child-comes n tag (start_wide a n).0 (opening k n) (rw (append-nil (opening k n)) at (opening_starts k n [])) (rw (append-nil (opening k n)) at (look_opening k n []))
      (sym (opening_length k n)) (leaf_body o n k f) (trace rest) (length (end_tag n)) (full rest) (λ m x p h. leaf_ext m x o n k f p h)
      (λ m p h d. body-comes o n (λ m. priced_value n k f m (p + length tag)) p (p + length tag) (length (end_tag n))
      (λ m x h. then_ext (valued n k f m) (valued n k f (m ++ x)) (priced_ext m x a (p + length tag) h (five p)) (λ q u v. valued_ext m x n k f q v))
      (λ m h d. pv-comes n k f m (p + length tag) (five p) h d) m h d)
      (λ m p e. body_due o n p (length m) (priced_value n k f m (p + length tag)) (rw e (pv-due n k f m)))
      (λ m p e g. body_lack o n p (priced_value n k f m (p + length tag)) g (rw e (pv-broken n k f m))) rcom
      (length (least rest)) (full (leaf o n k f rest)) (omega (arith, least_full rest)) (omega arith) o
      (filled_up (λ m. follow o (length m) n tag m (leaf_body o n k f m) (trace rest m)) (least rest) (leaf_follows o n rest s k f t)) (λ m. ap Lack (trace_ends rest m))
    where
      a : Bool
      a = is_amount k

      tag : List (ℕ → Bool)
      tag = start_tag (is_amount k) n

      five : (p : ℕ) → is_amount k ≡ true → 5 ≤ p + length tag
      five p e = omega (arith, (start_wide (is_amount k) n).1 e)

  group-comes : (inner : Shape) → sure inner ≡ true → Comes (trace inner) (full inner) → unless_once o (apart (exactly (plain_tag n)) rest) ≡ true
      → Comes (trace (group o n inner rest)) (full (group o n inner rest))
  group-comes inner i jcom t =
      child-comes n tag (omega arith) (plain_tag n) (record { rest = _; is = refl }) (whole_text (plain_tag n)) (sym (exactly_length (plain_tag n))) (λ m. group_body o n (trace inner m)) (trace rest)
      (full inner) (full rest) (λ m x p h. group_ext m x o n (trace inner m) (trace inner (m ++ x)) (λ q u v. trace_ext m x inner q v) p h)
      (λ m p h d. body-comes o n (λ m. trace inner m (p + length (plain_tag n))) p (p + length (plain_tag n)) (full inner) (λ m x h. trace_ext m x inner (p + length (plain_tag n)) h)
      (λ m h d. jcom m (p + length (plain_tag n)) h d) m (omega (arith, exactly_length (plain_tag n))) d)
      (λ m p e. body_due o n p (length m) (trace inner m (p + length (plain_tag n))) (here m p (omega (arith, e, exactly_length (plain_tag n)))))
      (λ m p e g. body_lack o n p (trace inner m (p + length (plain_tag n))) g (broken m p (omega (arith, e, exactly_length (plain_tag n))))) rcom
      (length (least rest)) (full (group o n inner rest)) (omega (arith, least_full rest, exactly_length (plain_tag n))) (omega arith) o
      (filled_up (λ m. follow o (length m) n tag m (group_body o n (trace inner m)) (trace rest m)) (least rest) (group_follows o n rest s inner i t))
      (λ m. ap Lack (trace_ends rest m))
    where
      tag : List (ℕ → Bool)
      tag = exactly (plain_tag n)

      here : (m : List ℕ) (p : ℕ) → p + length (plain_tag n) ≡ length m → Due (length m) (trace inner m (p + length (plain_tag n)))
      here m p e = rw (e, trace_ends inner m) (inl refl)

      broken : (m : List ℕ) (p : ℕ) → p + length (plain_tag n) ≡ length m → Broken (trace inner m (p + length (plain_tag n)))
      broken m p e = rw (e, trace_ends inner m) (at_once 3 (length m))

pub trace_comes : (sh : Shape) → sure sh ≡ true → Comes (trace sh) (full sh)
trace_comes (end n) t = λ m p h d. closed_at n (λ k. skipped k p) m (behind_white m p h) d
trace_comes (leaf o n k f rest) t =
    let h = both_true (unless_once o (apart (start_tag (is_amount k) n) rest)) (sure rest) t in
    leaf-comes o n rest h.1 (trace_comes rest h.1) k f h.0
trace_comes (group o n inner rest) t =
    let h = both_true (unless_once o (apart (exactly (plain_tag n)) rest)) (both (sure inner) (sure rest)) t in
    let g = both_true (sure inner) (sure rest) h.1 in
    group-comes o n rest g.1 (trace_comes rest g.1) inner g.0 (trace_comes inner g.0) h.0
