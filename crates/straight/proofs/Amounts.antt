-- Amounts: the start tag with its currency, and that the exact reader reads what the definition says.
use Rattle.std.proofs.Common.{◌≡◌, ℕ, ◌+◌, ◌-◌, ◌≤◌, Bool, true, false, List, ◌++◌, length, take, drop, sym, refl, ap, ◌∙◌, arith, length-append, drop-drop}
use Prim.Native.String.{String}
use Rattle.text.specs.Truth.{pick}
use Rattle.text.proofs.Truths.{never}
use Rattle.text.proofs.Scan.{rest_of}
use Rattle.tags.specs.declared.Look.{Look}
use Rattle.tags.specs.declared.Look.TheVariants.{Whole, Cut, Other}
use Rattle.tags.specs.Tags.{skipped, look, on_look, exactly, amount_tag, end_tag, start_tag, currency, currency_place, in_euro}
use Rattle.tags.proofs.Looks.{exactly_length, look_append, and_then as look_then}
use Rattle.profile.specs.declared.Kind.{Kind}
use Rattle.profile.specs.declared.Field.{Field}
use Rattle.profile.specs.Kinds.{is_amount}
use Rattle.profile.specs.Tree.{once, Shape, leaf}
use Rattle.reading.specs.Trace.{Trace, up_to, fault, and_then, ends, priced, valued, trace}
use Rattle.reading.specs.Noted.{Reading, on, stop, Ended}
use Rattle.notes.specs.declared.Notes.{Notes}
use Rattle.notes.specs.Steps.{reads, Good, Fine}
use Rattle.notes.proofs.Notings.{here}
use Rattle.notes.proofs.Stays.{good_at}
use Rattle.engine.specs.Engine.{valued_by, placed}
use Rattle.straight.specs.Exact.{enter_of, amount_of, Makes, Behind}
use Rattle.straight.proofs.Made.{once_ends}
use Rattle.straight.proofs.Elements.{makes_by, valued_is}
use Rattle.straight.proofs.Groups.{then_each, tag_within}

abbrev Going : Type 0
Going = Reading (Ended Notes)

tag_length : (start : List ℕ) → length (exactly start ++ currency) ≡ length start + 5
tag_length start = omega (arith, length-append (exactly start) currency, exactly_length start)

-- ---- how it lies
module _ (m start : List ℕ) (q : ℕ) (l : Look) (e : l ≡ look (exactly start) (drop q m)) where
  appended : look (exactly start ++ currency) (drop q m) ≡ look_then l (look currency (drop (q + length start) m))
  appended =
      look_append (exactly start) currency (drop q m)
      ∙ (ap (λ (c : Look). look_then c (look currency (drop (length (exactly start)) (drop q m)))) (sym e)
      ∙ ap (λ (s : List ℕ). look_then l (look currency s)) (ap (λ (i : ℕ). drop i (drop q m)) (exactly_length start) ∙ drop-drop (length start) q m))

  pub amount_looks : l ≡ Whole → (c : Look) → c ≡ look currency (take (length m - (q + length start)) (drop (q + length start) m)) → c ≡ look (exactly start ++ currency) (drop q m)
  amount_looks h c w =
      w ∙ (ap (look currency) (rest_of (q + length start) m) ∙ sym (appended ∙ ap (λ (d : Look). look_then d (look currency (drop (q + length start) m))) h))

  pub amount_else : (l ≡ Whole → ⊥) → l ≡ look (exactly start ++ currency) (drop q m)
  amount_else h = go l refl
    where
      go : (d : Look) → l ≡ d → l ≡ look (exactly start ++ currency) (drop q m)
      go Whole w = absurd (h w)
      go Cut w = w ∙ sym (appended ∙ ap (λ (d : Look). look_then d (look currency (drop (q + length start) m))) w)
      go Other w = w ∙ sym (appended ∙ ap (λ (d : Look). look_then d (look currency (drop (q + length start) m))) w)

-- ---- entering
module _ (m : List ℕ) (p : ℕ) (x : Notes) (g : Good m (here p x)) (start : List ℕ) (q : ℕ) (place : q ≡ skipped m p) (within : q ≤ length m)
    (l : Look) (e : l ≡ look (exactly start ++ currency) (drop q m)) where
  abbrev Enters : Going → Type 0
  Enters r = (r ≡ reads (enter_of start m p) x) × Fine m p r

  enter-is : (c : Look) → l ≡ c → on_look c (priced true m (q + (length start + 5))) (fault 3 (length m)) (fault 4 q) ≡ enter_of start m p
  unfolding enter_of
  enter-is c h = rw (← place, ← e, h) refl

  entered_by_lem : (c : Look) → l ≡ c → (r : Going) → r ≡ reads (on_look c (priced true m (q + (length start + 5))) (fault 3 (length m)) (fault 4 q)) x → Fine m p r → Enters r
  entered_by_lem c h r i f = (i ∙ ap (λ (t : Trace). reads t x) (enter-is c h), f)

  pub amount_within : l ≡ Whole → q + length start + 5 ≤ length m
  amount_within h = omega (arith, tag_within m p x g (exactly start ++ currency) q place within l e h, tag_length start)

  module _ (h : l ≡ Whole) (b : Bool) (is : b ≡ in_euro m (q + length start + 5)) where
    z : ℕ
    z = q + length start + 5

    same : q + (length start + 5) ≡ q + length start + 5
    same = omega arith

    pub enter_euro : b ≡ true → (r : Going) → r ≡ on (here (q + length start + 5) x) → Enters r
    enter_euro y r i =
        entered_by_lem Whole h r (i ∙ rw (same, ← is, y) refl)
        (rw i (good_at m (here p x) (q + length start + 5) g (amount_within h), omega (arith, place)))

    pub enter_other : b ≡ false → (c : ℕ) → c ≡ currency_place (q + length start + 5) → (r : Going) → r ≡ stop 6 c → Enters r
    unfolding currency_place
    enter_other y c w r i = entered_by_lem Whole h r (i ∙ rw (same, ← is, y, w) refl) (rw i (omega (arith, w, amount_within h)))

  pub enter_cut : l ≡ Cut → (r : Going) → r ≡ stop 3 (length m) → Enters r
  enter_cut h r i = entered_by_lem Cut h r i (rw i (omega arith))

  pub enter_missing : l ≡ Other → (r : Going) → r ≡ stop 4 q → Enters r
  enter_missing h r i = entered_by_lem Other h r i (rw i within)

-- ---- it notes nothing
enter_keeps : (m start : List ℕ) (p : ℕ) (x : Notes) (P : Notes → Type 0) → P x → Behind (reads (enter_of start m p) x) P
unfolding enter_of
enter_keeps m start p x P h = go (look (exactly start ++ currency) (drop (skipped m p) m)) (in_euro m (skipped m p + (length start + 5)))
  where
    go : (c : Look) (b : Bool)
        → Behind (reads (on_look c (pick b (up_to (skipped m p + (length start + 5))) (fault 6 (currency_place (skipped m p + (length start + 5))))) (fault 3 (length m)) (fault 4 (skipped m p))) x) P
    go Whole true = h
    go Whole false = tt
    go Cut b = tt
    go Other b = tt

pub enter_behind : (m start : List ℕ) (p : ℕ) (x : Notes) (s : Going) (P : Notes → Type 0) → s ≡ reads (enter_of start m p) x → P x → Behind s P
enter_behind m start p x s P e h = rw e (enter_keeps m start p x P h)

enter_placed : (m start : List ℕ) (p : ℕ) (x : Notes) (l : List ℕ) → placed (enter_of start m p) x l ≡ l
unfolding enter_of
enter_placed m start p x l = go (look (exactly start ++ currency) (drop (skipped m p) m)) (in_euro m (skipped m p + (length start + 5)))
  where
    go : (c : Look) (b : Bool)
        → placed (on_look c (pick b (up_to (skipped m p + (length start + 5))) (fault 6 (currency_place (skipped m p + (length start + 5))))) (fault 3 (length m)) (fault 4 (skipped m p))) x l ≡ l
    go Whole true = refl
    go Whole false = refl
    go Cut b = refl
    go Other b = refl

pub entered : {m : List ℕ} {x : Notes} {l : List ℕ} {r : Going} (start : List ℕ) (p : ℕ) → (r ≡ reads (enter_of start m p) x) × Fine m p r → Makes m (enter_of start m p) x l r l
entered {m = m} {x = x} {l = l} {r = r} start p i = makes_by p r (i.0, i.1, sym (enter_placed m start p x l))

-- ---- the definition
pub amount_is : (n : String) (k : Kind) (f : Field) (rest : Shape) (m : List ℕ) → is_amount k ≡ true → (p : ℕ)
    → trace (leaf once n k f rest) m p ≡ and_then (amount_of (amount_tag n) (end_tag n) k f m p) (trace rest m)
unfolding enter_of
amount_is n k f rest m is p = go (is_amount k) is
  where
    q : ℕ
    q = skipped m p

    z : ℕ
    z = q + length (exactly (amount_tag n) ++ currency)

    after : Trace
    after = and_then (priced true m (q + (length (amount_tag n) + 5))) (valued_by (exactly (end_tag n)) k f m)

    same : and_then (and_then (priced true m z) (valued n k f m)) (ends once) ≡ after
    same =
        once_ends (and_then (priced true m z) (valued n k f m))
        ∙ (ap (λ (i : ℕ). and_then (priced true m (q + i)) (valued n k f m)) (tag_length (amount_tag n))
        ∙ then_each (priced true m (q + (length (amount_tag n) + 5))) (valued n k f m) (valued_by (exactly (end_tag n)) k f m) (λ i. valued_is m n k f i i refl))

    by-look : (c : Look) → on_look c (and_then (and_then (and_then (priced true m z) (valued n k f m)) (ends once)) (trace rest m)) (fault 3 (length m)) (fault 4 q)
        ≡ and_then (and_then (on_look c (priced true m (q + (length (amount_tag n) + 5))) (fault 3 (length m)) (fault 4 q)) (valued_by (exactly (end_tag n)) k f m)) (trace rest m)
    by-look Whole = ap (λ (u : Trace). and_then u (trace rest m)) same
    by-look Cut = refl
    by-look Other = refl

    go : (b : Bool) → b ≡ true
        → on_look (look (start_tag b n) (drop q m)) (and_then (and_then (and_then (priced b m (q + length (start_tag b n))) (valued n k f m)) (ends once)) (trace rest m)) (fault 3 (length m)) (fault 4 q)
        ≡ and_then (and_then (on_look (look (exactly (amount_tag n) ++ currency) (drop q m)) (priced true m (q + (length (amount_tag n) + 5))) (fault 3 (length m)) (fault 4 q))
        (valued_by (exactly (end_tag n)) k f m)) (trace rest m)
    go false h = never (cc)
    go true h = by-look (look (exactly (amount_tag n) ++ currency) (drop q m))
