-- The exact readers: a value's element by its tags, one after another, is what the definition reads.
use Rattle.std.proofs.Common.{◌≡◌, ℕ, ◌+◌, ◌-◌, ◌≤◌, Bool, true, false, List, length, take, drop, sym, refl, ap, ◌∙◌, arith}
use Prim.Native.String.{String}
use Rattle.std.specs.Prelude.{Err}
use Rattle.answers.specs.declared.Refused.{Refused}
use Rattle.answers.specs.Refusals.{refusal_number}
use Rattle.text.specs.Truth.{lead, pick}
use Rattle.text.proofs.Truths.{never}
use Rattle.text.proofs.Scan.{rest_of}
use Rattle.tags.specs.declared.Look.{Look}
use Rattle.tags.specs.declared.Look.TheVariants.{Whole, Cut, Other}
use Rattle.tags.specs.Tags.{white, skipped, look, on_look, exactly, plain_tag, end_tag, start_tag}
use Rattle.tags.specs.Values.{behind_value}
use Rattle.tags.proofs.Looks.{exactly_length}
use Rattle.profile.specs.declared.Kind.{Kind}
use Rattle.profile.specs.declared.Kind.TheVariants.{Plain, Count, Total, Amount, Code}
use Rattle.profile.specs.declared.Simple.TheVariants.{Reference, EndToEnd}
use Rattle.profile.specs.declared.Field.{Field}
use Rattle.profile.specs.declared.Field.TheVariants.{InstrId, EndToEndId, TxId}
use Rattle.profile.specs.Kinds.{is_amount}
use Rattle.profile.specs.Tree.{once, optional, Shape, end, leaf}
use Rattle.profile.specs.Profile.{is_type}
use Rattle.items.specs.Sums.{of_amount}
use Rattle.reading.specs.Trace.{there, absent, ◌at◌, Trace, met, up_to, fault, and_then, ends, priced, valued, trace}
use Rattle.reading.specs.Noted.{Reading, on, stop, onward, Ended}
use Rattle.reading.proofs.Flat.{noted_then, then_then}
use Rattle.notes.specs.declared.Notes.{Notes}
use Rattle.notes.specs.Notes.{added_up, type_noted, in_notes}
use Rattle.notes.specs.Steps.{stepped, reads, Good, Fine}
use Rattle.notes.proofs.Notings.{here}
use Rattle.notes.proofs.Stays.{later, good_at}
use Rattle.engine.specs.Engine.{closed_by, valued_by, or_else, placed}
use Rattle.engine.proofs.Steps.{spaces_fit}
use Rattle.engine.proofs.Placed.{then_placed, closed_placed}
use Rattle.engine.proofs.Steps.{closed_by_lem}
use Rattle.straight.specs.Due.{run, done, inside, Made, made}
use Rattle.straight.specs.Exact.{leaf_of, end_of, Makes}
use Rattle.straight.specs.Pieces.{pmt_id, end_to_end_id, tx_id}
use Rattle.straight.proofs.Made.{made_met, made_same, Alike, once_ends, may_ends}

abbrev Going : Type 0
Going = Reading (Ended Notes)

-- a refusal at a place ends the reading
pub refused_at : (r s : Refused) → r ≡ s → stepped (Err r) ≡ stop (refusal_number s.why) s.at
refused_at r s e = rw e refl

-- the running sum stays where no amount is noted
pub plain_added : (k : Kind) (n : Notes) → of_amount k ≡ 0 → added_up k n ≡ n
plain_added (Plain s) n h = refl
plain_added Count n h = refl
plain_added Total n h = refl
plain_added Amount n h = never (sym h)
plain_added (Code e) n h = refl

-- what is shown of a reading from a place on
pub makes_by : {m : List ℕ} {t : Trace} {n : Notes} {l : List ℕ} {y : List ℕ} (p : ℕ) (x : Going) → (x ≡ reads t n) × Fine m p x × (y ≡ placed t n l) → Makes m t n l x y
makes_by {m = m} p x i = record { is = i.0; fine = later m 0 p (omega arith) x i.1; places = i.2 }

-- ---- one step behind another
-- what x and y are behind a reading r
abbrev pub MakesThen : List ℕ → (ℕ → Trace) → Going → List ℕ → Going → List ℕ → Type 0
MakesThen m t r l x y = (x ≡ onward r (λ s. reads (t s.at) s.notes)) × Fine m 0 x × (y ≡ or_else r (λ s. placed (t s.at) s.notes l) l)

module _ (m : List ℕ) (r : Going) (t : ℕ → Trace) (h : Fine m 0 r) (l : List ℕ) where
  pub then_on : (s : Ended Notes) → on s ≡ r → (x : Going) (y : List ℕ) → Makes m (t s.at) s.notes l x y → MakesThen m t r l x y
  then_on s e x y i = (i.is ∙ rw (← e) refl, i.fine, i.places ∙ rw (← e) refl)

pub skipped_is : (m : List ℕ) (p : ℕ) (n : ℕ) → n ≡ lead white (take (length m - p) (drop p m)) → p + n ≡ skipped m p
skipped_is m p n e = ap (λ (i : ℕ). p + i) (e ∙ ap (lead white) (rest_of p m))

pub skipped_good : (m : List ℕ) (p : ℕ) (x : Notes) (n : ℕ) → Good m (here p x) → n ≡ lead white (take (length m - p) (drop p m)) → (s : Ended Notes) → s ≡ here (p + n) x → Good m s
skipped_good m p x n g e s i = rw i (good_at m (here p x) (p + n) g (spaces_fit m p n g.within e))

-- a group's end
end_reads : (m finish : List ℕ) (p n : ℕ) (x : Notes) → n ≡ lead white (take (length m - p) (drop p m)) → (s : Ended Notes) → s ≡ here (p + n) x
    → reads (closed_by (exactly finish) m s.at) s.notes ≡ reads (end_of finish m p) x
unfolding end_of
end_reads m finish p n x e s i = rw (i, skipped_is m p n e)

pub end_placed : (m finish : List ℕ) (p : ℕ) (x : Notes) (l : List ℕ) → placed (end_of finish m p) x l ≡ l
unfolding end_of
end_placed m finish p x l = closed_placed m (exactly finish) (skipped m p) x l

-- with its place within the message
pub end_tag_makes : (m finish : List ℕ) (p n : ℕ) (x : Notes) → n ≡ lead white (take (length m - p) (drop p m)) → (s : Ended Notes) → s ≡ here (p + n) x
    → (r : Going) → r ≡ reads (closed_by (exactly finish) m s.at) s.notes → Fine m s.at r → (r ≡ reads (end_of finish m p) x) × Fine m p r
end_tag_makes m finish p n x e s i r j f = (j ∙ end_reads m finish p n x e s i, later m p s.at (omega (arith, ap (λ (z : Ended Notes). z.at) i)) r f)

-- ---- parts, one behind another
module _ (m : List ℕ) (x : Notes) (l : List ℕ) (t : Trace) (u : ℕ → Trace) where
  pub makes_then : (r : Going) (b : List ℕ) → Makes m t x l r b → (s : Going) (c : List ℕ) → MakesThen m u r b s c → Makes m (and_then t u) x l s c
  makes_then r b i s c j =
      let o : b ≡ placed t x l = i.places in makes_by 0 s (
        j.0 ∙ (ap (λ (a : Going). onward a (λ z. reads (u z.at) z.notes)) i.is ∙ sym (noted_then in_notes t u x)),
        j.1,
        j.2 ∙ (ap (λ (a : Going). or_else a (λ z. placed (u z.at) z.notes b) b) i.is
            ∙ (ap (λ (d : List ℕ). or_else (reads t x) (λ z. placed (u z.at) z.notes d) d) o ∙ sym (then_placed t u x l))),
      )

-- what is made of it is made of whatever is alike
pub makes_as : (m : List ℕ) (x : Notes) (l : List ℕ) (t a : Trace) → made t x l ≡ made a x l → (r : Going) (b : List ℕ) → Makes m t x l r b → Makes m a x l r b
makes_as m x l t a e r b i = record { is = i.is ∙ ap (λ (d : Made). d.notes) e; fine = i.fine; places = i.places ∙ ap (λ (d : Made). d.places) e }

pub ends_then : (m finish : List ℕ) (r s : Going) (b : List ℕ) → s ≡ onward r (λ z. reads (end_of finish m z.at) z.notes) → Fine m 0 s → MakesThen m (end_of finish m) r b s b
ends_then m finish r s b e f = (e, f, go r)
  where
    go : (a : Going) → b ≡ or_else a (λ z. placed (end_of finish m z.at) z.notes b) b
    go (on z) = sym (end_placed m finish z.at z.notes b)
    go (stop n q) = refl

-- ---- the definition, child by child
module _ (m : List ℕ) (t : Trace) (x : Notes) (l : List ℕ) where
  -- what follows is of two parts
  pub made_on : (g h k : ℕ → Trace) → Alike g (λ p. and_then (h p) k) → made (and_then t g) x l ≡ made (and_then (and_then t h) k) x l
  made_on g h k e = made_same t g (λ p. and_then (h p) k) x l e ∙ ap (λ (u : Trace). made u x l) (sym (then_then t h k))

pub end_is : (m : List ℕ) (n : String) (p : ℕ) → trace (end n) m p ≡ end_of (end_tag n) m p
unfolding end_of
end_is m n p = sym (closed_by_lem m n (exactly (end_tag n)) (skipped m p) refl)

pub valued_is : (m : List ℕ) (n : String) (k : Kind) (f : Field) (p q : ℕ) → p ≡ q → valued n k f m p ≡ valued_by (exactly (end_tag n)) k f m q
unfolding valued_by valued
valued_is m n k f p q e = rw (e, closed_by_lem m n (exactly (end_tag n)) (behind_value m q) refl)

module _ (n : String) (k : Kind) (f : Field) (rest : Shape) (m : List ℕ) (no : is_amount k ≡ false) where
  abbrev one : Bool → ℕ → Trace
  one may = leaf_of may (plain_tag n) (end_tag n) k f m

  abbrev on_to : ℕ → Trace
  on_to = trace rest m

  body_is : (o : ℕ → Trace) → ((u : Trace) → and_then u o ≡ u) → (q : ℕ)
      → and_then (valued n k f m (q + length (exactly (plain_tag n)))) o ≡ valued_by (exactly (end_tag n)) k f m (q + length (plain_tag n))
  body_is o h q = h (valued n k f m (q + length (exactly (plain_tag n)))) ∙ valued_is m n k f (q + length (exactly (plain_tag n))) (q + length (plain_tag n))
      (ap (λ (i : ℕ). q + i) (exactly_length (plain_tag n)))

  pub child_once : (p : ℕ) → trace (leaf once n k f rest) m p ≡ and_then (one false p) on_to
  unfolding leaf_of
  child_once p = go (is_amount k) no
    where
      q : ℕ
      q = skipped m p

      by-look : (c : Look) → on_look c (and_then (and_then (valued n k f m (q + length (exactly (plain_tag n)))) (ends once)) on_to) (fault 3 (length m)) (fault 4 q)
          ≡ and_then (on_look c (valued_by (exactly (end_tag n)) k f m (q + length (plain_tag n))) (fault 3 (length m)) (fault 4 q)) on_to
      by-look Whole = ap (λ (u : Trace). and_then u on_to) (body_is (ends once) once_ends q)
      by-look Cut = refl
      by-look Other = refl

      go : (b : Bool) → b ≡ false
          → on_look (look (start_tag b n) (drop q m)) (and_then (and_then (and_then (priced b m (q + length (start_tag b n))) (valued n k f m)) (ends once)) on_to) (fault 3 (length m)) (fault 4 q)
          ≡ and_then (on_look (look (exactly (plain_tag n)) (drop q m)) (valued_by (exactly (end_tag n)) k f m (q + length (plain_tag n))) (fault 3 (length m)) (fault 4 q)) on_to
      go true h = never (cc)
      go false h = by-look (look (exactly (plain_tag n)) (drop q m))

  -- one that is 0 or 1, and not the payment type
  pub child_may : is_type n ≡ false → (p : ℕ) (x : Notes) (l : List ℕ) → made (trace (leaf optional n k f rest) m p) x l ≡ made (and_then (one true p) on_to) x l
  unfolding leaf_of
  child_may z p x l = go (is_amount k) no
    where
      q : ℕ
      q = skipped m p

      quiet : (b : Bool) → pick (is_type n) (type_noted b q x) (on x) ≡ on x
      quiet b = ap (λ (c : Bool). pick c (type_noted b q x) (on x)) z

      by-look : (c : Look) → made (on_look c (met (there n at q) (and_then (and_then (valued n k f m (q + length (exactly (plain_tag n)))) (ends optional)) on_to)) (fault 3 (length m))
          (met (absent n at q) (on_to q))) x l
          ≡ made (and_then (on_look c (valued_by (exactly (end_tag n)) k f m (q + length (plain_tag n))) (fault 3 (length m)) (up_to q)) on_to) x l
      by-look Whole =
          made_met (there n at q) (and_then (and_then (valued n k f m (q + length (exactly (plain_tag n)))) (ends optional)) on_to) x x l (quiet true)
          ∙ ap (λ (u : Trace). made (and_then u on_to) x l) (body_is (ends optional) may_ends q)
      by-look Cut = refl
      by-look Other = made_met (absent n at q) (on_to q) x x l (quiet false)

      go : (b : Bool) → b ≡ false
          → made (on_look (look (start_tag b n) (drop q m)) (met (there n at q) (and_then (and_then (and_then (priced b m (q + length (start_tag b n))) (valued n k f m)) (ends optional)) on_to))
          (fault 3 (length m)) (met (absent n at q) (on_to q))) x l
          ≡ made (and_then (on_look (look (exactly (plain_tag n)) (drop q m)) (valued_by (exactly (end_tag n)) k f m (q + length (plain_tag n))) (fault 3 (length m)) (up_to q)) on_to) x l
      go true h = never (cc)
      go false h = by-look (look (exactly (plain_tag n)) (drop q m))

  pub next_once : (t : Trace) (x : Notes) (l : List ℕ) → made (and_then t (trace (leaf once n k f rest) m)) x l ≡ made (and_then (and_then t (one false)) on_to) x l
  next_once t x l = made_on m t x l (trace (leaf once n k f rest) m) (one false) on_to (λ p y j. ap (λ (u : Trace). made u y j) (child_once p))

pub next_end_lem : (n : String) (m : List ℕ) (t : Trace) (x : Notes) (l : List ℕ) → made (and_then t (trace (end n) m)) x l ≡ made (and_then t (end_of (end_tag n) m)) x l
next_end_lem n m t x l = made_same t (trace (end n) m) (end_of (end_tag n) m) x l (λ p y j. ap (λ (u : Trace). made u y j) (end_is m n p))

-- ---- the quick reader's answer
nothing_more : (m : List ℕ) (t : Trace) → and_then t (run done m) ≡ t
nothing_more m (met e t) = ap (met e) (nothing_more m t)
nothing_more m (up_to p) = refl
nothing_more m (fault n q) = refl

module _ (m : List ℕ) (p : ℕ) (x : Notes) (g : Good m (here p x)) (sh : Shape) where
  -- what is made at once
  pub made_makes : (r : ℕ) (y : Notes) (l k : List ℕ) → r ≤ length m → y.count ≡ x.count → made (run (inside sh done) m p) x l ≡ made (run done m r) y k → (a : Going) → a ≡ on (here r y)
      → Makes m (trace sh m p) x l a k
  made_makes r y l k h c e a i =
      let w : made (trace sh m p) x l ≡ made (up_to r) y k = ap (λ (t : Trace). made t x l) (sym (nothing_more m (trace sh m p))) ∙ e in
      let o : Good m (here r y) = record { small = g.small; within = h; counted = omega (arith, c, g.counted) } in
      makes_by 0 a (i ∙ sym (ap (λ (d : Made). d.notes) w), rw i (o, omega arith), sym (ap (λ (d : Made). d.places) w))

-- ---- what PmtId holds
pub pmt_made : (m : List ℕ) (p : ℕ) (x : Notes) (l : List ℕ)
    → made (and_then (and_then (and_then (leaf_of true (plain_tag "InstrId") (end_tag "InstrId") (Plain Reference) InstrId m p)
    (leaf_of false (plain_tag "EndToEndId") (end_tag "EndToEndId") (Plain EndToEnd) EndToEndId m))
    (leaf_of false (plain_tag "TxId") (end_tag "TxId") (Plain Reference) TxId m)) (end_of (end_tag "PmtId") m)) x l
    ≡ made (trace pmt_id m p) x l
unfolding is_type
pmt_made m p x l =
    let a = leaf_of true (plain_tag "InstrId") (end_tag "InstrId") (Plain Reference) InstrId m p in
    let b = and_then a (leaf_of false (plain_tag "EndToEndId") (end_tag "EndToEndId") (Plain EndToEnd) EndToEndId m) in
    let c = and_then b (leaf_of false (plain_tag "TxId") (end_tag "TxId") (Plain Reference) TxId m) in
    sym (child_may "InstrId" (Plain Reference) InstrId end_to_end_id m refl refl p x l
    ∙ (next_once "EndToEndId" (Plain EndToEnd) EndToEndId tx_id m refl a x l
    ∙ (next_once "TxId" (Plain Reference) TxId (end "PmtId") m refl b x l ∙ next_end_lem "PmtId" m c x l)))
