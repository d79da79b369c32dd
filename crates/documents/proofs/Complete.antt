-- A document's text is read through, whatever follows it, and tells what the document says.
use mathlib.Core.Path.{◌≡◌, refl, ap, ◌∙◌}
use mathlib.Core.Bool.{Bool, true, false}
use mathlib.Core.List.{List, [], ◌∷◌, ◌++◌, append_assoc, append-nil}
use Prim.Native.Nat.{ℕ, suc, ◌+◌, ◌-◌, ◌<◌}
use Prim.Native.String.{String}
use native.Mathlib.Omega.{arith}
use borrow.Author.Tests.{lt-ltb}
use lib.ListN.{length, take, drop, length-append, length-drop}
use lib.Seq.{take-append_seam}
use Rattle.text.specs.Truth.{both, pick, lead}
use Rattle.text.specs.Quoted.{bytes}
use Rattle.text.proofs.Truths.{both_true}
use Rattle.text.proofs.Scan.{lead_before}
use Rattle.tags.specs.declared.Look.TheVariants.{Other}
use Rattle.tags.specs.Tags.{skipped, look, exactly, end_tag, plain_tag, amount_tag, start_tag, currency_place, in_euro}
use Rattle.tags.specs.Values.{in_value}
use Rattle.tags.proofs.Looks.{look_text, is_other, other_before}
use Rattle.tags.proofs.White.{skip_twice}
use Rattle.profile.specs.declared.Kind.{Kind}
use Rattle.profile.specs.declared.Field.{Field}
use Rattle.profile.specs.Kinds.{is_amount}
use Rattle.profile.specs.Tree.{Occ, once, optional, many, more, Shape, end, leaf, group}
use Rattle.reading.specs.Trace.{What, value, Trace, up_to, and_then, begins, ends, priced, closed, valued, leaf_body, group_body, follow, trace}
use Rattle.documents.specs.Document.{Led, Doc, opening, led_text, texts, text, Often, Each, White, Tagless, LedBy, Proper}
use Rattle.documents.specs.Said.{one, said}
use Rattle.documents.proofs.Sure.{unless_once, unless_due, apart, sure}
use Rattle.documents.proofs.Texts.{past, look_opening, opening_length, Starts, opening_starts, plain_starts, end_starts, skip_to}
use Rattle.documents.proofs.Told.{Told, told_then, told_as}
use Rattle.documents.proofs.Rows.{turn_skipped, Tells, Passing, child_tells}

-- where an element may be passed over, its tag is known from what may come instead
pub asked_for : (o : Occ) (b : Bool) → unless_once o b ≡ true → Passing o → b ≡ true
asked_for once b h a = absurd a
asked_for optional b h a = h
asked_for many b h a = h
asked_for more b h a = h

-- an element's beginning and end, around what it holds
pub around : {A : Type 0} (o : Occ) (n : String) (g : A → List What) (e : Led A) (p q : ℕ) (t : Trace) → Told t q (g e.held) → Told (begins o n p (and_then t (ends o))) q (one o n g e)
around once n g e p q t h = told_as refl (append-nil (g e.held)) (told_then t (ends once) q q (g e.held) [] h (record { whole = refl; says = refl }))
around optional n g e p q t h =
    let r = told_then t (ends optional) q q (g e.held) [] h (record { whole = refl; says = refl }) in
    record { whole = r.whole; says = rw (r.says, append-nil (g e.held)) }
around many n g e p q t h =
    let r = told_then t (ends many) q q (g e.held) _ h (record { whole = refl; says = refl }) in
    record { whole = r.whole; says = rw r.says }
around more n g e p q t h =
    let r = told_then t (ends more) q q (g e.held) _ h (record { whole = refl; says = refl }) in
    record { whole = r.whole; says = rw r.says }

module _ (m : List ℕ) where
  -- ---- an end tag that is there
  pub closes : (n : String) → Tells m (closed n m) (end_tag n) []
  unfolding closed
  closes n p s e = rw (e, look_text (end_tag n) s) (record { whole = refl; says = refl })

  -- ---- a value and its end tag
  pub value_told : (n : String) (k : Kind) (f : Field) (v : List ℕ) → Tagless v → Tells m (valued n k f m) (v ++ end_tag n) (value k f v ∷ [])
  unfolding valued
  value_told n k f v h p s e =
      rw (wide, lt-ltb (p + length v) (length m) fits, ap (take (length v)) here ∙ take-append_seam v (end_tag n ++ s))
      (let r = closes n (p + length v) s behind in
      record { whole = rw (← sum) r.whole; says = ap (λ (l : List What). value k f v ∷ l) r.says })
    where
      here : drop p m ≡ v ++ (end_tag n ++ s)
      here = e ∙ append_assoc v (end_tag n) s

      wide : lead in_value (drop p m) ≡ length v
      wide = ap (lead in_value) here ∙ lead_before in_value v 60 (47 ∷ (bytes n ++ bytes ">") ++ s) h refl

      behind : drop (p + length v) m ≡ end_tag n ++ s
      behind = past m v (end_tag n ++ s) p here

      fits : p + length v < length m
      fits =
          let z : length (drop (p + length v) m) ≡ suc (length (47 ∷ (bytes n ++ bytes ">") ++ s)) = ap length behind in
          omega (arith, z, length-drop (p + length v) m)

      sum : p + length v + length (end_tag n) ≡ p + length (v ++ end_tag n)
      sum = omega (arith, length-append v (end_tag n))

  -- ---- the currency of an amount whose start tag lies before
  priced-euro : (k : Kind) (n : String) (p : ℕ) (s : List ℕ) → drop p m ≡ opening k n ++ s → priced (is_amount k) m (p + length (opening k n)) ≡ up_to (p + length (opening k n))
  unfolding in_euro currency_place
  priced-euro k n p s e = go (is_amount k) e
    where
      go : (b : Bool) → drop p m ≡ pick b (amount_tag n ++ bytes "EUR\">") (plain_tag n) ++ s
          → priced b m (p + length (pick b (amount_tag n ++ bytes "EUR\">") (plain_tag n))) ≡ up_to (p + length (pick b (amount_tag n ++ bytes "EUR\">") (plain_tag n)))
      go false e = refl
      go true e =
          let z : p + length (amount_tag n ++ bytes "EUR\">") - 5 ≡ p + length (amount_tag n) = omega (arith, length-append (amount_tag n) (bytes "EUR\">")) in
          let y : drop (p + length (amount_tag n)) m ≡ bytes "EUR\">" ++ s = past m (amount_tag n) (bytes "EUR\">" ++ s) p (e ∙ append_assoc (amount_tag n) (bytes "EUR\">") s) in
          rw (z, y)

  -- ---- an element of a value
  pub leaf_told : (o : Occ) (n : String) (k : Kind) (f : Field) (e : Led (List ℕ)) → Tagless e.held
      → Tells m (leaf_body o n k f m) (opening k n ++ (e.held ++ end_tag n)) (one o n (λ v. value k f v ∷ []) e)
  leaf_told o n k f e h p s z =
      around o n (λ v. value k f v ∷ []) e p (p + length (opening k n ++ inner)) (and_then (priced (is_amount k) m (p + length (start_tag (is_amount k) n))) (valued n k f m))
      (rw (opening_length k n, priced-euro k n p (inner ++ s) here)
      (told_as (omega (arith, length-append (opening k n) inner)) refl (value_told n k f e.held h (p + length (opening k n)) s (past m (opening k n) (inner ++ s) p here))))
    where
      inner : List ℕ
      inner = e.held ++ end_tag n

      here : drop p m ≡ opening k n ++ (inner ++ s)
      here = z ∙ append_assoc (opening k n) inner s

  -- ---- a group
  pub group_told : {A : Type 0} (o : Occ) (n : String) (inner : ℕ → Trace) (t : A → List ℕ) (g : A → List What) (e : Led A) → Tells m inner (t e.held) (g e.held)
      → Tells m (group_body o n inner) (plain_tag n ++ t e.held) (one o n g e)
  group_told o n inner t g e k p s z =
      around o n g e p (p + length (plain_tag n ++ t e.held)) (inner (p + length (plain_tag n)))
      (told_as (omega (arith, length-append (plain_tag n) (t e.held))) refl
      (k (p + length (plain_tag n)) s (past m (plain_tag n) (t e.held ++ s) p (z ∙ append_assoc (plain_tag n) (t e.held) s))))

  -- ---- a tag that is none of those that may come first is not there
  pub not_there_lem : (tag : List (ℕ → Bool)) (w u s : List ℕ) → White w → Starts (u ++ s) → is_other (look tag u) ≡ true → (p : ℕ) → drop p m ≡ w ++ (u ++ s)
      → look tag (drop (skipped m p) m) ≡ Other
  not_there_lem tag w u s h b d p e =
      ap (λ (x : ℕ). look tag (drop x m)) (skip_to m p w (u ++ s) h b e)
      ∙ ap (look tag) (past m w (u ++ s) p e)
      ∙ other_before tag u s d

  -- the first element of a row, or what comes after an empty one
  first-differs : {A : Type 0} (tag : List (ℕ → Bool)) (o : Occ) (tb : List ℕ) (f : A → List ℕ) (P : A → Type 0) (c : Bool) (l : List (Led A)) (rt : List ℕ)
      → ((s : List ℕ) → Starts (tb ++ s)) → both (is_other (look tag tb)) (unless_due o c) ≡ true → Often o (length l) → Each (LedBy P) l
      → (c ≡ true → (p : ℕ) (s : List ℕ) → drop p m ≡ rt ++ s → look tag (drop (skipped m p) m) ≡ Other)
      → (p : ℕ) (s : List ℕ) → drop p m ≡ (texts (led_text tb f) l ++ rt) ++ s → look tag (drop (skipped m p) m) ≡ Other
  first-differs tag o tb f P c [] rt b d h pr k p s e = k (due o h (both_true (is_other (look tag tb)) (unless_due o c) d).1) p s e
    where
      due : (o : Occ) → Often o 0 → unless_due o c ≡ true → c ≡ true
      due once h z = absurd (let y : ⊥ = omega arith in y)
      due optional h z = z
      due many h z = absurd (let y : ⊥ = omega arith in y)
      due more h z = z
  first-differs tag o tb f P c (x ∷ l) rt b d h pr k p s e =
      not_there_lem tag x.blank tb (f x.held ++ (texts (led_text tb f) l ++ (rt ++ s))) pr.0.0 (b (f x.held ++ (texts (led_text tb f) l ++ (rt ++ s))))
      (both_true (is_other (look tag tb)) (unless_due o c) d).0 p (e ∙ simp append_assoc)

  pub apart_other : (tag : List (ℕ → Bool)) (sh : Shape) → apart tag sh ≡ true → (d : Doc sh) → Proper sh d → (p : ℕ) (s : List ℕ) → drop p m ≡ text sh d ++ s
      → look tag (drop (skipped m p) m) ≡ Other
  apart_other tag (end n) a w pr p s e = not_there_lem tag w (end_tag n) s pr (end_starts n s) a p (e ∙ append_assoc w (end_tag n) s)
  apart_other tag (leaf o n k f rest) a d pr p s e =
      first-differs tag o (opening k n) (λ v. v ++ end_tag n) Tagless (apart tag rest) d.all (text rest d.others) (opening_starts k n) a pr.0 pr.1
      (λ z. apart_other tag rest z d.others pr.2) p s e
  apart_other tag (group o n inner rest) a d pr p s e =
      first-differs tag o (plain_tag n) (text inner) (Proper inner) (apart tag rest) d.all (text rest d.others) (plain_starts n) a pr.0 pr.1
      (λ z. apart_other tag rest z d.others pr.2) p s e

  pub trace_skips : (sh : Shape) (p : ℕ) → trace sh m (skipped m p) ≡ trace sh m p
  trace_skips (end n) p = ap (closed n m) (skip_twice m p)
  trace_skips (leaf o n k f rest) p =
      let tag = start_tag (is_amount k) n in
      turn_skipped m o n tag (leaf_body o n k f m) (follow o (length m) n tag m (leaf_body o n k f m) (trace rest m)) (trace rest m) p
  trace_skips (group o n inner rest) p =
      let tag = exactly (plain_tag n) in
      let body = group_body o n (trace inner m) in
      turn_skipped m o n tag body (follow o (length m) n tag m body (trace rest m)) (trace rest m) p

  -- ---- a document's text is read through, and tells what the document says, whatever follows
  pub trace_tells : (sh : Shape) → sure sh ≡ true → (d : Doc sh) → Proper sh d → Tells m (trace sh m) (text sh d) (said sh d)
  trace_tells (end n) a w pr p s e =
      rw (skip_to m p w (end_tag n ++ s) pr (end_starts n s) here)
      (told_as (omega (arith, length-append w (end_tag n))) refl (closes n (p + length w) s (past m w (end_tag n ++ s) p here)))
    where
      here : drop p m ≡ w ++ (end_tag n ++ s)
      here = e ∙ append_assoc w (end_tag n) s
  trace_tells (leaf o n k f rest) a d pr p s e =
      child_tells m o n (start_tag (is_amount k) n) (opening k n) (λ v. v ++ end_tag n) (λ v. value k f v ∷ []) Tagless (leaf_body o n k f m) (opening_starts k n) (look_opening k n)
      (leaf_told o n k f) (trace rest m) (text rest d.others) (said rest d.others) (trace_tells rest b.1 d.others pr.2) (trace_skips rest)
      (λ z. apart_other (start_tag (is_amount k) n) rest (asked_for o (apart (start_tag (is_amount k) n) rest) b.0 z) d.others pr.2) d.all pr.1 pr.0 p s e
    where
      b : (unless_once o (apart (start_tag (is_amount k) n) rest) ≡ true) × (sure rest ≡ true)
      b = both_true (unless_once o (apart (start_tag (is_amount k) n) rest)) (sure rest) a
  trace_tells (group o n inner rest) a d pr p s e =
      child_tells m o n (exactly (plain_tag n)) (plain_tag n) (text inner) (said inner) (Proper inner) (group_body o n (trace inner m)) (plain_starts n) (look_text (plain_tag n))
      (λ e h. group_told o n (trace inner m) (text inner) (said inner) e (trace_tells inner c.0 e.held h)) (trace rest m) (text rest d.others) (said rest d.others)
      (trace_tells rest c.1 d.others pr.2) (trace_skips rest)
      (λ z. apart_other (exactly (plain_tag n)) rest (asked_for o (apart (exactly (plain_tag n)) rest) b.0 z) d.others pr.2) d.all pr.1 pr.0 p s e
    where
      b : (unless_once o (apart (exactly (plain_tag n)) rest) ≡ true) × (both (sure inner) (sure rest) ≡ true)
      b = both_true (unless_once o (apart (exactly (plain_tag n)) rest)) (both (sure inner) (sure rest)) a

      c : (sure inner ≡ true) × (sure rest ≡ true)
      c = both_true (sure inner) (sure rest) b.1
