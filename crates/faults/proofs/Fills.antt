-- The shortest text of a tree that has the payment type: a document's without white space and with empty values, so it is read whole wherever it stands.
use mathlib.Core.Path.{◌≡◌, refl, ap, ◌∙◌}
use mathlib.Core.Bool.{Bool, true, false}
use mathlib.Core.List.{List, [], ◌∷◌, ◌++◌, append-nil}
use Prim.Native.Nat.{ℕ, ◌+◌, ◌≤◌}
use Prim.Native.String.{String}
use native.Mathlib.Omega.{arith}
use lib.ListN.{length, drop, length-append}
use Rattle.text.specs.Truth.{pick}
use Rattle.tags.specs.Tags.{end_tag, plain_tag, exactly, start_tag}
use Rattle.tags.proofs.Looks.{look_text}
use Rattle.profile.specs.declared.Kind.{Kind}
use Rattle.profile.specs.declared.Field.{Field}
use Rattle.profile.specs.Kinds.{is_amount}
use Rattle.profile.specs.Tree.{Occ, once, optional, many, more, Shape, end, leaf, group}
use Rattle.profile.specs.Profile.{is_type}
use Rattle.reading.specs.Trace.{What, item_begins, item_ends, there, absent, value, Entry, ◌at◌, Trace, met, up_to, begins, ends, closed, valued, leaf_body, group_body, follow, trace}
use Rattle.reading.specs.Rules.{types_in}
use Rattle.reading.proofs.Lists.{types_append}
use Rattle.reading.proofs.Flat.{Whole}
use Rattle.documents.specs.Document.{Led, Doc, opening, led_text, texts, text, Often, Each, Tagless, LedBy, Proper}
use Rattle.documents.specs.Said.{each, none, said}
use Rattle.documents.proofs.Sure.{unless_once, apart, sure}
use Rattle.documents.proofs.Texts.{look_opening, opening_length, Starts, opening_starts, plain_starts}
use Rattle.documents.proofs.Told.{Told}
use Rattle.documents.proofs.Typed.{lacking, lacking_append}
use Rattle.documents.proofs.Rows.{follow_tells}
use Rattle.documents.proofs.Complete.{asked_for, closes, value_told, leaf_told, group_told, apart_other, trace_skips, trace_tells}
use Rattle.faults.specs.Completed.{full}
use Rattle.faults.proofs.Lacks.{Lack, lack_flat}

-- an element's beginning and end add at most an entry
pub begins_by : (P : Trace → Type 0) → ((e : Entry) (t : Trace) → P t → P (met e t)) → (o : Occ) (n : String) (p : ℕ) (t : Trace) → P t → P (begins o n p t)
begins_by P k once n p t h = h
begins_by P k optional n p t h = k (there n at p) t h
begins_by P k many n p t h = k (item_begins at p) t h
begins_by P k more n p t h = k (item_begins at p) t h

pub ends_by : (P : Trace → Type 0) → ((e : Entry) (t : Trace) → P t → P (met e t)) → (o : Occ) (p : ℕ) → P (up_to p) → P (ends o p)
ends_by P k once p h = h
ends_by P k optional p h = h
ends_by P k many p h = k (item_ends at p) (up_to p) h
ends_by P k more p h = k (item_ends at p) (up_to p) h

pub starts_more : (y z : List ℕ) → Starts y → Starts (y ++ z)
starts_more y z l = record { rest = l.rest ++ z; is = rw l.is }

-- ---- a text that is read whole wherever it stands, and in which no payment type is missing
abbrev pub Fills : (List ℕ → ℕ → Trace) → List ℕ → Type 0
Fills F y = (m : List ℕ) (p : ℕ) (z : List ℕ) → drop p m ≡ y ++ z → Whole (F m p) (p + length y) × (Lack (F m p) ≡ 0)

-- what tells nothing of it
told_fills : {t : Trace} {q : ℕ} {ws : List What} → Told t q ws → lacking (types_in ws) ≡ 0 → Whole t q × (Lack t ≡ 0)
told_fills {t} h e = (h.whole, lack_flat t ∙ (ap (λ (l : List What). lacking (types_in l)) h.says ∙ e))

pub closed_fills : (n : String) → Fills (closed n) (end_tag n)
closed_fills n m p z e = told_fills (closes m n p z e) refl

pub valued_fills : (n : String) (k : Kind) (f : Field) → Fills (valued n k f) (end_tag n)
valued_fills n k f m p z e = told_fills (value_told m n k f [] refl p z e) refl

-- ---- the shortest document: each element as often as it must come, and the payment type wherever it may stand
abbrev pub as_due : {A : Type 0} → Occ → String → A → List (Led A)
as_due once n x = record { blank = []; held = x } ∷ []
as_due optional n x = pick (is_type n) (record { blank = []; held = x } ∷ []) []
as_due many n x = record { blank = []; held = x } ∷ []
as_due more n x = []

abbrev pub shortest : (sh : Shape) → Doc sh
shortest (end n) = []
shortest (leaf o n k f rest) = record { all = as_due o n []; others = shortest rest }
shortest (group o n inner rest) = record { all = as_due o n (shortest inner); others = shortest rest }

abbrev pub least : Shape → List ℕ
least sh = text sh (shortest sh)

module _ {A : Type 0} (n : String) (x : A) where
  abbrev this : List (Led A)
  this = record { blank = []; held = x } ∷ []

  due-often : (o : Occ) → Often o (length (as_due o n x))
  due-often once = refl
  due-often optional = go (is_type n)
    where
      go : (b : Bool) → length (pick b this []) ≤ 1
      go true = omega arith
      go false = omega arith
  due-often many = omega arith
  due-often more = omega arith

  due-each : (P : A → Type 0) → P x → (o : Occ) → Each (LedBy P) (as_due o n x)
  due-each P h once = ((refl, h), tt)
  due-each P h optional = go (is_type n)
    where
      go : (b : Bool) → Each (LedBy P) (pick b this [])
      go true = ((refl, h), tt)
      go false = tt
  due-each P h many = ((refl, h), tt)
  due-each P h more = tt

  due-length : (tag : List ℕ) (f : A → List ℕ) (o : Occ) → length (texts (led_text tag f) (as_due o n x)) ≤ length tag + length (f x)
  due-length tag f once = omega (arith, length-append (tag ++ f x) [], length-append tag (f x))
  due-length tag f optional = go (is_type n)
    where
      go : (b : Bool) → length (texts (led_text tag f) (pick b this [])) ≤ length tag + length (f x)
      go true = omega (arith, length-append (tag ++ f x) [], length-append tag (f x))
      go false = omega arith
  due-length tag f many = omega (arith, length-append (tag ++ f x) [], length-append tag (f x))
  due-length tag f more = omega arith

  -- no payment type is missing in it
  due-lack : (f : A → List What) (o : Occ) (r : List What) → lacking (types_in (f x)) ≡ 0 → lacking (types_in r) ≡ 0
      → lacking (types_in (none o n (as_due o n x) ++ (each o n f (as_due o n x) ++ r))) ≡ 0
  due-lack f o r h k = go o
    where
      behind : (l : List What) → lacking (types_in l) ≡ 0 → lacking (types_in (l ++ r)) ≡ 0
      behind l e = ap lacking (types_append l r) ∙ (lacking_append (types_in l) (types_in r) ∙ omega (arith, e, k))

      item : lacking (types_in ((f x ++ (item_ends ∷ [])) ++ [])) ≡ 0
      item = ap (λ (l : List What). lacking (types_in l)) (append-nil (f x ++ (item_ends ∷ []))) ∙ (ap lacking (types_append (f x) (item_ends ∷ []) ∙ append-nil (types_in (f x))) ∙ h)

      marked : (b : Bool) → is_type n ≡ b → lacking (types_in (none optional n (pick b this []) ++ (each optional n f (pick b this []) ++ r))) ≡ 0
      marked true e = rw e (behind (f x ++ []) (rw (append-nil (f x)) h))
      marked false e = rw e k

      go : (o : Occ) → lacking (types_in (none o n (as_due o n x) ++ (each o n f (as_due o n x) ++ r))) ≡ 0
      go once = behind (f x ++ []) (rw (append-nil (f x)) h)
      go optional = marked (is_type n) refl
      go many = behind ((f x ++ (item_ends ∷ [])) ++ []) item
      go more = k

shortest_proper : (sh : Shape) → Proper sh (shortest sh)
shortest_proper (end n) = refl
shortest_proper (leaf o n k f rest) = (due-often n [] o, due-each n [] Tagless refl o, shortest_proper rest)
shortest_proper (group o n inner rest) = (due-often n (shortest inner) o, due-each n (shortest inner) (Proper inner) (shortest_proper inner) o, shortest_proper rest)

shortest_lack : (sh : Shape) → lacking (types_in (said sh (shortest sh))) ≡ 0
shortest_lack (end n) = refl
shortest_lack (leaf o n k f rest) = due-lack n [] (λ v. value k f v ∷ []) o (said rest (shortest rest)) refl (shortest_lack rest)
shortest_lack (group o n inner rest) = due-lack n (shortest inner) (said inner) o (said rest (shortest rest)) (shortest_lack inner) (shortest_lack rest)

pub least_full : (sh : Shape) → length (least sh) ≤ full sh
least_full (end n) = omega arith
least_full (leaf o n k f rest) =
    let y : List ℕ = texts (led_text (opening k n) (λ v. v ++ end_tag n)) (as_due o n []) in
    omega (arith, length-append y (least rest), due-length n [] (opening k n) (λ v. v ++ end_tag n) o, opening_length k n, least_full rest)
least_full (group o n inner rest) =
    let y : List ℕ = texts (led_text (plain_tag n) (text inner)) (as_due o n (shortest inner)) in
    omega (arith, length-append y (least rest), due-length n (shortest inner) (plain_tag n) (text inner) o, least_full inner, least_full rest)

pub trace_fills : (sh : Shape) → sure sh ≡ true → Fills (trace sh) (least sh)
trace_fills sh t m p z e = told_fills (trace_tells m sh t (shortest sh) (shortest_proper sh) p z e) (shortest_lack sh)

-- ---- and so behind an element
one_more : (o : Occ) → Often o 1
one_more once = refl
one_more optional = omega arith
one_more many = omega arith
one_more more = omega arith

module _ (o : Occ) (n : String) (rest : Shape) (s : sure rest ≡ true) where
  pub leaf_follows : (k : Kind) (f : Field) → unless_once o (apart (start_tag (is_amount k) n) rest) ≡ true
      → Fills (λ m. follow o (length m) n (start_tag (is_amount k) n) m (leaf_body o n k f m) (trace rest m)) (least rest)
  leaf_follows k f t m p z e =
      let tag : List (ℕ → Bool) = start_tag (is_amount k) n in
      told_fills
      (follow_tells m o n tag (opening k n) (λ v. v ++ end_tag n) (λ v. value k f v ∷ []) Tagless (leaf_body o n k f m) (opening_starts k n) (look_opening k n) (leaf_told m o n k f)
      (trace rest m) (least rest) (said rest (shortest rest)) (trace_tells m rest s (shortest rest) (shortest_proper rest)) (trace_skips m rest)
      (λ a. apart_other m tag rest (asked_for o (apart tag rest) t a) (shortest rest) (shortest_proper rest)) [] tt (one_more o) (length m) (omega arith) p z e)
      (shortest_lack rest)

  pub group_follows : (inner : Shape) → sure inner ≡ true → unless_once o (apart (exactly (plain_tag n)) rest) ≡ true
      → Fills (λ m. follow o (length m) n (exactly (plain_tag n)) m (group_body o n (trace inner m)) (trace rest m)) (least rest)
  group_follows inner i t m p z e =
      let tag : List (ℕ → Bool) = exactly (plain_tag n) in
      told_fills
      (follow_tells m o n tag (plain_tag n) (text inner) (said inner) (Proper inner) (group_body o n (trace inner m)) (plain_starts n) (look_text (plain_tag n))
      (λ e h. group_told m o n (trace inner m) (text inner) (said inner) e (trace_tells m inner i e.held h))
      (trace rest m) (least rest) (said rest (shortest rest)) (trace_tells m rest s (shortest rest) (shortest_proper rest)) (trace_skips m rest)
      (λ a. apart_other m tag rest (asked_for o (apart tag rest) t a) (shortest rest) (shortest_proper rest)) [] tt (one_more o) (length m) (omega arith) p z e)
      (shortest_lack rest)
