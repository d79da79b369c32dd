-- A child of a group, as often as it stands there, and what comes after it: its text is read through, and tells what it says.
use mathlib.Core.Path.{◌≡◌, refl, sym, ap, ◌∙◌}
use mathlib.Core.Bool.{Bool}
use mathlib.Core.List.{List, [], ◌∷◌, ◌++◌, append_assoc}
use Prim.Native.Nat.{ℕ, zero, suc, ◌+◌, ◌≤◌}
use Prim.Native.String.{String}
use native.Mathlib.Omega.{arith}
use lib.ListN.{length, drop, length-append, length-drop}
use Rattle.text.proofs.Truths.{never}
use Rattle.tags.specs.declared.Look.TheVariants.{Whole, Other}
use Rattle.tags.specs.Tags.{skipped, look, on_look}
use Rattle.tags.proofs.White.{skip_twice}
use Rattle.profile.specs.Tree.{Occ, once, optional, many, more}
use Rattle.reading.specs.Trace.{What, absent, Trace, fault, and_then, missing, turn, again, follow, child}
use Rattle.documents.specs.Document.{Led, led_text, texts, Often, Each, LedBy}
use Rattle.documents.specs.Said.{one, each, none}
use Rattle.documents.proofs.Texts.{past, Starts, skip_to}
use Rattle.documents.proofs.Told.{Told, told_then, told_as}

-- an element that need not come where it is looked for, or not again
abbrev pub Passing : Occ → Type 0
Passing once = ⊥
Passing optional = Unit {0}
Passing many = Unit {0}
Passing more = Unit {0}

-- where an element stands, none is missing
pub none_missing : {A : Type 0} (o : Occ) (n : String) (x : A) (l : List A) → none o n (x ∷ l) ≡ []
none_missing once n x l = refl
none_missing optional n x l = refl
none_missing many n x l = refl
none_missing more n x l = refl

module _ (m : List ℕ) where
  -- white space before a child is passed once
  pub turn_skipped : (o : Occ) (n : String) (tag : List (ℕ → Bool)) (body next rest : ℕ → Trace) (p : ℕ)
      → turn o n tag m body next rest (skipped m p) ≡ turn o n tag m body next rest p
  turn_skipped o n tag body next rest p =
      ap (λ (q : ℕ). on_look (look tag (drop q m)) (and_then (body q) next) (fault 3 (length m)) (missing o n q (rest q))) (skip_twice m p)

  -- a reader that reads through a text, whatever follows, and is told something by it
  abbrev pub Tells : (ℕ → Trace) → List ℕ → List What → Type 0
  Tells f t ws = (p : ℕ) (s : List ℕ) → drop p m ≡ t ++ s → Told (f p) (p + length t) ws

  module _ {A : Type 0} (o : Occ) (n : String) (tag : List (ℕ → Bool)) (tb : List ℕ) (f : A → List ℕ) (g : A → List What) (P : A → Type 0) (body : ℕ → Trace)
      (starts : (s : List ℕ) → Starts (tb ++ s)) (whole : (s : List ℕ) → look tag (tb ++ s) ≡ Whole)
      (told : (e : Led A) → P e.held → Tells body (tb ++ f e.held) (one o n g e)) where
    abbrev element_text : Led A → List ℕ
    element_text = led_text tb f

    -- an element has some bytes
    some_bytes : (e : Led A) → 1 ≤ length (element_text e)
    some_bytes e =
        let z : 1 ≤ length (tb ++ f e.held) = rw (starts (f e.held)).is (omega arith) in
        omega (arith, length-append e.blank (tb ++ f e.held), z)

    -- an element that stands there, and what comes after it
    pub turn_tells : (o' : Occ) (e : Led A) → LedBy P e → (next rest : ℕ → Trace) (t : List ℕ) (ws : List What) → Tells next t ws
        → Tells (turn o' n tag m body next rest) (element_text e ++ t) (one o n g e ++ ws)
    turn_tells o' e pr next rest t ws k p s h =
        rw (at_tag, there)
        (told_as width refl (told_then (body q) next (q + length inner) (q + length inner + length t) (one o n g e) ws
        (told e pr.1 q (t ++ s) here) (k (q + length inner) s (past m inner (t ++ s) q here))))
      where
        inner : List ℕ
        inner = tb ++ f e.held

        q : ℕ
        q = p + length e.blank

        split : drop p m ≡ e.blank ++ (inner ++ (t ++ s))
        split = h ∙ append_assoc (element_text e) t s ∙ append_assoc e.blank inner (t ++ s)

        at_tag : skipped m p ≡ q
        at_tag = skip_to m p e.blank (inner ++ (t ++ s)) pr.0 (begun (starts (f e.held ++ (t ++ s)))) split
          where
            begun : Starts (tb ++ (f e.held ++ (t ++ s))) → Starts (inner ++ (t ++ s))
            begun b = record { rest = b.rest; is = append_assoc tb (f e.held) (t ++ s) ∙ b.is }

        here : drop q m ≡ inner ++ (t ++ s)
        here = past m e.blank (inner ++ (t ++ s)) p split

        there : look tag (drop q m) ≡ Whole
        there = ap (look tag) (here ∙ append_assoc tb (f e.held) (t ++ s)) ∙ whole (f e.held ++ (t ++ s))

        width : q + length inner + length t ≡ p + length (element_text e ++ t)
        width = omega (arith, length-append (element_text e) t, length-append e.blank inner)

    -- what is due after the child
    module _ (rest : ℕ → Trace) (rt : List ℕ) (rs : List What) (rest-tells : Tells rest rt rs) (rest-skips : (p : ℕ) → rest (skipped m p) ≡ rest p)
        (other : Passing o → (p : ℕ) (s : List ℕ) → drop p m ≡ rt ++ s → look tag (drop (skipped m p) m) ≡ Other) where
      abbrev row_text : List (Led A) → List ℕ
      row_text l = texts element_text l ++ rt

      abbrev row_said : List (Led A) → List What
      row_said l = each o n g l ++ rs

      -- one element more in front
      more-one : (o' : Occ) (e : Led A) → LedBy P e → (l : List (Led A)) (next : ℕ → Trace) → Tells next (row_text l) (row_said l)
          → Tells (turn o' n tag m body next rest) (row_text (e ∷ l)) (row_said (e ∷ l))
      more-one o' e pr l next k p s h =
          told_as (ap (λ (x : List ℕ). p + length x) (sym line)) (sym (append_assoc (one o n g e) (each o n g l) rs))
          (turn_tells o' e pr next rest (row_text l) (row_said l) k p s (h ∙ ap (λ (x : List ℕ). x ++ s) line))
        where
          line : row_text (e ∷ l) ≡ element_text e ++ row_text l
          line = append_assoc (element_text e) (texts element_text l) rt

      pub again_tells : (l : List (Led A)) → Each (LedBy P) l → Passing o → (i : ℕ) → length (texts element_text l) ≤ i → Tells (again i n tag m body rest) (row_text l) (row_said l)
      again_tells [] pr a zero h p s e = rest-tells p s e
      again_tells [] pr a (suc i) h p s e = rw (other a p s e, rest-skips p) (rest-tells p s e)
      again_tells (x ∷ l) pr a zero h p s e = never (omega (arith, length-append (element_text x) (texts element_text l), some_bytes x))
      again_tells (x ∷ l) pr a (suc i) h p s e =
          more-one more x pr.0 l (again i n tag m body rest) (again_tells l pr.1 a i (omega (arith, length-append (element_text x) (texts element_text l), some_bytes x))) p s e

      -- what follows one element
      pub follow_tells : (l : List (Led A)) → Each (LedBy P) l → Often o (suc (length l)) → (i : ℕ) → length (texts element_text l) ≤ i
          → Tells (follow o i n tag m body rest) (row_text l) (row_said l)
      follow_tells l pr h i b = go o l refl pr h b
        where
          go : (o' : Occ) (l : List (Led A)) → o' ≡ o → Each (LedBy P) l → Often o' (suc (length l)) → length (texts element_text l) ≤ i
              → Tells (follow o' i n tag m body rest) (row_text l) (row_said l)
          go once [] e pr h b = rest-tells
          go once (x ∷ l) e pr h b = never (omega arith)
          go optional [] e pr h b = rest-tells
          go optional (x ∷ l) e pr h b = never (omega arith)
          go many l e pr h b = again_tells l pr (rw (← e) tt) i b
          go more l e pr h b = again_tells l pr (rw (← e) tt) i b

      -- the child, as often as it stands, and the rest
      pub child_tells : (l : List (Led A)) → Each (LedBy P) l → Often o (length l) → Tells (child o n tag m body rest) (row_text l) (none o n l ++ row_said l)
      child_tells [] pr h p s e = go o refl h
        where
          go : (o' : Occ) → o' ≡ o → Often o' 0 → Told (turn o' n tag m body (follow o (length m) n tag m body rest) rest p) (p + length rt) (none {A = Led A} o' n [] ++ rs)
          go once z h = absurd (let y : ⊥ = omega arith in y)
          go optional z h =
              rw (other (rw (← z) tt) p s e, rest-skips p)
              (let r = rest-tells p s e in record { whole = r.whole; says = ap (λ (l : List What). absent n ∷ l) r.says })
          go many z h = absurd (let y : ⊥ = omega arith in y)
          go more z h = rw (other (rw (← z) tt) p s e, rest-skips p) (rest-tells p s e)
      child_tells (x ∷ l) pr h p s e =
          told_as refl (ap (λ (w : List What). w ++ row_said (x ∷ l)) (sym (none_missing o n x l)))
          (more-one o x pr.0 l (follow o (length m) n tag m body rest) (follow_tells l pr.1 h (length m) fits) p s e)
        where
          fits : length (texts element_text l) ≤ length m
          fits =
              omega (
                arith,
                ap length e,
                length-drop p m,
                length-append (row_text (x ∷ l)) s,
                length-append (texts element_text (x ∷ l)) rt,
                length-append (element_text x) (texts element_text l),
              )
