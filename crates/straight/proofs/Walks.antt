-- A run of fixed tags leads where `walk` says: one law for every run of the profile, whole or with white space.
use Rattle.std.specs.Prelude.{Option}
use Rattle.std.proofs.Common.{◌≡◌, ℕ, ◌+◌, ◌-◌, ◌<◌, ◌≤◌, Bool, true, false, not, eqb, List, [], ◌∷◌, ◌++◌, length, drop, sym, refl, ap, ◌∙◌, append_assoc, arith, length-append, drop-drop, lt-ltb, eqb-true}
use Prim.Native.String.{String}
use lib.Seq.{drop-append_seam}
use Rattle.text.specs.Truth.{both, either, pick, lead, part, first}
use Rattle.text.specs.Quoted.{bytes, alike, among}
use Rattle.text.specs.Classes.{capital}
use Rattle.text.proofs.Truths.{never, both_true}
use Rattle.tags.specs.declared.Look.TheVariants.{Whole, Other}
use Rattle.tags.specs.Tags.{white, skipped, look, on_look, exactly, end_tag, plain_tag, amount_tag, start_tag, currency, currency_place, in_euro}
use Rattle.tags.specs.Values.{in_value}
use Rattle.tags.proofs.Looks.{exactly_length, look_append, look_text}
use Rattle.tags.proofs.White.{skip_twice}
use Rattle.profile.specs.declared.Kind.{Kind}
use Rattle.profile.specs.declared.Field.{Field}
use Rattle.profile.specs.Kinds.{is_amount}
use Rattle.profile.specs.Tree.{Occ, once, optional, many, more, Shape, end, leaf, group}
use Rattle.profile.specs.Profile.{is_type}
use Rattle.reading.specs.Trace.{there, absent, value as a_value, ◌at◌, Trace, met, up_to, fault, and_then, ends, priced, closed, valued, leaf_body, group_body, missing, turn, follow, trace}
use Rattle.reading.specs.Noted.{on}
use Rattle.notes.specs.declared.Notes.{Notes}
use Rattle.notes.specs.Notes.{with_type, unsaid, said_by, type_noted, in_notes}
use Rattle.engine.specs.Engine.{filed_by}
use Rattle.straight.specs.Due.{Due, done, inside, value, close, run, made, Token, tight, spaced, Walked, lost, to, onto, is_other, opening, allowed, heard, step, step_by, walk, Leads}
use Rattle.straight.proofs.Made.{made_met, once_ends, may_ends, unwrapped}

-- ---- what fits is what it says
pub alike_eq : (t s : List ℕ) → alike t s ≡ true → s ≡ t
alike_eq [] [] e = refl
alike_eq [] (c ∷ s) e = never (cc)
alike_eq (d ∷ t) [] e = never (cc)
alike_eq (d ∷ t) (c ∷ s) e =
    let h = both_true (eqb c d) (alike t s) e in
    let x : c ≡ d = eqb-true c d h.0 in
    let y : s ≡ t = alike_eq t s h.1 in
    cc

to_same : (u s : Option Bool) (d e : Due) → to u d ≡ to s e → (u ≡ s) × (d ≡ e)
to_same u s d e h = (cc, cc)

lost_not : {A : Type 0} (s : Option Bool) (d : Due) → lost ≡ to s d → A
lost_not s d h = never (cc)

picked : (b : Bool) (w : Walked) (s : Option Bool) (d : Due) → pick b w lost ≡ to s d → (b ≡ true) × (w ≡ to s d)
picked true w s d h = (refl, h)
picked false w s d h = lost_not s d h

-- the same due, with the same said
made_to : (m : List ℕ) (r : ℕ) (x : Notes) (l : List ℕ) (u s : Option Bool) (d e : Due) → to u d ≡ to s e → made (run d m r) (with_type u x) l ≡ made (run e m r) (with_type s x) l
made_to m r x l u s d e h =
    let z = to_same u s d e h in
    ap (λ (k : Option Bool). made (run d m r) (with_type k x) l) z.0 ∙ ap (λ (k : Due). made (run k m r) (with_type s x) l) z.1

-- ---- looks
pub closed_here : (m : List ℕ) (n : String) (p : ℕ) → look (exactly (end_tag n)) (drop p m) ≡ Whole → closed n m p ≡ up_to (p + length (end_tag n))
unfolding closed
closed_here m n p e = rw e

other_here : (f : List (ℕ → Bool)) (t s : List ℕ) → is_other (look f t) ≡ true → look f (t ++ s) ≡ Other
other_here [] t s e = never (cc)
other_here (g ∷ f) [] s e = never (cc)
other_here (g ∷ f) (c ∷ t) s e = go (g c) e (other_here f t s)
  where
    go : (b : Bool) → is_other (pick b (look f t) Other) ≡ true → (is_other (look f t) ≡ true → look f (t ++ s) ≡ Other) → pick b (look f (t ++ s)) Other ≡ Other
    go true h k = k h
    go false h k = refl

-- ---- a value's start tag
module _ (n : String) (s : List ℕ) where
  amount-starts : look (exactly (amount_tag n) ++ currency) ((amount_tag n ++ bytes "EUR\">") ++ s) ≡ Whole
  unfolding capital among
  amount-starts =
      ap (look (exactly (amount_tag n) ++ currency)) (append_assoc (amount_tag n) (bytes "EUR\">") s)
      ∙ look_append (exactly (amount_tag n)) currency (amount_tag n ++ (bytes "EUR\">" ++ s))
      ∙ rw (look_text (amount_tag n) (bytes "EUR\">" ++ s), exactly_length (amount_tag n), drop-append_seam (amount_tag n) (bytes "EUR\">" ++ s)) refl

  pub opens_whole : (b : Bool) → look (start_tag b n) (opening b n ++ s) ≡ Whole
  opens_whole true = amount-starts
  opens_whole false = look_text (plain_tag n) s

pub opens_length : (b : Bool) (n : String) → length (start_tag b n) ≡ length (opening b n)
opens_length true n = omega (arith, length-append (exactly (amount_tag n)) currency, exactly_length (amount_tag n), length-append (amount_tag n) (bytes "EUR\">"))
opens_length false n = exactly_length (plain_tag n)

module _ (m : List ℕ) (p : ℕ) (n : String) (s : List ℕ) where
  in_euro_lem : drop p m ≡ (amount_tag n ++ bytes "EUR\">") ++ s → (q : ℕ) → q ≡ p + length (amount_tag n ++ bytes "EUR\">") → in_euro m q ≡ true
  unfolding in_euro currency_place
  in_euro_lem e q h =
      let z : q - 5 ≡ p + length (amount_tag n) = omega (arith, length-append (amount_tag n) (bytes "EUR\">")) in
      let y : drop (q - 5) m ≡ bytes "EUR\">" ++ s =
      ap (λ (k : ℕ). drop k m) z ∙ sym (drop-drop (length (amount_tag n)) p m) ∙ ap (drop (length (amount_tag n))) (e ∙ append_assoc (amount_tag n) (bytes "EUR\">") s)
      ∙ drop-append_seam (amount_tag n) (bytes "EUR\">" ++ s) in
      rw y refl

  pub priced_here : (b : Bool) → drop p m ≡ opening b n ++ s → priced b m (p + length (start_tag b n)) ≡ up_to (p + length (opening b n))
  priced_here true e = rw (opens_length true n, in_euro_lem e (p + length (amount_tag n ++ bytes "EUR\">")) refl)
  priced_here false e = rw (opens_length false n)

-- ---- that an element which is 0 or 1 is there, or is not
type_heard : (b : Bool) (p : ℕ) (x : Notes) → unsaid x.typed b ≡ true → type_noted b p x ≡ on (with_type (said_by x.typed b) x)
unfolding type_noted
type_heard b p x h = rw h

heard_noted : (b : Bool) (n : String) (p : ℕ) (x : Notes) → allowed x.typed b n ≡ true → pick (is_type n) (type_noted b p x) (on x) ≡ on (with_type (heard x.typed b n) x)
heard_noted b n p x h = go (is_type n) h
  where
    go : (c : Bool) → either (not c) (unsaid x.typed b) ≡ true → pick c (type_noted b p x) (on x) ≡ on (with_type (pick c (said_by x.typed b) x.typed) x)
    go false h = refl
    go true h = type_heard b p x h

-- ---- one tag at a place where no white space stands
module _ (m : List ℕ) (t s : List ℕ) (p : ℕ) (still : skipped m p ≡ p) (e : drop p m ≡ t ++ s) where
  whole-at : (tag : List ℕ) → t ≡ tag → look (exactly tag) (drop p m) ≡ Whole
  whole-at tag h = ap (look (exactly tag)) (e ∙ ap (λ (x : List ℕ). x ++ s) h) ∙ look_text tag s

  end-at : (n : String) (k : Due) → t ≡ end_tag n → run (inside (end n) k) m p ≡ run k m (p + length t)
  end-at n k h = rw (still, closed_here m n p (whole-at (end_tag n) h), h)

  abbrev turned : Occ → String → List (ℕ → Bool) → (ℕ → Trace) → (ℕ → Trace) → (ℕ → Trace) → Trace
  turned o n tag body next rest = turn o n tag m body next rest p

  turn_at : (o : Occ) (n : String) (tag : List (ℕ → Bool)) (body next rest : ℕ → Trace)
      → turned o n tag body next rest ≡ on_look (look tag (drop p m)) (and_then (body p) next) (fault 3 (length m)) (missing o n p (rest p))
  turn_at o n tag body next rest =
      ap (λ (q : ℕ). on_look (look tag (drop q m)) (and_then (body q) next) (fault 3 (length m)) (missing o n q (rest q))) still

  turn-enters : (o : Occ) (n : String) (tag : List (ℕ → Bool)) (body next rest : ℕ → Trace) → look tag (drop p m) ≡ Whole
      → turned o n tag body next rest ≡ and_then (body p) next
  turn-enters o n tag body next rest h = turn_at o n tag body next rest ∙ rw h refl

  turn-passes : (o : Occ) (n : String) (tag : List (ℕ → Bool)) (body next rest : ℕ → Trace) → is_other (look tag t) ≡ true
      → turned o n tag body next rest ≡ missing o n p (rest p)
  turn-passes o n tag body next rest h =
      let z : look tag (drop p m) ≡ Other = ap (look tag) e ∙ other_here tag t s h in
      turn_at o n tag body next rest ∙ rw z refl

  -- the element is there, and is read by what is due in it
  module _ (n : String) (inner rest : Shape) (k : Due) (h : t ≡ plain_tag n) where
    group-once : run (inside (group once n inner rest) k) m p ≡ run (inside inner (inside rest k)) m (p + length t)
    group-once =
        ap (λ (x : Trace). and_then x (run k m)) (turn-enters once n (exactly (plain_tag n)) (group_body once n (trace inner m)) (trace rest m) (trace rest m) (whole-at (plain_tag n) h))
        ∙ (unwrapped (trace inner m (p + length (plain_tag n))) (ends once) (trace rest m) (run k m) (once_ends (trace inner m (p + length (plain_tag n)))) ∙ rw h refl)

    group-may : run (inside (group optional n inner rest) k) m p ≡ met (there n at p) (run (inside inner (inside rest k)) m (p + length t))
    group-may =
        ap (λ (x : Trace). and_then x (run k m)) (turn-enters optional n (exactly (plain_tag n)) (group_body optional n (trace inner m)) (trace rest m) (trace rest m) (whole-at (plain_tag n) h))
        ∙ ap (met (there n at p)) (unwrapped (trace inner m (p + length (plain_tag n))) (ends optional) (trace rest m) (run k m) (may_ends (trace inner m (p + length (plain_tag n)))) ∙ rw h refl)

  module _ (n : String) (kd : Kind) (f : Field) (rest : Shape) (k : Due) (h : t ≡ opening (is_amount kd) n) where
    abbrev b : Bool
    b = is_amount kd

    here : drop p m ≡ opening b n ++ s
    here = e ∙ ap (λ (x : List ℕ). x ++ s) h

    start-here : look (start_tag b n) (drop p m) ≡ Whole
    start-here = ap (look (start_tag b n)) here ∙ opens_whole n s b

    leaf-in : (o : ℕ → Trace) → ((x : Trace) → and_then x o ≡ x)
        → and_then (and_then (and_then (and_then (priced b m (p + length (start_tag b n))) (valued n kd f m)) o) (trace rest m)) (run k m)
        ≡ run (value kd f n (inside rest k)) m (p + length t)
    leaf-in o g =
        ap (λ (x : Trace). and_then (and_then (and_then (and_then x (valued n kd f m)) o) (trace rest m)) (run k m)) (priced_here m p n s b here)
        ∙ (unwrapped (valued n kd f m (p + length (opening b n))) o (trace rest m) (run k m) (g (valued n kd f m (p + length (opening b n)))) ∙ rw h refl)

    leaf-once : run (inside (leaf once n kd f rest) k) m p ≡ run (value kd f n (inside rest k)) m (p + length t)
    leaf-once =
        ap (λ (x : Trace). and_then x (run k m)) (turn-enters once n (start_tag b n) (leaf_body once n kd f m) (trace rest m) (trace rest m) start-here)
        ∙ leaf-in (ends once) once_ends

    leaf-may : run (inside (leaf optional n kd f rest) k) m p ≡ met (there n at p) (run (value kd f n (inside rest k)) m (p + length t))
    leaf-may =
        ap (λ (x : Trace). and_then x (run k m)) (turn-enters optional n (start_tag b n) (leaf_body optional n kd f m) (trace rest m) (trace rest m) start-here)
        ∙ ap (met (there n at p)) (leaf-in (ends optional) may_ends)

  -- it is not there
  pass-may : (n : String) (tag : List (ℕ → Bool)) (body : ℕ → Trace) (rest : Shape) (k : Due) → is_other (look tag t) ≡ true
      → and_then (turn optional n tag m body (trace rest m) (trace rest m) p) (run k m) ≡ met (absent n at p) (run (inside rest k) m p)
  pass-may n tag body rest k h = ap (λ (x : Trace). and_then x (run k m)) (turn-passes optional n tag body (trace rest m) (trace rest m) h)

  -- the walk's step is the definition's
  module _ (l : List ℕ) where
    abbrev Leads-to : Notes → Due → Option Bool → Due → Type 0
    Leads-to x a s d = made (run a m p) x l ≡ made (run d m (p + length t)) (with_type s x) l

    by-trace : (x : Notes) (a c : Due) (s : Option Bool) (d : Due) → run a m p ≡ run c m (p + length t) → to x.typed c ≡ to s d → Leads-to x a s d
    by-trace x a c s d z w = ap (λ (y : Trace). made y x l) z ∙ made_to m (p + length t) x l x.typed s c d w

    by-there : (x : Notes) (a c : Due) (s : Option Bool) (d : Due) (n : String) → run a m p ≡ met (there n at p) (run c m (p + length t))
        → allowed x.typed true n ≡ true → to (heard x.typed true n) c ≡ to s d → Leads-to x a s d
    by-there x a c s d n z g w =
        let u = heard x.typed true n in
        ap (λ (y : Trace). made y x l) z
        ∙ (made_met (there n at p) (run c m (p + length t)) x (with_type u x) l (heard_noted true n p x g) ∙ made_to m (p + length t) x l u s c d w)

    by-absent : (x : Notes) (a c : Due) (s : Option Bool) (d : Due) (n : String) → run a m p ≡ met (absent n at p) (run c m p)
        → allowed x.typed false n ≡ true → Leads-to (with_type (heard x.typed false n) x) c s d → Leads-to x a s d
    by-absent x a c s d n z g w =
        ap (λ (y : Trace). made y x l) z ∙ (made_met (absent n at p) (run c m p) x (with_type (heard x.typed false n) x) l (heard_noted false n p x g) ∙ w)

    pub step_leads : (sh : Shape) (k : Due) (s : Option Bool) (d : Due) (x : Notes) → step x.typed t sh k ≡ to s d → Leads-to x (inside sh k) s d
    step_leads (end n) k s d x w =
        let o = picked (alike (end_tag n) t) (to x.typed k) s d w in
        by-trace x (inside (end n) k) k s d (end-at n k (alike_eq (end_tag n) t o.0)) o.1
    step_leads (leaf once n kd f rest) k s d x w =
        let c = value kd f n (inside rest k) in
        let o = picked (alike (opening (is_amount kd) n) t) (to x.typed c) s d w in
        by-trace x (inside (leaf once n kd f rest) k) c s d (leaf-once n kd f rest k (alike_eq (opening (is_amount kd) n) t o.0)) o.1
    step_leads (leaf optional n kd f rest) k s d x w = go (alike (opening (is_amount kd) n) t) refl (step_leads rest k s d (with_type (heard x.typed false n) x)) w
      where
        c : Due
        c = value kd f n (inside rest k)

        here-too : Due
        here-too = inside (leaf optional n kd f rest) k

        u : Option Bool
        u = heard x.typed false n

        other : Bool
        other = is_other (look (start_tag (is_amount kd) n) t)

        go : (a : Bool) → alike (opening (is_amount kd) n) t ≡ a → (step u t rest k ≡ to s d → Leads-to (with_type u x) (inside rest k) s d)
            → pick a (pick (allowed x.typed true n) (to (heard x.typed true n) c) lost) (pick (both other (allowed x.typed false n)) (step u t rest k) lost) ≡ to s d
            → Leads-to x here-too s d
        go true h r w =
            let o = picked (allowed x.typed true n) (to (heard x.typed true n) c) s d w in
            by-there x here-too c s d n (leaf-may n kd f rest k (alike_eq (opening (is_amount kd) n) t h)) o.0 o.1
        go false h r w =
            let o = picked (both other (allowed x.typed false n)) (step u t rest k) s d w in
            let q = both_true other (allowed x.typed false n) o.0 in
            by-absent x here-too (inside rest k) s d n (pass-may n (start_tag (is_amount kd) n) (leaf_body optional n kd f m) rest k q.0) q.1 (r o.1)
    step_leads (leaf many n kd f rest) k s d x w = lost_not s d w
    step_leads (leaf more n kd f rest) k s d x w = lost_not s d w
    step_leads (group once n inner rest) k s d x w =
        let c = inside inner (inside rest k) in
        let o = picked (alike (plain_tag n) t) (to x.typed c) s d w in
        by-trace x (inside (group once n inner rest) k) c s d (group-once n inner rest k (alike_eq (plain_tag n) t o.0)) o.1
    step_leads (group optional n inner rest) k s d x w = go (alike (plain_tag n) t) refl (step_leads rest k s d (with_type (heard x.typed false n) x)) w
      where
        c : Due
        c = inside inner (inside rest k)

        here-too : Due
        here-too = inside (group optional n inner rest) k

        u : Option Bool
        u = heard x.typed false n

        other : Bool
        other = is_other (look (exactly (plain_tag n)) t)

        go : (a : Bool) → alike (plain_tag n) t ≡ a → (step u t rest k ≡ to s d → Leads-to (with_type u x) (inside rest k) s d)
            → pick a (pick (allowed x.typed true n) (to (heard x.typed true n) c) lost) (pick (both other (allowed x.typed false n)) (step u t rest k) lost) ≡ to s d
            → Leads-to x here-too s d
        go true h r w =
            let o = picked (allowed x.typed true n) (to (heard x.typed true n) c) s d w in
            by-there x here-too c s d n (group-may n inner rest k (alike_eq (plain_tag n) t h)) o.0 o.1
        go false h r w =
            let o = picked (both other (allowed x.typed false n)) (step u t rest k) s d w in
            let q = both_true other (allowed x.typed false n) o.0 in
            by-absent x here-too (inside rest k) s d n (pass-may n (exactly (plain_tag n)) (group_body optional n (trace inner m)) rest k q.0) q.1 (r o.1)
    step_leads (group many n inner rest) k s d x w = lost_not s d w
    step_leads (group more n inner rest) k s d x w = lost_not s d w

-- ---- white space is passed once
module _ (m : List ℕ) where
  turn-skips : (o : Occ) (n : String) (tag : List (ℕ → Bool)) (body next rest : ℕ → Trace) (p : ℕ)
      → turn o n tag m body next rest (skipped m p) ≡ turn o n tag m body next rest p
  turn-skips o n tag body next rest p =
      ap (λ (q : ℕ). on_look (look tag (drop q m)) (and_then (body q) next) (fault 3 (length m)) (missing o n q (rest q))) (skip_twice m p)

  pub trace_skips : (sh : Shape) (p : ℕ) → trace sh m (skipped m p) ≡ trace sh m p
  trace_skips (end n) p = ap (closed n m) (skip_twice m p)
  trace_skips (leaf o n k f rest) p =
      turn-skips o n (start_tag (is_amount k) n) (leaf_body o n k f m) (follow o (length m) n (start_tag (is_amount k) n) m (leaf_body o n k f m) (trace rest m)) (trace rest m) p
  trace_skips (group o n inner rest) p =
      turn-skips o n (exactly (plain_tag n)) (group_body o n (trace inner m))
      (follow o (length m) n (exactly (plain_tag n)) m (group_body o n (trace inner m)) (trace rest m)) (trace rest m) p

-- ---- a value
module _ (m : List ℕ) (p r : ℕ) (kd : Kind) (f : Field) (n : String) (k : Due) (x y : Notes) (l : List ℕ) where
  there-is : lead in_value (drop p m) ≡ r - p → r < length m → p + (r - p) ≡ r → run (value kd f n k) m p ≡ met (a_value kd f (part p (r - p) m) at p) (run (close n k) m r)
  unfolding valued
  there-is e g z = rw (e, z, lt-ltb r (length m) g) refl

  pub value_made : lead in_value (drop p m) ≡ r - p → p ≤ r → r < length m → in_notes (a_value kd f (part p (r - p) m) at p) x ≡ on y
      → made (run (value kd f n k) m p) x l ≡ made (run (close n k) m r) y (filed_by f p l)
  value_made e h g i =
      let z : p + (r - p) ≡ r = omega arith in
      ap (λ (t : Trace). made t x l) (there-is e g z) ∙ made_met (a_value kd f (part p (r - p) m) at p) (run (close n k) m r) x y l i

-- ---- one piece of a run
abbrev Steps : List ℕ → ℕ → Token → ℕ → Type 0
Steps m p t r = (d e : Due) (u : Option Bool) (x : Notes) (l : List ℕ) → step_by x.typed t d ≡ to u e → made (run d m p) x l ≡ made (run e m r) (with_type u x) l

module _ (m : List ℕ) where
  pub leads_none : (p : ℕ) → Leads m p [] p
  leads_none p d e u x l w = made_to m p x l x.typed u d e w

  pub leads_on : (p q r : ℕ) (t : Token) (ts : List Token) → Steps m p t q → Leads m q ts r → Leads m p (t ∷ ts) r
  leads_on p q r t ts f g d e u x l = go (step_by x.typed t d) refl
    where
      go : (w : Walked) → step_by x.typed t d ≡ w → onto w (λ s b. walk s ts b) ≡ to u e → made (run d m p) x l ≡ made (run e m r) (with_type u x) l
      go lost h i = lost_not u e i
      go (to s b) h i = f d b s x l h ∙ g b e u (with_type s x) l i

  module _ (p : ℕ) (t s : List ℕ) where
    -- after white space
    pub steps_spaced : (q : ℕ) → q ≡ p + lead white (drop p m) → drop q m ≡ t ++ s → Steps m p (spaced t) (q + length t)
    steps_spaced q i h done e u x l w = lost_not u e w
    steps_spaced q i h (inside sh k) e u x l w =
        let z : run (inside sh k) m q ≡ run (inside sh k) m p = ap (λ (a : ℕ). run (inside sh k) m a) i ∙ ap (λ (a : Trace). and_then a (run k m)) (trace_skips m sh p) in
        let y : skipped m q ≡ q = ap (skipped m) i ∙ (skip_twice m p ∙ sym i) in
        ap (λ (a : Trace). made a x l) (sym z) ∙ step_leads m t s q y h l sh k u e x (picked (eqb (first t) 60) (step x.typed t sh k) u e w).1
    steps_spaced q i h (value kd f n k) e u x l w = lost_not u e w
    steps_spaced q i h (close n k) e u x l w = lost_not u e w

    -- an end tag right here
    close-here : (n : String) (k : Due) → drop p m ≡ t ++ s → t ≡ end_tag n → run (close n k) m p ≡ run k m (p + length t)
    close-here n k h i =
        rw (closed_here m n p (ap (look (exactly (end_tag n))) (h ∙ ap (λ (x : List ℕ). x ++ s) i) ∙ look_text (end_tag n) s), i) refl

    pub steps_tight : drop p m ≡ t ++ s → Steps m p (tight t) (p + length t)
    steps_tight h done e u x l w = lost_not u e w
    steps_tight h (inside sh k) e u x l w = lost_not u e w
    steps_tight h (value kd f n k) e u x l w = lost_not u e w
    steps_tight h (close n k) e u x l w =
        let o = picked (alike (end_tag n) t) (to x.typed k) u e w in
        ap (λ (a : Trace). made a x l) (close-here n k h (alike_eq (end_tag n) t o.0)) ∙ made_to m (p + length t) x l x.typed u k e o.1
