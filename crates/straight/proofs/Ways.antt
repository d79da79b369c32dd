-- One law for every item: what is made of a way is what its legs note.
use Rattle.std.specs.Prelude.{Option}
use Rattle.std.proofs.Common.{◌≡◌, ℕ, zero, suc, ◌+◌, ◌-◌, ◌<◌, ◌≤◌, Bool, true, false, eqb, List, [], ◌∷◌, ◌++◌, length, get_or, drop, sym, refl, ap, ◌∙◌, arith, length-drop, get_or-drop}
use borrow.Author.Tests.{not-false}
use Rattle.text.specs.Truth.{part, lead}
use Rattle.text.proofs.Truths.{never}
use Rattle.answers.specs.Given.{Given, worth}
use Rattle.codes.specs.declared.Element.{Element}
use Rattle.codes.specs.declared.Element.TheVariants.{SttlmMtd, SvcLvl, LclInstrm, SeqTp, ChrgBr, Prtry}
use Rattle.tags.specs.Values.{in_value}
use Rattle.profile.specs.declared.Kind.{Kind}
use Rattle.profile.specs.declared.Kind.TheVariants.{Plain, Count, Total, Amount, Code}
use Rattle.profile.specs.declared.Field.{Field}
use Rattle.kinds.specs.Given.{kind_given}
use Rattle.reading.specs.Trace.{value as a_value, ◌at◌}
use Rattle.reading.specs.Noted.{on}
use Rattle.notes.specs.declared.Notes.{Notes}
use Rattle.notes.specs.Notes.{with_type, with_service, with_start, may_follow, value_noted, service_kept, in_notes}
use Rattle.engine.specs.Engine.{filed_by}
use Rattle.swift_values.specs.Stands.{StandsFor}
use Rattle.straight.specs.Due.{Due, done, inside, value, close, run, Made, made, Token, flat, Walked, lost, to, walk, Went, tight, spaced}
use Rattle.straight.specs.Spelled.{tagged, loose, Spelled}
use Rattle.straight.specs.Ways.{Leg, tags, holds, told, Opens, Passed, WorthNoted, Way, Gone, Onward, Walks, code_noting, noting, legs_noted, legs_filed, CodeFits, Fits, LegsFit}
use Rattle.straight.proofs.Walks.{value_made}
use Rattle.straight.proofs.Spelled.{went_spelled, went_loose}

-- ---- a value that stands is noted
service_kept_lem : (c p : ℕ) (x : Notes) → may_follow x.service c ≡ true → service_kept c p x ≡ on (with_service c x)
unfolding service_kept
service_kept_lem c p x h = rw h refl

code_noted : (e : Element) (f : Field) (v : List ℕ) (p c d : ℕ) (x : Notes) → kind_given (Code e) v ≡ worth c → WorthNoted (Code e) c d → CodeFits e d x
    → in_notes (a_value (Code e) f v at p) x ≡ on (noting (Code e) f p d x)
unfolding value_noted
code_noted LclInstrm f v p c d x e n h = rw (e, n, service_kept_lem d p x h) refl
code_noted SttlmMtd f v p c d x e n h = rw e refl
code_noted SvcLvl f v p c d x e n h = rw e refl
code_noted SeqTp f v p c d x e n h = rw e refl
code_noted ChrgBr f v p c d x e n h = rw e refl
code_noted Prtry f v p c d x e n h = rw e refl

noted_held : (k : Kind) (f : Field) (v : List ℕ) (p c d : ℕ) (x : Notes) → kind_given k v ≡ told k c → WorthNoted k c d → Fits k d x
    → in_notes (a_value k f v at p) x ≡ on (noting k f p d x)
unfolding value_noted
noted_held (Plain s) f v p c d x e n h = rw e refl
noted_held Count f v p c d x e n h = rw (e, n) refl
noted_held Total f v p c d x e n h = rw (e, n) refl
noted_held Amount f v p c d x e n h = rw (e, n) refl
noted_held (Code o) f v p c d x e n h = code_noted o f v p c d x e n h

-- what is said of the payment type stays, and changes nothing else
code_typed : (e : Element) (c : ℕ) (s : Option Bool) (x : Notes) → code_noting e c (with_type s x) ≡ with_type s (code_noting e c x)
code_typed LclInstrm c s x = refl
code_typed SttlmMtd c s x = refl
code_typed SvcLvl c s x = refl
code_typed SeqTp c s x = refl
code_typed ChrgBr c s x = refl
code_typed Prtry c s x = refl

noting_typed : (k : Kind) (f : Field) (p c : ℕ) (s : Option Bool) (x : Notes) → noting k f p c (with_type s x) ≡ with_type s (noting k f p c x)
noting_typed (Plain j) f p c s x = refl
noting_typed Count f p c s x = refl
noting_typed Total f p c s x = refl
noting_typed Amount f p c s x = refl
noting_typed (Code e) f p c s x = ap (with_start f p) (code_typed e c s x)

code_fits : (e : Element) (c : ℕ) (s : Option Bool) (x : Notes) → CodeFits e c x → CodeFits e c (with_type s x)
code_fits LclInstrm c s x h = h
code_fits SttlmMtd c s x h = tt
code_fits SvcLvl c s x h = tt
code_fits SeqTp c s x h = tt
code_fits ChrgBr c s x h = tt
code_fits Prtry c s x h = tt

fits_typed : (k : Kind) (c : ℕ) (s : Option Bool) (x : Notes) → Fits k c x → Fits k c (with_type s x)
fits_typed (Plain j) c s x h = tt
fits_typed Count c s x h = tt
fits_typed Total c s x h = tt
fits_typed Amount c s x h = tt
fits_typed (Code e) c s x h = code_fits e c s x h

-- ---- a run that is passed leads on
went_passed : (m : List ℕ) (p : ℕ) (ts : List Token) (r : ℕ) → Passed m p ts r → Went m p ts r
went_passed m p [] r h = went_loose m p [] r refl h.spelled
went_passed m p (tight t ∷ ts) r h = went_spelled m p (tight t ∷ ts) r h.tagged h.opens h.spelled
went_passed m p (spaced t ∷ ts) r h = went_loose m p (spaced t ∷ ts) r h.tagged h.spelled

passed_loose : (m : List ℕ) (p : ℕ) (ts : List Token) (r : ℕ) → loose ts ≡ true → Spelled m p (flat ts) r → Passed m p ts r
passed_loose m p [] r g h = record { spelled = h; tagged = refl; opens = tt }
passed_loose m p (tight t ∷ ts) r g h = never (cc)
passed_loose m p (spaced t ∷ ts) r g h = record { spelled = h; tagged = g; opens = tt }

opens_at : (m : List ℕ) (p : ℕ) (ts : List Token) → eqb (get_or m p 0) 60 ≡ true → Opens ts m p
opens_at m p [] h = tt
opens_at m p (tight t ∷ ts) h = h
opens_at m p (spaced t ∷ ts) h = tt

-- ---- the law
module _ (m : List ℕ) where
  pub way_made : (ls : List Leg) (p r : ℕ) (u s : Option Bool) (d e : Due) (x : Notes) (l : List ℕ) → Way m p ls r → Walks u ls d s e → LegsFit ls x
      → made (run d m p) (with_type u x) l ≡ made (run e m r) (with_type s (legs_noted ls x)) (legs_filed ls l)
  way_made [] p r u s d e x l w g h =
      ap (λ (k : ℕ). made (run d m k) (with_type u x) l) w ∙ (ap (λ (k : Option Bool). made (run d m r) (with_type k x) l) g.0 ∙ ap (λ (k : Due). made (run k m r) (with_type s x) l) g.1)
  way_made (tags ts ∷ ls) p r u s d e x l w g h = go (walk u ts d) refl g (λ v c k. way_made ls w.place r v s c e x l w.rest k h)
    where
      there : Made
      there = made (run e m r) (with_type s (legs_noted ls x)) (legs_filed ls l)

      go : (y : Walked) → walk u ts d ≡ y → Onward y (λ v c. Walks v ls c s e)
          → ((v : Option Bool) (c : Due) → Walks v ls c s e → made (run c m w.place) (with_type v x) l ≡ there) → made (run d m p) (with_type u x) l ≡ there
      go lost i k f = absurd k
      go (to v c) i k f = (went_passed m p ts w.place w.first).leads d c v (with_type u x) l i ∙ f v c k
  way_made (holds k f a c ∷ ls) p r u s done e x l w g h = absurd g
  way_made (holds k f a c ∷ ls) p r u s (inside sh o) e x l w g h = absurd g
  way_made (holds k f a c ∷ ls) p r u s (close n o) e x l w g h = absurd g
  way_made (holds k f a c ∷ ls) p r u s (value j i n o) e x l w g h =
      let q = w.1.place in
      let b = w.1.first in
      let v = part p (q - p) m in
      let y = with_type u x in
      let z : noting k f p c y ≡ with_type u (noting k f p c x) = noting_typed k f p c u x in
      ap (λ (t : Kind). made (run (value t i n o) m p) y l) (sym g.0) ∙ ap (λ (t : Field). made (run (value k t n o) m p) y l) (sym g.1)
      ∙ value_made m p q k f n o y (noting k f p c y) l b.stands.upto b.stands.from b.stands.behind
      (noted_held k f v p b.found c y b.stands.given b.noted (fits_typed k c u x h.0))
      ∙ ap (λ (t : Notes). made (run (close n o) m q) t (filed_by f p l)) z
      ∙ ap (λ (t : ℕ). made (run (close n o) m q) (with_type u (noting k f t c x)) (filed_by f t l)) w.0
      ∙ way_made ls q r u s (close n o) e (noting k f a c x) (filed_by f a l) w.1.rest g.2 h.1

-- the first that is not in a value
lead_stops : (f : ℕ → Bool) (s : List ℕ) (n : ℕ) → lead f s ≡ n → n < length s → f (get_or s n 0) ≡ false
lead_stops f [] n e h = absurd (let z : ⊥ = omega arith in z)
lead_stops f (c ∷ s) zero e h = go (f c) refl
  where
    go : (b : Bool) → f c ≡ b → f c ≡ false
    go false i = i
    go true i = absurd (let z : suc (lead f s) ≡ 0 = rw i at e in omega arith)
lead_stops f (c ∷ s) (suc n) e h = go (f c) refl (lead_stops f s n)
  where
    go : (b : Bool) → f c ≡ b → (lead f s ≡ n → n < length s → f (get_or s n 0) ≡ false) → f (get_or s n 0) ≡ false
    go true i k = k (let z : suc (lead f s) ≡ suc n = rw i at e in omega arith) (omega arith)
    go false i k = absurd (let z : 0 ≡ suc n = rw i at e in omega arith)

-- ---- ways are joined, from the end
module _ (m : List ℕ) where
  pub gone_here : (r : ℕ) → 0 < r → r ≤ length m → Gone m r [] r
  gone_here r some within = record { some = some; within = within; way = refl }

  -- a run at the end
  pub gone_spelled : (p : ℕ) (t : List ℕ) (r : ℕ) → Spelled m p t r → Gone m r [] r
  gone_spelled p t r g = gone_here r (omega (arith, g.from)) g.within

  -- a run at the beginning
  pub gone_tags : (p : ℕ) (ts : List Token) (q : ℕ) (ls : List Leg) (r : ℕ) → loose ts ≡ true → Spelled m p (flat ts) q → Gone m q ls r → Gone m p (tags ts ∷ ls) r
  gone_tags p ts q ls r g a h = record { some = a.some; within = h.within; way = record { place = q; first = passed_loose m p ts q g a; rest = h.way } }

  -- a value, and the run behind it
  pub lt_behind : (k : Kind) (g : Given) (p q : ℕ) → StandsFor k g m p q → eqb (get_or m q 0) 60 ≡ true
  lt_behind k g p q h =
      let z : p + (q - p) ≡ q = omega (arith, h.from) in
      let e : in_value (get_or (drop p m) (q - p) 0) ≡ false = lead_stops in_value (drop p m) (q - p) h.upto (omega (arith, length-drop p m, h.behind, h.from)) in
      not-false (eqb (get_or m q 0) 60) (ap in_value (ap (λ (k : ℕ). get_or m k 0) (sym z) ∙ sym (get_or-drop p m (q - p) 0)) ∙ e)

  pub gone_value : (k : Kind) (f : Field) (c d p q : ℕ) (ts : List Token) (a : ℕ) (ls : List Leg) (r : ℕ) → tagged ts ≡ true → WorthNoted k c d
      → StandsFor k (told k c) m p q → Spelled m q (flat ts) a → Gone m a ls r → Gone m p (holds k f p d ∷ tags ts ∷ ls) r
  gone_value k f c d p q ts a ls r t n x y h =
      record {
        some = x.some;
        within = h.within;
        way = (
          refl,
          record {
            place = q;
            first = record { found = c; stands = x; noted = n };
            rest = record { place = a; first = record { spelled = y; tagged = t; opens = opens_at m q ts (lt_behind k (told k c) p q x) }; rest = h.way };
          },
        );
      }

  -- a value, and what stands behind it
  pub gone_held : (k : Kind) (f : Field) (c d p q : ℕ) (ls : List Leg) (r : ℕ) → WorthNoted k c d → StandsFor k (told k c) m p q → Gone m q ls r → Gone m p (holds k f p d ∷ ls) r
  gone_held k f c d p q ls r n x h = record { some = x.some; within = h.within; way = (refl, record { place = q; first = record { found = c; stands = x; noted = n }; rest = h.way }) }

  -- a run right behind a value, where a tag begins
  pub gone_open : (p : ℕ) (ts : List Token) (q : ℕ) (ls : List Leg) (r : ℕ) → tagged ts ≡ true → get_or m p 0 ≡ 60 → Spelled m p (flat ts) q → Gone m q ls r → Gone m p (tags ts ∷ ls) r
  gone_open p ts q ls r t x y h =
      let e : eqb (get_or m p 0) 60 ≡ true = rw x refl in
      record { some = y.some; within = h.within; way = record { place = q; first = record { spelled = y; tagged = t; opens = opens_at m p ts e }; rest = h.way } }

  -- one way behind another
  way-join : (ls ks : List Leg) (p q r : ℕ) → Way m p ls q → Way m q ks r → Way m p (ls ++ ks) r
  way-join [] ks p q r f g = rw f g
  way-join (tags ts ∷ ls) ks p q r f g = record { place = f.place; first = f.first; rest = way-join ls ks f.place q r f.rest g }
  way-join (holds k i a d ∷ ls) ks p q r f g = (f.0, record { place = f.1.place; first = f.1.first; rest = way-join ls ks f.1.place q r f.1.rest g })

  pub gone_join : (ls ks : List Leg) (p q r : ℕ) → Gone m p ls q → Gone m q ks r → Gone m p (ls ++ ks) r
  gone_join ls ks p q r a g = record { some = a.some; within = g.within; way = way-join ls ks p q r a.way g.way }
