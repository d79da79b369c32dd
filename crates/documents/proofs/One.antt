-- A message is the text of one document only.
use mathlib.Core.Path.{◌≡◌, refl, sym, ap, ◌∙◌, subst}
use mathlib.Core.Logic.{◌⊎◌, inl, inr}
use mathlib.Core.Bool.{Bool, true, false}
use mathlib.Core.List.{List, [], ◌∷◌, ◌++◌, append_assoc}
use Prim.Native.Nat.{ℕ}
use Prim.Native.String.{String}
use native.Mathlib.Omega.{arith}
use lib.ListN.{length, take, drop}
use lib.Seq.{take_at, drop_at}
use Rattle.text.specs.Truth.{both, pick, lead, every}
use Rattle.text.proofs.Truths.{both_true}
use Rattle.text.proofs.Scan.{lead_before}
use Rattle.tags.specs.declared.Look.TheVariants.{Whole, Other}
use Rattle.tags.specs.Tags.{white, skipped, look, exactly, end_tag, plain_tag, start_tag, starts_question, declaration}
use Rattle.tags.specs.Values.{in_value}
use Rattle.tags.proofs.Looks.{look_text}
use Rattle.profile.specs.declared.Version.{Version}
use Rattle.profile.specs.Version.{root}
use Rattle.profile.specs.Kinds.{is_amount}
use Rattle.profile.specs.Tree.{Occ, once, optional, many, more, Shape, end, leaf, group}
use Rattle.profile.specs.Profile.{profile}
use Rattle.reading.specs.Trace.{from, opened}
use Rattle.reading.proofs.Flat.{never}
use Rattle.documents.specs.Message.{Message, head, whole, Lawful}
use Rattle.documents.specs.Document.{Led, Row, Doc, opening, led_text, texts, text, Often, Each, White, Tagless, LedBy, Proper}
use Rattle.documents.proofs.Sure.{unless_once, apart, sure, profile_sure}
use Rattle.documents.proofs.Texts.{past, look_opening, Starts, opening_starts, plain_starts, end_starts, white_bracket, skip_to}
use Rattle.documents.proofs.Complete.{apart_other}
use Rattle.documents.proofs.Messages.{root_starts, no_question, question, opens}

-- two texts that begin alike: as long, or up to the first byte that does not pass
pub same_length : (w x a b : List ℕ) → length w ≡ length x → w ++ a ≡ x ++ b → (w ≡ x) × (a ≡ b)
same_length w x a b l e = (
  sym (take_at w a (length w) refl) ∙ ap (take (length w)) e ∙ take_at x b (length w) (sym l),
  sym (drop_at w a (length w) refl) ∙ ap (drop (length w)) e ∙ drop_at x b (length w) (sym l),
)

pub same_run : (f : ℕ → Bool) → f 60 ≡ false → (w x a b : List ℕ) → every f w ≡ true → every f x ≡ true → Starts a → Starts b → w ++ a ≡ x ++ b → (w ≡ x) × (a ≡ b)
same_run f z w x a b h g s t e = same_length w x a b (sym (run w a h s) ∙ ap (lead f) e ∙ run x b g t) e
  where
    run : (w a : List ℕ) → every f w ≡ true → Starts a → lead f (w ++ a) ≡ length w
    run w a h s = ap (λ (y : List ℕ). lead f (w ++ y)) s.is ∙ lead_before f w 60 s.rest h z

-- ---- what can be told from its text, whatever follows
abbrev pub One : {A : Type 0} → (A → Type 0) → (A → List ℕ) → Type 0
One {A = A} P t = (a b : A) → P a → P b → (r s : List ℕ) → t a ++ r ≡ t b ++ s → (a ≡ b) × (r ≡ s)

-- a run of bytes before an end tag
run_one : (f : ℕ → Bool) → f 60 ≡ false → (n : String) → One (λ w. every f w ≡ true) (λ w. w ++ end_tag n)
run_one f z n v w h g r s e =
    let k = same_run f z v w (end_tag n ++ r) (end_tag n ++ s) h g (end_starts n r) (end_starts n s) (sym (append_assoc v (end_tag n) r) ∙ e ∙ append_assoc w (end_tag n) s) in
    (k.0, (same_length (end_tag n) (end_tag n) r s refl k.1).1)

module _ {A : Type 0} (tag : List (ℕ → Bool)) (tb : List ℕ) (P : A → Type 0) (t : A → List ℕ) (starts : (s : List ℕ) → Starts (tb ++ s)) (there : (s : List ℕ) → look tag (tb ++ s) ≡ Whole)
    (one : One P t) where
  abbrev led_one : Led A → List ℕ
  led_one = led_text tb t

  split : (x : Led A) (r : List ℕ) → led_one x ++ r ≡ x.blank ++ (tb ++ (t x.held ++ r))
  split x r = append_assoc x.blank (tb ++ t x.held) r ∙ ap (λ (y : List ℕ). x.blank ++ y) (append_assoc tb (t x.held) r)

  led-one : One (LedBy P) led_one
  led-one x y h g r s e =
      let a = same_run white white_bracket x.blank y.blank (tb ++ (t x.held ++ r)) (tb ++ (t y.held ++ s)) h.0 g.0 (starts (t x.held ++ r)) (starts (t y.held ++ s))
      (sym (split x r) ∙ e ∙ split y s) in
      let b = one x.held y.held h.1 g.1 r s (same_length tb tb (t x.held ++ r) (t y.held ++ s) refl a.1).1 in
      (led-same a.0 b.0, b.1)
    where
      led-same : x.blank ≡ y.blank → x.held ≡ y.held → x ≡ y
      led-same c d = ap (λ (w : List ℕ). record { blank = w; held = x.held }) c ∙ ap (λ (w : A). record { blank = y.blank; held = w }) d

  module _ (rest : Shape) (others : One (Proper rest) (text rest)) where
    -- where one more element stands, what comes after the row does not
    never-more : apart tag rest ≡ true → (x : Led A) → LedBy P x → (d : Doc rest) → Proper rest d → (r s : List ℕ) → led_one x ++ r ≡ text rest d ++ s → ⊥
    never-more a x h d g r s e =
        let m : List ℕ = text rest d ++ s in
        let here : drop 0 m ≡ x.blank ++ (tb ++ (t x.held ++ r)) = sym e ∙ split x r in
        let w : look tag (drop (skipped m 0) m) ≡ Whole =
        ap (λ (p : ℕ). look tag (drop p m)) (skip_to m 0 x.blank (tb ++ (t x.held ++ r)) h.0 (starts (t x.held ++ r)) here)
        ∙ ap (look tag) (past m x.blank (tb ++ (t x.held ++ r)) 0 here) ∙ there (t x.held ++ r) in
        let z : Whole ≡ Other = sym w ∙ apart_other m tag rest a d g 0 s refl in
        never (cc)

    row_first : (x : Led A) (l : List (Led A)) (d : Doc rest) (r : List ℕ) → ((led_one x ++ texts led_one l) ++ text rest d) ++ r ≡ led_one x ++ ((texts led_one l ++ text rest d) ++ r)
    row_first x l d r =
        ap (λ (w : List ℕ). w ++ r) (append_assoc (led_one x) (texts led_one l) (text rest d)) ∙ append_assoc (led_one x) (texts led_one l ++ text rest d) r

    -- two rows are as long, or no element can be told for what comes after
    abbrev AsLong : List (Led A) → List (Led A) → Type 0
    AsLong l k = (length l ≡ length k) ⊎ (apart tag rest ≡ true)

    as-long-rest : (x y : Led A) (l k : List (Led A)) → AsLong (x ∷ l) (y ∷ k) → AsLong l k
    as-long-rest x y l k (inl n) = inl (omega arith)
    as-long-rest x y l k (inr a) = inr a

    row_one : (l k : List (Led A)) (d e : Doc rest) → AsLong l k → Each (LedBy P) l → Each (LedBy P) k → Proper rest d → Proper rest e
        → (r s : List ℕ) → (texts led_one l ++ text rest d) ++ r ≡ (texts led_one k ++ text rest e) ++ s → (l ≡ k) × (d ≡ e) × (r ≡ s)
    row_one [] [] d e a h g p q r s z = let o = others d e p q r s z in (refl, o.0, o.1)
    row_one [] (y ∷ k) d e (inl n) h g p q r s z = absurd (let c : ⊥ = omega arith in c)
    row_one [] (y ∷ k) d e (inr a) h g p q r s z = absurd (never-more a y g.0 d p ((texts led_one k ++ text rest e) ++ s) r (sym (z ∙ row_first y k e s)))
    row_one (x ∷ l) [] d e (inl n) h g p q r s z = absurd (let c : ⊥ = omega arith in c)
    row_one (x ∷ l) [] d e (inr a) h g p q r s z = absurd (never-more a x h.0 e q ((texts led_one l ++ text rest d) ++ r) s (sym (row_first x l d r) ∙ z))
    row_one (x ∷ l) (y ∷ k) d e a h g p q r s z =
        let c = led-one x y h.0 g.0 ((texts led_one l ++ text rest d) ++ r) ((texts led_one k ++ text rest e) ++ s) (sym (row_first x l d r) ∙ z ∙ row_first y k e s) in
        let o = row_one l k d e (as-long-rest x y l k a) h.1 g.1 p q r s c.1 in
        (ap (λ (w : Led A). w ∷ l) c.0 ∙ ap (λ (w : List (Led A)). y ∷ w) o.0, o.1, o.2)

-- of an element that comes once there is one in both
told_apart : {A : Type 0} (o : Occ) (b : Bool) (l k : List A) → unless_once o b ≡ true → Often o (length l) → Often o (length k) → (length l ≡ length k) ⊎ (b ≡ true)
told_apart once b l k e h g = inl (h ∙ sym g)
told_apart optional b l k e h g = inr e
told_apart many b l k e h g = inr e
told_apart more b l k e h g = inr e

row_same : {A B : Type 0} (x y : Row A B) → x.all ≡ y.all → x.others ≡ y.others → x ≡ y
row_same {A = A} {B = B} x y e f = ap (λ (l : List (Led A)). record { all = l; others = x.others }) e ∙ ap (λ (d : B). record { all = y.all; others = d }) f

-- Over any tree: what a document is, and what follows it, can be told from the text.
pub text_one_lem : (sh : Shape) → sure sh ≡ true → One (Proper sh) (text sh)
text_one_lem (end n) a x y h g r s e = run_one white white_bracket n x y h g r s e
text_one_lem (leaf o n k f rest) a x y h g r s e =
    let tag = start_tag (is_amount k) n in
    let b = both_true (unless_once o (apart tag rest)) (sure rest) a in
    let c = row_one tag (opening k n) Tagless (λ v. v ++ end_tag n) (opening_starts k n) (look_opening k n) (run_one in_value refl n) rest (text_one_lem rest b.1)
    x.all y.all x.others y.others (told_apart o (apart tag rest) x.all y.all b.0 h.0 g.0) h.1 g.1 h.2 g.2 r s e in
    (row_same x y c.0 c.1, c.2)
text_one_lem (group o n inner rest) a x y h g r s e =
    let tag = exactly (plain_tag n) in
    let b = both_true (unless_once o (apart tag rest)) (both (sure inner) (sure rest)) a in
    let f = both_true (sure inner) (sure rest) b.1 in
    let c = row_one tag (plain_tag n) (Proper inner) (text inner) (plain_starts n) (look_text (plain_tag n)) (text_one_lem inner f.0) rest (text_one_lem rest f.1)
    x.all y.all x.others y.others (told_apart o (apart tag rest) x.all y.all b.0 h.0 g.0) h.1 g.1 h.2 g.2 r s e in
    (row_same x y c.0 c.1, c.2)

-- ---- whole messages of one version
-- both with a declaration or both without: a declaration starts `<?`, and white space and the root tag do not
same_declared : (v : Version) (a b : Bool) (u w r s : List ℕ) → White u → White w → pick a declaration [] ++ (u ++ (root v ++ r)) ≡ pick b declaration [] ++ (w ++ (root v ++ s)) → a ≡ b
same_declared v true true u w r s h g e = refl
same_declared v false false u w r s h g e = refl
same_declared v true false u w r s h g e = sym (question (u ++ (root v ++ r))) ∙ ap starts_question e ∙ no_question v w s g
same_declared v false true u w r s h g e = sym (no_question v u r h) ∙ ap starts_question e ∙ question (w ++ (root v ++ s))

module _ {v : Version} {sh : Shape} where
  head-split : (d : Message v sh) (s : List ℕ) → head d ++ s ≡ pick d.declared declaration [] ++ (d.before ++ (root v ++ s))
  head-split d s =
      append_assoc (pick d.declared declaration []) (d.before ++ root v) s ∙ ap (λ (x : List ℕ). pick d.declared declaration [] ++ x) (append_assoc d.before (root v) s)

  message-same : (d e : Message v sh) → d.declared ≡ e.declared → d.before ≡ e.before → d.inside ≡ e.inside → d.behind ≡ e.behind → d ≡ e
  message-same d e a b c f =
      ap (λ (x : Bool). record { declared = x; before = d.before; inside = d.inside; behind = d.behind }) a
      ∙ ap (λ (x : List ℕ). record { declared = e.declared; before = x; inside = d.inside; behind = d.behind }) b
      ∙ ap (λ (x : Doc sh). record { declared = e.declared; before = e.before; inside = x; behind = d.behind }) c
      ∙ ap (λ (x : List ℕ). record { declared = e.declared; before = e.before; inside = e.inside; behind = x }) f

  pub message_one : sure sh ≡ true → (d e : Message v sh) → Lawful d → Lawful e → whole d ≡ whole e → d ≡ e
  message_one a d e law law' q =
      let x : List ℕ = text sh d.inside ++ d.behind in
      let y : List ℕ = text sh e.inside ++ e.behind in
      let p : pick d.declared declaration [] ++ (d.before ++ (root v ++ x)) ≡ pick e.declared declaration [] ++ (e.before ++ (root v ++ y)) = sym (head-split d x) ∙ q ∙ head-split e y in
      let b : d.declared ≡ e.declared = same_declared v d.declared e.declared d.before e.before x y law.before law'.before p in
      let f = same_length (pick d.declared declaration []) (pick e.declared declaration []) (d.before ++ (root v ++ x)) (e.before ++ (root v ++ y))
      (ap (λ (z : Bool). length (pick z declaration [])) b) p in
      let g = same_run white white_bracket d.before e.before (root v ++ x) (root v ++ y) law.before law'.before (root_starts v x) (root_starts v y) f.1 in
      let h = text_one_lem sh a d.inside e.inside law.inside law'.inside d.behind e.behind (same_length (root v) (root v) x y refl g.1).1 in
      message-same d e b g.0 h.0 h.1

-- One message, one version, one document: so where a value stands in it is no matter of choice.
pub one_document : {v w : Version} (d : Message v (profile v)) (e : Message w (profile w)) → Lawful d → Lawful e → whole d ≡ whole e
    → ◌≡◌ {A = (u : Version) × Message u (profile u)} (v, d) (w, e)
one_document {v} {w} d e law law' q = subst P same (λ e l z. ap (λ (x : Message v (profile v)). (v, x)) (message_one (profile_sure v) d e law l z)) e law' q
  where
    P : Version → Type 0
    P u = (e : Message u (profile u)) → Lawful e → whole d ≡ whole e → ◌≡◌ {A = (u : Version) × Message u (profile u)} (v, d) (u, e)

    same : v ≡ w
    same =
        let a : opened (whole d) ≡ from v (length (head d)) = opens d law (text (profile v) d.inside ++ d.behind) in
        let b : opened (whole e) ≡ from w (length (head e)) = opens e law' (text (profile w) e.inside ++ e.behind) in
        let c : from v (length (head d)) ≡ from w (length (head e)) = sym a ∙ ap opened q ∙ b in
        cc
