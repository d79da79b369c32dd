-- The pieces of a document's text are the text of its plain form.
use mathlib.Core.Path.{◌≡◌, refl, sym, ap, ◌∙◌}
use mathlib.Core.Bool.{Bool, true, false, not}
use mathlib.Core.List.{List, [], ◌∷◌, ◌++◌, append-nil, append_assoc}
use Prim.Native.Nat.{ℕ, zero, suc}
use Prim.Native.String.{String}
use native.Mathlib.Omega.{arith}
use borrow.Author.Tests.{eqb-true}
use lib.Dec.{eqb}
use lib.ListN.{length, take, length-append}
use lib.Seq.{take_at, drop_at}
use Rattle.text.specs.Truth.{both, pick, every, lead}
use Rattle.text.specs.Quoted.{bytes, byte}
use Rattle.text.proofs.Truths.{never, both_true}
use Rattle.text.proofs.Scan.{lead_before, every_append, every_also}
use Rattle.tags.specs.Tags.{white, end_tag, plain_tag, amount_tag, declaration}
use Rattle.tags.specs.Values.{in_value}
use Rattle.profile.specs.declared.Kind.{Kind}
use Rattle.profile.specs.declared.Kind.TheVariants.{Plain, Count, Total, Amount, Code}
use Rattle.profile.specs.Kinds.{is_amount}
use Rattle.profile.specs.declared.Version.{Version}
use Rattle.profile.specs.declared.Version.TheVariants.{V02, V08}
use Rattle.profile.specs.Version.{root}
use Rattle.profile.specs.Tree.{Occ, once, optional, many, more, Shape, end, leaf, group}
use Rattle.profile.specs.declared.Simple.{Simple}
use Rattle.profile.specs.declared.Simple.TheVariants.{Reference, EndToEnd, Text70, Text140, Date, Time, Bic, Bicfi, Iban, Identifier}
use Rattle.profile.specs.Profile.{words_tag, profile}
use Rattle.kinds.specs.Meant.{simply_meant, as_meant}
use Rattle.documents.specs.Document.{Led, Doc, opening, led_text, texts, text, Often, Each, White, Tagless, LedBy, Proper}
use Rattle.documents.specs.Message.{Message, whole, Lawful}
use Rattle.documents.proofs.Texts.{Starts, opening_starts, plain_starts, end_starts, white_bracket}
use Rattle.documents.proofs.Messages.{root_starts, no_question, question}
use Rattle.forms.specs.Plain.{bare, plain, plain_message}
use Rattle.plain.specs.declared.Spelling.{Spelling}
use Rattle.plain.specs.declared.Spelling.TheVariants.{Nothing, AsRead, Collapsed, Number, Amount as Decimals}
use Rattle.plain.specs.Engine.{in_tag, tag_of, behind_tag, up_to_tag, from_tag, closes, quoted, spelled, spelling_by, pieces, body_of}
use Rattle.plain.proofs.Scans.{spelling_closed, spelling_open}
use Rattle.plain.proofs.Pieces.{pieces_none, pieces_first}

-- ---- up to the next tag
white_inside : (c : ℕ) → white c ≡ true → in_value c ≡ true
white_inside c h = go (eqb c (byte "<")) refl
  where
    go : (b : Bool) → eqb c (byte "<") ≡ b → not b ≡ true
    go false e = refl
    go true e = never (let z : white 60 ≡ true = rw (eqb-true c (byte "<") e) at h in cc (white_bracket))

module _ (w t : List ℕ) (h : every in_value w ≡ true) (s : Starts t) where
  up-lead : lead in_value (w ++ t) ≡ length w
  up-lead = rw s.is (lead_before in_value w 60 s.rest h refl)

  pub up_to : up_to_tag (w ++ t) ≡ w
  up_to = rw up-lead (take_at w t (length w) refl)

  pub from_there : from_tag (w ++ t) ≡ t
  from_there = rw up-lead (drop_at w t (length w) refl)

from_blank : (w t : List ℕ) → White w → Starts t → from_tag (w ++ t) ≡ t
from_blank w t h s = from_there w t (every_also white in_value white_inside w h) s

from_white : (w : List ℕ) → White w → from_tag w ≡ []
from_white [] h = refl
from_white (c ∷ w) h =
    let x = both_true (white c) (every white w) h in
    rw (white_inside c x.0) (from_white w x.1)

-- ---- a tag: `>` at its end and nowhere else
record Tag (t : List ℕ) : Type 0 where
  pub body : List ℕ
  pub is : t ≡ body ++ (byte ">" ∷ [])
  pub clear : every in_tag body ≡ true

module _ (t x : List ℕ) (g : Tag t) where
  tag-lead : lead in_tag (t ++ x) ≡ length g.body
  tag-lead = rw (g.is, append_assoc g.body (byte ">" ∷ []) x) (lead_before in_tag g.body (byte ">") x g.clear refl)

  tag_long : length t ≡ suc (length g.body)
  tag_long = ap length g.is ∙ length-append g.body (byte ">" ∷ []) ∙ omega arith

  tag-there : tag_of (t ++ x) ≡ t
  tag-there = rw tag-lead (take_at t x (suc (length g.body)) tag_long)

  behind-there : behind_tag (t ++ x) ≡ x
  behind-there = rw tag-lead (drop_at t x (suc (length g.body)) tag_long)

  -- the piece that begins with it
  tag-piece : pieces (t ++ x) ≡ (t ++ spelled (spelling_by t (from_tag x)) (up_to_tag x)) ++ pieces (from_tag x)
  tag-piece = pieces_first (t ++ x) (omega (arith, length-append t x, tag_long)) ∙ rw (tag-there, behind-there)

  -- nothing is written behind an end tag, or before a start tag
  closed-piece : closes t ≡ true → pieces (t ++ x) ≡ t ++ pieces (from_tag x)
  closed-piece e = tag-piece ∙ rw (← spelling_closed t (from_tag x) e, append-nil t)

  open-piece : closes t ≡ false → closes (from_tag x) ≡ false → pieces (t ++ x) ≡ t ++ pieces (from_tag x)
  open-piece e f = tag-piece ∙ rw (← spelling_open t (from_tag x) e f, append-nil t)

-- ---- names: no `>`, no `/`
abbrev in_name : ℕ → Bool
in_name c = both (in_tag c) (not (eqb c (byte "/")))

name_tag : (c : ℕ) → in_name c ≡ true → in_tag c ≡ true
name_tag c h = (both_true (in_tag c) (not (eqb c (byte "/"))) h).0

not_closed : (l : List ℕ) (d : ℕ) (r : List ℕ) → every in_name l ≡ true → eqb d (byte "/") ≡ false → closes (byte "<" ∷ (l ++ (d ∷ r))) ≡ false
unfolding closes
not_closed [] d r h e = rw e
not_closed (c ∷ l) d r h e = go (eqb c (byte "/")) (both_true (in_tag c) (not (eqb c (byte "/"))) (both_true (in_name c) (every in_name l) h).0).1
  where
    go : (b : Bool) → not b ≡ true → both b true ≡ false
    go false e = refl
    go true e = sym e

module _ (n : String) (h : every in_name (bytes n) ≡ true) where
  name-clear : every in_tag (bytes n) ≡ true
  name-clear = every_also in_name in_tag name_tag (bytes n) h

  end-tag : Tag (end_tag n)
  end-tag = record { body = bytes "</" ++ bytes n; is = refl; clear = name-clear }

  plain-tag : Tag (plain_tag n)
  plain-tag = record { body = bytes "<" ++ bytes n; is = refl; clear = name-clear }

  opening-tag : (k : Kind) → Tag (opening k n)
  opening-tag k = go (is_amount k)
    where
      go : (b : Bool) → Tag (pick b (amount_tag n ++ bytes "EUR\">") (plain_tag n))
      go true = record {
        body = amount_tag n ++ bytes "EUR\"";
        is = sym (append_assoc (amount_tag n) (bytes "EUR\"") (byte ">" ∷ []));
        clear = every_append in_tag (bytes n ++ bytes " Ccy=\"") (bytes "EUR\"") (every_append in_tag (bytes n) (bytes " Ccy=\"") name-clear refl) refl;
      }
      go false = plain-tag

  open_plain : (r : List ℕ) → closes (plain_tag n ++ r) ≡ false
  open_plain r = ap (λ (l : List ℕ). closes (byte "<" ∷ l)) (append_assoc (bytes n) (byte ">" ∷ []) r) ∙ not_closed (bytes n) (byte ">") r h refl

  open-opening : (k : Kind) (r : List ℕ) → closes (opening k n ++ r) ≡ false
  open-opening k r = go (is_amount k)
    where
      go : (b : Bool) → closes (pick b (amount_tag n ++ bytes "EUR\">") (plain_tag n) ++ r) ≡ false
      go true =
          ap (λ (l : List ℕ). closes (byte "<" ∷ l)) (append_assoc (bytes n ++ bytes " Ccy=\"") (bytes "EUR\">") r ∙ append_assoc (bytes n) (bytes " Ccy=\"") (bytes "EUR\">" ++ r))
          ∙ not_closed (bytes n) (byte " ") (bytes "Ccy=\"" ++ (bytes "EUR\">" ++ r)) h refl
      go false = open_plain r

close_end : (n : String) (r : List ℕ) → closes (end_tag n ++ r) ≡ true
unfolding closes
close_end n r = refl

close_end_tag : (n : String) → closes (end_tag n) ≡ true
unfolding closes
close_end_tag n = refl

-- ---- how a value is spelled, by its tag
abbrev spelling_simply : Simple → Spelling
spelling_simply Reference = AsRead
spelling_simply EndToEnd = Collapsed
spelling_simply Text70 = Collapsed
spelling_simply Text140 = Collapsed
spelling_simply Date = AsRead
spelling_simply Time = AsRead
spelling_simply Bic = AsRead
spelling_simply Bicfi = AsRead
spelling_simply Iban = AsRead
spelling_simply Identifier = AsRead

abbrev spelling_for : Kind → Spelling
spelling_for (Plain s) = spelling_simply s
spelling_for Count = Number
spelling_for Total = Decimals
spelling_for Amount = Decimals
spelling_for (Code e) = AsRead

spelled_simply : (s : Simple) (v : List ℕ) → spelled (spelling_simply s) v ≡ simply_meant s v
spelled_simply Reference v = refl
spelled_simply EndToEnd v = refl
spelled_simply Text70 v = refl
spelled_simply Text140 v = refl
spelled_simply Date v = refl
spelled_simply Time v = refl
spelled_simply Bic v = refl
spelled_simply Bicfi v = refl
spelled_simply Iban v = refl
spelled_simply Identifier v = refl

spelled_for : (k : Kind) (v : List ℕ) → spelled (spelling_for k) v ≡ as_meant k v
spelled_for (Plain s) v = spelled_simply s v
spelled_for Count v = refl
spelled_for Total v = refl
spelled_for Amount v = refl
spelled_for (Code e) v = refl

abbrev spelling_number : Spelling → ℕ
spelling_number Nothing = 0
spelling_number AsRead = 1
spelling_number Number = 2
spelling_number Collapsed = 3
spelling_number Decimals = 4

abbrev numbered : ℕ → Spelling
numbered zero = Nothing
numbered (suc zero) = AsRead
numbered (suc (suc zero)) = Number
numbered (suc (suc (suc zero))) = Collapsed
numbered (suc (suc (suc (suc n)))) = Decimals

numbered_is : (k : Spelling) → numbered (spelling_number k) ≡ k
numbered_is Nothing = refl
numbered_is AsRead = refl
numbered_is Number = refl
numbered_is Collapsed = refl
numbered_is Decimals = refl

same_spelling : (j k : Spelling) → eqb (spelling_number j) (spelling_number k) ≡ true → j ≡ k
same_spelling j k e = sym (numbered_is j) ∙ ap numbered (eqb-true (spelling_number j) (spelling_number k) e) ∙ numbered_is k

-- what stands behind matters only where it is an end tag
spelling_at : (t q r : List ℕ) → closes q ≡ true → closes r ≡ true → spelling_by t q ≡ spelling_by t r
unfolding spelling_by
spelling_at t q r e f = rw (e, f)

two_bytes : closes (bytes "</") ≡ true
unfolding closes
two_bytes = refl

-- ---- what is asked of a tree: names are names, a value's tag tells how it is spelled, and a group begins with a start tag
abbrev due : Occ → Bool
due once = true
due optional = false
due many = true
due more = false

abbrev begins : Shape → Bool
begins (end n) = false
begins (leaf o n k f rest) = pick (due o) true (begins rest)
begins (group o n inner rest) = pick (due o) true (begins rest)

abbrev named : String → Bool
named n = every in_name (bytes n)

abbrev told : Kind → String → Bool
told k n = eqb (spelling_number (spelling_by (opening k n) (bytes "</"))) (spelling_number (spelling_for k))

abbrev written : Shape → Bool
written (end n) = named n
written (leaf o n k f rest) = both (named n) (both (told k n) (written rest))
written (group o n inner rest) = both (named n) (both (begins inner) (both (written inner) (written rest)))

profile_written : (v : Version) → both (begins (profile v)) (written (profile v)) ≡ true
unfolding profile spelling_by closes quoted words_tag
profile_written V02 = refl
profile_written V08 = refl

-- ---- a row of elements
module _ {A : Type 0} (tag : List ℕ) (starts : (s : List ℕ) → Starts (tag ++ s)) (x : A → List ℕ) (g : A → A) (P : A → Type 0) where
  -- an element from its start tag on
  led-from : (e : Led A) → White e.blank → (s : List ℕ) → from_tag (led_text tag x e ++ s) ≡ tag ++ (x e.held ++ s)
  led-from e w s =
      ap from_tag (append_assoc e.blank (tag ++ x e.held) s ∙ ap (λ (l : List ℕ). e.blank ++ l) (append_assoc tag (x e.held) s))
      ∙ from_blank e.blank (tag ++ (x e.held ++ s)) w (starts (x e.held ++ s))

  module _ (one : (a : A) → P a → (s : List ℕ) → pieces (tag ++ (x a ++ s)) ≡ (tag ++ x (g a)) ++ pieces (from_tag s)) where
    row-pieces : (l : List (Led A)) → Each (LedBy P) l → (s : List ℕ) → pieces (from_tag (texts (led_text tag x) l ++ s)) ≡ texts (led_text tag x) (bare g l) ++ pieces (from_tag s)
    row-pieces [] h s = refl
    row-pieces (e ∷ l) h s =
        ap (λ (y : List ℕ). pieces (from_tag y)) (append_assoc (led_text tag x e) (texts (led_text tag x) l) s)
        ∙ ap pieces (led-from e h.0.0 (texts (led_text tag x) l ++ s))
        ∙ one e.held h.0.1 (texts (led_text tag x) l ++ s)
        ∙ ap (λ (y : List ℕ). (tag ++ x (g e.held)) ++ y) (row-pieces l h.1 s)
        ∙ sym (append_assoc (tag ++ x (g e.held)) (texts (led_text tag x) (bare g l)) (pieces (from_tag s)))

  -- where a row stands, or what comes after it, begins with a start tag
  module _ (opens : (s : List ℕ) → closes (tag ++ s) ≡ false) where
    row_open : (o : Occ) (l : List (Led A)) → Often o (length l) → Each (LedBy P) l → (b : Bool) → pick (due o) true b ≡ true → (s : List ℕ) → (b ≡ true → closes (from_tag s) ≡ false)
        → closes (from_tag (texts (led_text tag x) l ++ s)) ≡ false
    row_open o (e ∷ l) n h b d s r =
        ap (λ (y : List ℕ). closes (from_tag y)) (append_assoc (led_text tag x e) (texts (led_text tag x) l) s)
        ∙ ap closes (led-from e h.0.0 (texts (led_text tag x) l ++ s)) ∙ opens (x e.held ++ (texts (led_text tag x) l ++ s))
    row_open once [] n h b d s r = never (omega arith)
    row_open optional [] n h b d s r = r d
    row_open many [] n h b d s r = never (omega arith)
    row_open more [] n h b d s r = r d

text_open : (sh : Shape) → begins sh ≡ true → written sh ≡ true → (d : Doc sh) → Proper sh d → (s : List ℕ) → closes (from_tag (text sh d ++ s)) ≡ false
text_open (end n) b w d h s = never (cc)
text_open (leaf o n k f rest) b w d h s =
    let a = both_true (named n) (both (told k n) (written rest)) w in
    let c = both_true (told k n) (written rest) a.1 in
    ap (λ (y : List ℕ). closes (from_tag y)) (append_assoc (texts (led_text (opening k n) (λ v. v ++ end_tag n)) d.all) (text rest d.others) s)
    ∙ row_open (opening k n) (opening_starts k n) (λ v. v ++ end_tag n) (λ v. v) Tagless (open-opening n a.0 k) o d.all h.0 h.1 (begins rest) b (text rest d.others ++ s)
    (λ e. text_open rest e c.1 d.others h.2 s)
text_open (group o n inner rest) b w d h s =
    let a = both_true (named n) (both (begins inner) (both (written inner) (written rest))) w in
    let c = both_true (written inner) (written rest) (both_true (begins inner) (both (written inner) (written rest)) a.1).1 in
    ap (λ (y : List ℕ). closes (from_tag y)) (append_assoc (texts (led_text (plain_tag n) (text inner)) d.all) (text rest d.others) s)
    ∙ row_open (plain_tag n) (plain_starts n) (text inner) (λ x. x) (Proper inner) (open_plain n a.0) o d.all h.0 h.1 (begins rest) b (text rest d.others ++ s)
    (λ e. text_open rest e c.1 d.others h.2 s)

-- ---- a value and its end tag
module _ (n : String) (k : Kind) (nm : named n ≡ true) (tl : told k n ≡ true) where
  abbrev tagged : List ℕ
  tagged = opening k n

  value-spelled : (r : List ℕ) → closes r ≡ true → spelling_by tagged r ≡ spelling_for k
  value-spelled r e = spelling_at tagged r (bytes "</") e two_bytes ∙ same_spelling (spelling_by tagged (bytes "</")) (spelling_for k) tl

  value-pieces : (v : List ℕ) → Tagless v → (s : List ℕ) → pieces (tagged ++ ((v ++ end_tag n) ++ s)) ≡ (tagged ++ (as_meant k v ++ end_tag n)) ++ pieces (from_tag s)
  value-pieces v h s =
      let e : (v ++ end_tag n) ++ s ≡ v ++ (end_tag n ++ s) = append_assoc v (end_tag n) s in
      let f = from_there v (end_tag n ++ s) h (end_starts n s) in
      let u = up_to v (end_tag n ++ s) h (end_starts n s) in
      ap (λ (y : List ℕ). pieces (tagged ++ y)) e
      ∙ tag-piece tagged (v ++ (end_tag n ++ s)) (opening-tag n nm k)
      ∙ rw (f, u, value-spelled (end_tag n ++ s) (close_end n s), spelled_for k v, closed-piece (end_tag n) s (end-tag n nm) (close_end_tag n))
      (append_assoc tagged (as_meant k v) (end_tag n ++ pieces (from_tag s))
      ∙ ap (λ (y : List ℕ). tagged ++ y) (sym (append_assoc (as_meant k v) (end_tag n) (pieces (from_tag s))))
      ∙ sym (append_assoc tagged (as_meant k v ++ end_tag n) (pieces (from_tag s))))

-- ---- Over any tree: the pieces of a document's text are the text of its plain form.
pub text_pieces : (sh : Shape) → written sh ≡ true → (d : Doc sh) → Proper sh d → (s : List ℕ) → pieces (from_tag (text sh d ++ s)) ≡ text sh (plain sh d) ++ pieces (from_tag s)
text_pieces (end n) w d h s =
    ap (λ (y : List ℕ). pieces (from_tag y)) (append_assoc d (end_tag n) s)
    ∙ ap pieces (from_blank d (end_tag n ++ s) h (end_starts n s))
    ∙ closed-piece (end_tag n) s (end-tag n w) (close_end_tag n)
text_pieces (leaf o n k f rest) w d h s =
    let a = both_true (named n) (both (told k n) (written rest)) w in
    let c = both_true (told k n) (written rest) a.1 in
    let t = texts (led_text (opening k n) (λ v. v ++ end_tag n)) in
    ap (λ (y : List ℕ). pieces (from_tag y)) (append_assoc (t d.all) (text rest d.others) s)
    ∙ row-pieces (opening k n) (opening_starts k n) (λ v. v ++ end_tag n) (as_meant k) Tagless (value-pieces n k a.0 c.0) d.all h.1 (text rest d.others ++ s)
    ∙ ap (λ (y : List ℕ). t (bare (as_meant k) d.all) ++ y) (text_pieces rest c.1 d.others h.2 s)
    ∙ sym (append_assoc (t (bare (as_meant k) d.all)) (text rest (plain rest d.others)) (pieces (from_tag s)))
text_pieces (group o n inner rest) w d h s =
    let a = both_true (named n) (both (begins inner) (both (written inner) (written rest))) w in
    let b = both_true (begins inner) (both (written inner) (written rest)) a.1 in
    let c = both_true (written inner) (written rest) b.1 in
    let t = texts (led_text (plain_tag n) (text inner)) in
    ap (λ (y : List ℕ). pieces (from_tag y)) (append_assoc (t d.all) (text rest d.others) s)
    ∙ row-pieces (plain_tag n) (plain_starts n) (text inner) (plain inner) (Proper inner)
    (inner-pieces a.0 b.0 c.0 (text_pieces inner c.0)) d.all h.1 (text rest d.others ++ s)
    ∙ ap (λ (y : List ℕ). t (bare (plain inner) d.all) ++ y) (text_pieces rest c.1 d.others h.2 s)
    ∙ sym (append_assoc (t (bare (plain inner) d.all)) (text rest (plain rest d.others)) (pieces (from_tag s)))
  where
    opens : named n ≡ true → closes (plain_tag n) ≡ false
    opens nm = rw (← append-nil (plain_tag n)) (open_plain n nm [])

    inner-pieces : named n ≡ true → begins inner ≡ true → written inner ≡ true
        → ((d : Doc inner) → Proper inner d → (s : List ℕ) → pieces (from_tag (text inner d ++ s)) ≡ text inner (plain inner d) ++ pieces (from_tag s))
        → (d : Doc inner) → Proper inner d → (s : List ℕ) → pieces (plain_tag n ++ (text inner d ++ s)) ≡ (plain_tag n ++ text inner (plain inner d)) ++ pieces (from_tag s)
    inner-pieces nm b w rec d h s =
        open-piece (plain_tag n) (text inner d ++ s) (plain-tag n nm) (opens nm) (text_open inner b w d h s)
        ∙ ap (λ (y : List ℕ). plain_tag n ++ y) (rec d h s) ∙ sym (append_assoc (plain_tag n) (text inner (plain inner d)) (pieces (from_tag s)))

-- ---- a whole message
root_tag_lem : (v : Version) → Tag (root v)
root_tag_lem V02 = record { body = take 64 (root V02); is = refl; clear = refl }
root_tag_lem V08 = record { body = take 64 (root V08); is = refl; clear = refl }

root_open : (v : Version) → closes (root v) ≡ false
unfolding closes
root_open V02 = refl
root_open V08 = refl

body_from : (v : Version) (b : Bool) (w x : List ℕ) → White w → body_of ((pick b declaration [] ++ (w ++ root v)) ++ x) ≡ root v ++ x
unfolding body_of
body_from v true w x h =
    rw (append_assoc declaration (w ++ root v) x, question ((w ++ root v) ++ x), drop_at declaration ((w ++ root v) ++ x) (length declaration) refl, append_assoc w (root v) x)
    (from_blank w (root v ++ x) h (root_starts v x))
body_from v false w x h = rw (append_assoc w (root v) x, no_question v w x h) (from_blank w (root v ++ x) h (root_starts v x))

-- The declaration and the pieces of a lawful message: the text of its plain form.
pub message_pieces : {v : Version} (d : Message v (profile v)) → Lawful d → declaration ++ pieces (body_of (whole d)) ≡ whole (plain_message d)
message_pieces {v = v} d law =
    let w = both_true (begins (profile v)) (written (profile v)) (profile_written v) in
    let x = text (profile v) d.inside ++ d.behind in
    let p : pieces (root v ++ x) ≡ root v ++ text (profile v) (plain (profile v) d.inside) =
    open-piece (root v) x (root_tag_lem v) (root_open v) (text_open (profile v) w.0 w.1 d.inside law.inside d.behind)
    ∙ ap (λ (y : List ℕ). root v ++ y) (text_pieces (profile v) w.1 d.inside law.inside d.behind ∙ rw (from_white d.behind law.behind, pieces_none, append-nil (text (profile v) (plain (profile v) d.inside)))) in
    ap (λ (y : List ℕ). declaration ++ y) (ap pieces (body_from v d.declared d.before x law.before) ∙ p)
    ∙ rw (append-nil (text (profile v) (plain (profile v) d.inside)), append_assoc declaration (root v) (text (profile v) (plain (profile v) d.inside)))
