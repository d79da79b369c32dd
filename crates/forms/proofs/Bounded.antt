-- The longest plain form: "1, place 0, when the plain form would pass 16,777,216 bytes" can never come.
use mathlib.Core.Path.{◌≡◌, refl, sym, ap, ◌∙◌}
use mathlib.Core.List.{List, [], ◌∷◌, ◌++◌}
use Prim.Native.Nat.{ℕ, suc, ◌+◌, ◌*◌, ◌≤◌}
use Prim.Native.String.{String}
use native.Mathlib.Nat.{mul-le-mul_right}
use native.Mathlib.Omega.{arith}
use borrow.Author.Tests.{leb-true}
use lib.ListN.{length, length-append}
use Rattle.tags.specs.Tags.{end_tag, plain_tag, declaration}
use Rattle.profile.specs.declared.Kind.{Kind}
use Rattle.profile.specs.declared.Version.{Version}
use Rattle.profile.specs.declared.Version.TheVariants.{V02, V08}
use Rattle.profile.specs.Version.{root}
use Rattle.profile.specs.Limits.{most_bytes, most_items}
use Rattle.profile.specs.Tree.{Occ, once, optional, many, more, Shape, end, leaf, group}
use Rattle.profile.specs.Profile.{profile}
use Rattle.kinds.specs.Given.{kind_given}
use Rattle.kinds.specs.Meant.{as_meant}
use Rattle.reading.specs.Trace.{What, item_begins, item_ends, there, value}
use Rattle.reading.specs.Rules.{items_in, own_kind}
use Rattle.reading.proofs.Lists.{items_append}
use Rattle.documents.specs.Document.{Led, Doc, opening, led_text, texts, text, Often, Each, LedBy, Tagless, Proper}
use Rattle.documents.specs.Message.{Message, whole, Lawful}
use Rattle.documents.specs.Said.{one, each, none, said}
use Rattle.documents.specs.Holds.{Passes}
use Rattle.documents.proofs.Each.{each_first, each_rest}
use Rattle.forms.specs.Plain.{bare, plain, plain_message}
use Rattle.forms.proofs.Holds.{passes_none}
use Rattle.forms.proofs.Longest.{longest, meant_long}

-- how often an element can stand
abbrev most_times : Occ → ℕ
most_times once = 1
most_times optional = 1
most_times many = most_items
most_times more = most_items

-- the longest text of a tree
abbrev longest_text : Shape → ℕ
longest_text (end n) = length (end_tag n)
longest_text (leaf o n k f rest) = most_times o * (length (opening k n) + (longest k + length (end_tag n))) + longest_text rest
longest_text (group o n inner rest) = most_times o * (length (plain_tag n) + longest_text inner) + longest_text rest

-- what is said of it that matters here: values pass, and there are 10,000 items at most
pub record Few (ws : List What) : Type 0 where
  pub kinds : Each (λ w. Passes (own_kind w)) ws
  pub items : items_in ws ≤ most_items

few_first : (a b : List What) → Few (a ++ b) → Few a
few_first a b h = record { kinds = each_first (λ w. Passes (own_kind w)) a b h.kinds; items = omega (arith, h.items, items_append a b) }

few_rest : (a b : List What) → Few (a ++ b) → Few b
few_rest a b h = record { kinds = each_rest (λ w. Passes (own_kind w)) a b h.kinds; items = omega (arith, h.items, items_append a b) }

few_behind : (w : What) (l : List What) → Few (w ∷ l) → Few l
few_behind w l h = few_rest (w ∷ []) l h

module _ {A : Type 0} (n : String) (t : A → List What) where
  few-one : (o : Occ) (e : Led A) → Few (one o n t e) → Few (t e.held)
  few-one once e h = h
  few-one optional e h = few_behind (there n) (t e.held) h
  few-one many e h = few_first (t e.held) (item_ends ∷ []) (few_behind item_begins (t e.held ++ (item_ends ∷ [])) h)
  few-one more e h = few_first (t e.held) (item_ends ∷ []) (few_behind item_begins (t e.held ++ (item_ends ∷ [])) h)

  -- no more elements that repeat than items
  repeated : (l : List (Led A)) → (length l ≤ items_in (each many n t l)) × (length l ≤ items_in (each more n t l))
  repeated [] = (omega arith, omega arith)
  repeated (e ∷ l) =
      let h = repeated l in
      (omega (arith, items_append (one many n t e) (each many n t l), h), omega (arith, items_append (one more n t e) (each more n t l), h))

  most-times : (o : Occ) (l : List (Led A)) → Often o (length l) → items_in (each o n t l) ≤ most_items → length l ≤ most_times o
  most-times once l h g = omega arith
  most-times optional l h g = h
  most-times many l h g = omega (arith, repeated l)
  most-times more l h g = omega (arith, repeated l)

  module _ (o : Occ) (tag : List ℕ) (f : A → A) (x : A → List ℕ) (P : A → Type 0) (b : ℕ) (long : (a : A) → P a → Few (t a) → length (x (f a)) ≤ b) where
    texts-long : (l : List (Led A)) → Each (LedBy P) l → Few (each o n t l) → length (texts (led_text tag x) (bare f l)) ≤ length l * (length tag + b)
    texts-long [] pr h = omega arith
    texts-long (e ∷ l) pr h =
        let y = tag ++ x (f e.held) in
        let s = texts (led_text tag x) (bare f l) in
        step (length l) (length y) (length s) (length (y ++ s)) (length-append y s)
        (omega (arith, length-append tag (x (f e.held)), long e.held pr.0.1 (few-one o e (few_first (one o n t e) (each o n t l) h))))
        (texts-long l pr.1 (few_rest (one o n t e) (each o n t l) h))
      where
        step : (i y s z : ℕ) → z ≡ y + s → y ≤ length tag + b → s ≤ i * (length tag + b) → z ≤ suc i * (length tag + b)
        step i y s z e h g = omega arith

    -- a row, and what comes after it
    row_long : (l : List (Led A)) (s : List ℕ) (r : List What) (y : ℕ) → Often o (length l) → Each (LedBy P) l → Few (none o n l ++ (each o n t l ++ r)) → (Few r → length s ≤ y)
        → length (texts (led_text tag x) (bare f l) ++ s) ≤ most_times o * (length tag + b) + y
    row_long l s r y h pr g rest =
        let k = few_rest (none o n l) (each o n t l ++ r) g in
        let j = few_first (each o n t l) r k in
        let z = texts (led_text tag x) (bare f l) in
        step (length l) (most_times o) (length z) (length s) (length (z ++ s)) (most-times o l h j.items) (length-append z s) (texts-long l pr j) (rest (few_rest (each o n t l) r k))
      where
        step : (i j z s a : ℕ) → i ≤ j → a ≡ z + s → z ≤ i * (length tag + b) → s ≤ y → a ≤ j * (length tag + b) + y
        step i j z s a h e g k = omega (arith, mul-le-mul_right (length tag + b) h)

pub text_long : (sh : Shape) (d : Doc sh) → Proper sh d → Few (said sh d) → length (text sh (plain sh d)) ≤ longest_text sh
text_long (end n) w pr h = omega arith
text_long (leaf o n k f rest) d pr h =
    row_long n (λ v. value k f v ∷ []) o (opening k n) (as_meant k) (λ v. v ++ end_tag n) Tagless (longest k + length (end_tag n)) one-long
    d.all (text rest (plain rest d.others)) (said rest d.others) (longest_text rest) pr.0 pr.1 h (text_long rest d.others pr.2)
  where
    one-long : (v : List ℕ) → Tagless v → Few (value k f v ∷ []) → length (as_meant k v ++ end_tag n) ≤ longest k + length (end_tag n)
    one-long v z h = omega (arith, length-append (as_meant k v) (end_tag n), meant_long k v (passes_none (kind_given k v) h.kinds.0))
text_long (group o n inner rest) d pr h =
    row_long n (said inner) o (plain_tag n) (plain inner) (text inner) (Proper inner) (longest_text inner) (text_long inner)
    d.all (text rest (plain rest d.others)) (said rest d.others) (longest_text rest) pr.0 pr.1 h (text_long rest d.others pr.2)

-- the declaration, the root tag and the longest text between them
longest_form : (v : Version) → length declaration + (length (root v) + longest_text (profile v)) ≤ most_bytes
unfolding profile
longest_form V02 = leb-true _ most_bytes refl
longest_form V08 = leb-true _ most_bytes refl

-- The plain form of a document of which the profile holds has 16,777,216 bytes at most.
pub form_long : {v : Version} (d : Message v (profile v)) → Lawful d → Few (said (profile v) d.inside) → length (whole (plain_message d)) ≤ most_bytes
form_long {v = v} d law few =
    let t = text (profile v) (plain (profile v) d.inside) in
    omega (arith, length-append (declaration ++ root v) (t ++ []), length-append declaration (root v), length-append t [], text_long (profile v) d.inside law.inside few, longest_form v)
