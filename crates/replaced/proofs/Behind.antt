-- Every value that is met lies behind the start tag of its element, and before a `<`.
use mathlib.Core.Path.{◌≡◌, refl, sym, ap, ◌∙◌}
use mathlib.Core.Bool.{Bool, true, false, not}
use mathlib.Core.List.{List, [], ◌∷◌, ◌++◌, append-nil, append_assoc}
use Prim.Native.Nat.{ℕ, suc, ◌+◌, ◌<◌}
use Prim.Native.String.{String}
use native.Mathlib.Omega.{arith}
use borrow.Author.Tests.{eqb-true}
use lib.Dec.{eqb, ltb}
use lib.ListN.{length, take, drop, length-append, take-append-drop}
use lib.Seq.{drop_at, length-take-le}
use Rattle.text.specs.Truth.{pick, lead}
use Rattle.text.specs.Quoted.{bytes}
use Rattle.tags.specs.declared.Look.{Look}
use Rattle.tags.specs.declared.Look.TheVariants.{Whole, Cut, Other}
use Rattle.tags.specs.Tags.{skipped, look, exactly, plain_tag, amount_tag, start_tag, currency}
use Rattle.tags.specs.Values.{in_value, value_at, behind_value}
use Rattle.tags.proofs.Looks.{exactly_length, look_fits, look_text, whole_text, and_then as and_then_look, look_append}
use Rattle.profile.specs.declared.Kind.{Kind}
use Rattle.profile.specs.Kinds.{is_amount}
use Rattle.profile.specs.declared.Version.{Version}
use Rattle.profile.specs.Limits.{most_bytes}
use Rattle.profile.specs.Tree.{Occ, once, optional, many, more, Shape, end, leaf, group}
use Rattle.profile.specs.Profile.{profile}
use Rattle.reading.specs.Trace.{What, item_begins, item_ends, there, absent, value, Trace, up_to, fault, begins, ends, trace, Opened, from, faulty, opened, behind_all, inside, message}
use Rattle.reading.proofs.Flat.{never}
use Rattle.reading.proofs.Each.{All, all_then, Comes, trace_all}
use Rattle.replaced.proofs.Alike.{look_taken}
use Rattle.replaced.proofs.Tests.{start_text}

-- a value u of kind k at place q, of an element whose name is as B says
pub record At (B : Kind → String → Type 0) (m : List ℕ) (k : Kind) (q : ℕ) (u : List ℕ) : Type 0 where
  pub name : String
  pub good : B k name
  pub start : ℕ
  pub tag : look (start_tag (is_amount k) name) (drop start m) ≡ Whole
  pub place : q ≡ start + length (start_tag (is_amount k) name)
  pub bytes : u ≡ value_at m q
  pub ends : behind_value m q < length m

module _ (B : Kind → String → Type 0) (m : List ℕ) where
  abbrev pub Placed : ℕ → What → Type 0
  Placed q item_begins = Unit {0}
  Placed q item_ends = Unit {0}
  Placed q (there n) = Unit {0}
  Placed q (absent n) = Unit {0}
  Placed q (value k f u) = At B m k q u

  abbrev pub AllPlaced : Trace → Type 0
  AllPlaced = All (λ e. Placed e.place e.what)

  begins_placed : (o : Occ) (n : String) (p : ℕ) (t : Trace) → AllPlaced t → AllPlaced (begins o n p t)
  begins_placed once n p t h = h
  begins_placed optional n p t h = (tt, h)
  begins_placed many n p t h = (tt, h)
  begins_placed more n p t h = (tt, h)

  ends_placed : (o : Occ) (p : ℕ) → AllPlaced (ends o p)
  ends_placed once p = tt
  ends_placed optional p = tt
  ends_placed many p = (tt, tt)
  ends_placed more p = (tt, tt)

  -- every element of a value has a name as B says
  abbrev pub Named : Shape → Type 0
  Named = Comes (λ o. Unit {0}) (λ k f n. B k n)

  pub trace_placed : (sh : Shape) → Named sh → (p : ℕ) → AllPlaced (trace sh m p)
  trace_placed =
      trace_all m (λ e. Placed e.place e.what) (λ o. Unit {0}) (λ k f n. B k n)
      (λ n k f good p q e w h. record { name = n; good = good; start = p; tag = w; place = e; bytes = refl; ends = h })
      (λ o a. begins_placed o) (λ n p. tt) (λ o a. ends_placed o)

-- ---- a whole message, of whatever version
pub record OfVersion (B : Version → Kind → String → Type 0) (m : List ℕ) (k : Kind) (n : String) : Type 0 where
  pub version : Version
  pub inner : ℕ
  pub opens : opened m ≡ from version inner
  pub good : B version k n

pub message_placed : (B : Version → Kind → String → Type 0) (m : List ℕ) → ((u : Version) → Named (B u) m (profile u)) → AllPlaced (OfVersion B m) m (message m)
unfolding message behind_all
message_placed B m c = first (ltb most_bytes (length m))
  where
    named : (u : Version) (p : ℕ) → opened m ≡ from u p → (sh : Shape) → Named (B u) m sh → Named (OfVersion B m) m sh
    named u p e (end n) h = tt
    named u p e (leaf o n k f rest) h = (tt, record { version = u; inner = p; opens = e; good = h.1 }, named u p e rest h.2)
    named u p e (group o n inner rest) h = (tt, named u p e inner h.1, named u p e rest h.2)

    last : (p : ℕ) → AllPlaced (OfVersion B m) m (behind_all m p)
    last p = go (ltb (skipped m p) (length m))
      where
        go : (b : Bool) → AllPlaced (OfVersion B m) m (pick b (fault 16 (skipped m p)) (up_to (skipped m p)))
        go true = tt
        go false = tt

    go : (o : Opened) → opened m ≡ o → AllPlaced (OfVersion B m) m (inside m o)
    go (from u p) e = all_then (λ e. Placed (OfVersion B m) m e.place e.what) (trace (profile u) m p) (behind_all m) (trace_placed (OfVersion B m) m (profile u) (named u p e (profile u) (c u)) p) last
    go (faulty n q) e = tt

    first : (b : Bool) → AllPlaced (OfVersion B m) m (pick b (fault 1 0) (inside m (opened m)))
    first true = tt
    first false = go (opened m) refl

-- ---- a start tag that lies at the beginning of a text: its bytes behind the `<`, and what follows it
pub record Tagged (amount : Bool) (n : String) (s : List ℕ) : Type 0 where
  pub head : List ℕ
  pub more : List ℕ
  pub rest : List ℕ
  pub is : s ≡ 60 ∷ (head ++ rest)
  pub begins : 60 ∷ head ≡ start_text amount n ++ more
  pub lies : look (start_tag amount n) (60 ∷ head) ≡ Whole
  pub wide : length (start_tag amount n) ≡ suc (length head)

pub tagged : (amount : Bool) (n : String) (s : List ℕ) → look (start_tag amount n) s ≡ Whole → Tagged amount n s
tagged false n s e =
    record {
      head = drop 1 (plain_tag n);
      more = [];
      rest = drop (length (plain_tag n)) s;
      is = whole_text (plain_tag n) s e;
      begins = sym (append-nil (plain_tag n));
      lies = ap (look (exactly (plain_tag n))) (sym (append-nil (plain_tag n))) ∙ look_text (plain_tag n) [];
      wide = exactly_length (plain_tag n);
    }
tagged true n s e =
    let t = amount_tag n in
    let u : List ℕ = drop (length t) s in
    let l = parts (look (exactly t) s) (look currency (drop (length (exactly t)) s)) (sym (look_append (exactly t) currency s) ∙ e) in
    let lies : look currency u ≡ Whole = ap (λ (i : ℕ). look currency (drop i s)) (sym (exactly_length t)) ∙ l.1 in
    record {
      head = drop 1 t ++ take 5 u;
      more = take 5 u;
      rest = drop 5 u;
      is = whole_text t s l.0 ∙ ap (λ (x : List ℕ). t ++ x) (sym (take-append-drop 5 u)) ∙ sym (append_assoc t (take 5 u) (drop 5 u));
      begins = refl;
      lies =
          look_append (exactly t) currency (t ++ take 5 u)
          ∙ ap (λ (x : Look). and_then_look x (look currency (drop (length (exactly t)) (t ++ take 5 u)))) (look_text t (take 5 u))
          ∙ ap (look currency) (drop_at t (take 5 u) (length (exactly t)) (sym (exactly_length t)))
          ∙ look_taken currency u
          ∙ lies;
      wide = length-append (exactly t) currency ∙ omega (arith, exactly_length t, length-append t (take 5 u), length-take-le 5 u (look_fits currency u lies));
    }
  where
    parts : (a b : Look) → and_then_look a b ≡ Whole → (a ≡ Whole) × (b ≡ Whole)
    parts Whole b h = (refl, h)
    parts Cut b h = never (cc)
    parts Other b h = never (cc)

-- ---- a value's bytes, up to the next `<`
pub record Valued (s : List ℕ) : Type 0 where
  pub behind : List ℕ
  pub is : s ≡ take (lead in_value s) s ++ (60 ∷ behind)

pub value_ends : (s : List ℕ) → lead in_value s < length s → Valued s
value_ends [] h = never (omega arith)
value_ends (c ∷ s) h = go (eqb c 60) refl h (value_ends s)
  where
    on : eqb c 60 ≡ false → Valued s → Valued (c ∷ s)
    on e x = record { behind = x.behind; is = rw e (ap (λ (l : List ℕ). c ∷ l) x.is) }

    go : (b : Bool) → eqb c 60 ≡ b → pick (not b) (suc (lead in_value s)) 0 < suc (length s) → (lead in_value s < length s → Valued s) → Valued (c ∷ s)
    go true e g k = record { behind = s; is = rw (e, eqb-true c 60 e) }
    go false e g k = on e (k (omega arith))
