-- The tags of the profile beside the start tag of an element: computed tests.
use mathlib.Core.Path.{◌≡◌, ap, ◌∙◌}
use mathlib.Core.Bool.{Bool, true, false}
use mathlib.Core.Logic.{◌⊎◌, inl, inr}
use mathlib.Core.List.{List, [], ◌∷◌, ◌++◌, append_assoc}
use Prim.Native.Nat.{ℕ, suc}
use Prim.Native.String.{String}
use lib.ListN.{length, drop, length-append}
use Rattle.text.specs.Truth.{both, either, pick, every}
use Rattle.text.specs.Quoted.{bytes, alike}
use Rattle.text.proofs.Truths.{both_true, either_true}
use Rattle.tags.specs.declared.Look.TheVariants.{Whole}
use Rattle.tags.specs.Tags.{look, exactly, end_tag, plain_tag, amount_tag, start_tag, currency, declaration}
use Rattle.tags.specs.Values.{in_value}
use Rattle.tags.proofs.Looks.{is_other, other_before}
use Rattle.profile.specs.declared.Kind.{Kind}
use Rattle.profile.specs.declared.Field.{Field}
use Rattle.profile.specs.Kinds.{is_amount}
use Rattle.profile.specs.declared.Version.{Version}
use Rattle.profile.specs.Version.{versions, root}
use Rattle.profile.specs.Tree.{Shape, end, leaf, group}
use Rattle.profile.specs.Profile.{profile}
use Rattle.reading.specs.Trace.{from, opened, message}
use Rattle.reading.proofs.Lists.{alike_same}
use Rattle.replaced.proofs.Alike.{shut, alike_behind}
use Rattle.replaced.proofs.Along.{Each}
use Rattle.replaced.proofs.Beside.{Solid, Swapped, Clear, Beside}
use Rattle.replaced.proofs.Side.{Apart}
use Rattle.replaced.proofs.Whole.{Roots, Opening, message_beside}

-- the known bytes of a value's start tag: all of it, or an amount's up to its currency
abbrev pub start_text : Bool → String → List ℕ
start_text amount n = pick amount (amount_tag n) (plain_tag n)

abbrev agree : Bool → Bool → Bool
agree true b = b
agree false true = false
agree false false = true

-- `<` passes no test of the tag but the first, and the tag differs from the start tag within both
unfoldable pub clear : Bool → String → List (ℕ → Bool) → Bool
clear amount n tag = both (shut (drop 1 tag)) (is_other (look tag (start_text amount n)))

-- the same start tag
unfoldable pub same_tag : Bool → String → Bool → String → Bool
same_tag amount n amount' n' = both (agree amount amount') (alike (start_text amount' n') (start_text amount n))

same_tag_lem : (amount : Bool) (n : String) (amount' : Bool) (n' : String) → same_tag amount n amount' n' ≡ true → start_tag amount' n' ≡ start_tag amount n
unfolding same_tag
same_tag_lem true n true n' e = ap (λ (t : List ℕ). exactly t ++ currency) (alike_same (amount_tag n') (amount_tag n) e)
same_tag_lem false n false n' e = ap exactly (alike_same (plain_tag n') (plain_tag n) e)
same_tag_lem true n false n' e = cc
same_tag_lem false n true n' e = cc

-- every tag is clear of the start tag, but that of an element of a value of which fit holds, or of a group where that may be
abbrev pub apart : Bool → String → (Kind → Field → Bool) → Bool → Shape → Bool
apart amount n fit held (end n') = clear amount n (exactly (end_tag n'))
apart amount n fit held (leaf o n' k f rest) =
    both (clear amount n (exactly (end_tag n')))
    (both (either (clear amount n (start_tag (is_amount k) n')) (both (same_tag amount n (is_amount k) n') (fit k f))) (apart amount n fit held rest))
apart amount n fit held (group o n' inner rest) =
    both (either (clear amount n (exactly (plain_tag n'))) (both (same_tag amount n false n') held))
    (both (apart amount n fit held inner) (apart amount n fit held rest))

abbrev roots_clear : Bool → String → List Version → Bool
roots_clear amount n [] = true
roots_clear amount n (v ∷ vs) = both (clear amount n (exactly (root v))) (roots_clear amount n vs)

-- and so is the beginning of a message; and the start tag has no `<` but the first
abbrev pub opening : Bool → String → Bool
opening amount n =
    both (shut (drop 1 (start_tag amount n)))
    (both (clear amount n (exactly (bytes "<?"))) (both (clear amount n (exactly declaration)) (roots_clear amount n versions)))

-- ---- what they tell, of a start tag that begins so
module _ (amount : Bool) (n : String) (head more : List ℕ) (begins : 60 ∷ head ≡ start_text amount n ++ more) where
  clear-tells : (tag : List (ℕ → Bool)) → clear amount n tag ≡ true → Clear head tag
  unfolding clear
  clear-tells tag e =
      let h = both_true (shut (drop 1 tag)) (is_other (look tag (start_text amount n))) e in
      (h.0, λ s. ap (λ (l : List ℕ). look tag (l ++ s)) begins ∙ ap (look tag) (append_assoc (start_text amount n) more s) ∙ other_before tag (start_text amount n) (more ++ s) h.1)

  roots-tell : (vs : List Version) → roots_clear amount n vs ≡ true → Roots head vs
  roots-tell [] e = tt
  roots-tell (v ∷ vs) e =
      let h = both_true (clear amount n (exactly (root v))) (roots_clear amount n vs) e in
      (clear-tells (exactly (root v)) h.0, roots-tell vs h.1)

  opening-tells : opening amount n ≡ true → (shut (drop 1 (start_tag amount n)) ≡ true) × Opening head
  opening-tells e =
      let a = both_true (shut (drop 1 (start_tag amount n))) _ e in
      let b = both_true (clear amount n (exactly (bytes "<?"))) _ a.1 in
      let c = both_true (clear amount n (exactly declaration)) (roots_clear amount n versions) b.1 in (
        a.0,
        record {
          question = clear-tells (exactly (bytes "<?")) b.0;
          declared = clear-tells (exactly declaration) c.0;
          roots = roots-tell versions c.1;
        },
      )

  -- any bytes x before the start tag; a value, v or w; a `<` and any bytes z behind it
  module _ (x v w z : List ℕ) (lies : look (start_tag amount n) (60 ∷ head) ≡ Whole) (wide : length (start_tag amount n) ≡ suc (length head)) (clean : opening amount n ≡ true)
      (tagless : every in_value v ≡ true) (tagless' : every in_value w ≡ true) (long : length v ≡ length w) where
    abbrev pub with : List ℕ → List ℕ
    with u = x ++ (60 ∷ (head ++ (u ++ (60 ∷ z))))

    abbrev swapped : Swapped (with v) (with w)
    swapped =
        record {
          own = start_tag amount n;
          head = head;
          v = v;
          w = w;
          z = z;
          lies = lies;
          wide = wide;
          firm = (opening-tells clean).0;
          tagless = tagless;
          tagless' = tagless';
          long = long;
          size = simp (length-append, long);
          alike = alike_behind (head ++ (v ++ (60 ∷ z))) (head ++ (w ++ (60 ∷ z))) x;
        }

    module _ (fit : Kind → Field → Bool) (held : Bool) (solid : held ≡ true → Solid v × Solid w) where
      abbrev pub Fits : Kind → Field → Type 0
      Fits k f = fit k f ≡ true

      apart-tells : (sh : Shape) → apart amount n fit held sh ≡ true → Each (Apart (with v) (with w) swapped Fits) sh
      apart-tells (end n') e = clear-tells (exactly (end_tag n')) e
      apart-tells (leaf o n' k f rest) e =
          let a = both_true (clear amount n (exactly (end_tag n'))) _ e in
          let b = both_true (either (clear amount n (start_tag (is_amount k) n')) (both (same_tag amount n (is_amount k) n') (fit k f))) (apart amount n fit held rest) a.1 in (
            (
              clear-tells (exactly (end_tag n')) a.0,
              go (either_true (clear amount n (start_tag (is_amount k) n')) (both (same_tag amount n (is_amount k) n') (fit k f)) b.0),
            ),
            apart-tells rest b.1,
          )
        where
          go : (clear amount n (start_tag (is_amount k) n') ≡ true) ⊎ (both (same_tag amount n (is_amount k) n') (fit k f) ≡ true)
              → Clear head (start_tag (is_amount k) n') ⊎ ((start_tag (is_amount k) n' ≡ start_tag amount n) × Fits k f)
          go (inl h) = inl (clear-tells (start_tag (is_amount k) n') h)
          go (inr h) = let c = both_true (same_tag amount n (is_amount k) n') (fit k f) h in inr (same_tag_lem amount n (is_amount k) n' c.0, c.1)
      apart-tells (group o n' inner rest) e =
          let a = both_true (either (clear amount n (exactly (plain_tag n'))) (both (same_tag amount n false n') held)) _ e in
          let b = both_true (apart amount n fit held inner) (apart amount n fit held rest) a.1 in
          (go (either_true (clear amount n (exactly (plain_tag n'))) (both (same_tag amount n false n') held) a.0), apart-tells inner b.0, apart-tells rest b.1)
        where
          go : (clear amount n (exactly (plain_tag n')) ≡ true) ⊎ (both (same_tag amount n false n') held ≡ true)
              → Clear head (exactly (plain_tag n')) ⊎ ((exactly (plain_tag n') ≡ start_tag amount n) × Solid v × Solid w)
          go (inl h) = inl (clear-tells (exactly (plain_tag n')) h)
          go (inr h) = let c = both_true (same_tag amount n false n') held h in inr (same_tag_lem amount n false n' c.0, (solid c.1).0, (solid c.1).1)

      -- The two messages are read alike, but for that value.
      pub read_beside : ((u : Version) (p : ℕ) → opened (with v) ≡ from u p → apart amount n fit held (profile u) ≡ true) → Beside Fits v w (message (with v)) (message (with w))
      read_beside c =
          message_beside (with v) (with w) swapped Fits (opening-tells clean).1 (λ u p e. apart-tells (profile u) (c u p e))
