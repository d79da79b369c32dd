-- A value of a message replaced by another as long, at its place: the two messages are read alike, but for that value.
use mathlib.Core.Path.{◌≡◌, refl, sym, ap, subst, ◌∙◌}
use mathlib.Core.Bool.{Bool, true}
use mathlib.Core.List.{List, ◌∷◌, ◌++◌, append_assoc}
use Prim.Native.Nat.{ℕ, suc, ◌+◌}
use Prim.Native.String.{String}
use native.Mathlib.Omega.{arith}
use lib.ListN.{length, take, drop, length-append, length-drop, take-append-drop}
use lib.Seq.{take_at, drop_at, drop-drop, length-take-le, take-append_seam}
use Rattle.text.specs.Truth.{both, lead, every}
use Rattle.text.specs.Quoted.{among}
use Rattle.text.specs.Classes.{capital}
use Rattle.text.proofs.Truths.{both_true}
use Rattle.text.proofs.Scan.{lead_before, lead_every}
use Rattle.tags.specs.Values.{in_value, value_at}
use Rattle.profile.specs.declared.Kind.{Kind}
use Rattle.profile.specs.declared.Field.{Field}
use Rattle.profile.specs.Kinds.{is_amount}
use Rattle.profile.specs.declared.Version.{Version}
use Rattle.profile.specs.declared.Version.TheVariants.{V02, V08}
use Rattle.profile.specs.Tree.{Shape, end, leaf, group}
use Rattle.profile.specs.Profile.{profile}
use Rattle.reading.specs.Trace.{from, opened, message}
use Rattle.replaced.proofs.Beside.{Beside, Solid}
use Rattle.replaced.proofs.Tests.{clear, same_tag, opening, apart, read_beside}
use Rattle.replaced.proofs.Behind.{At, Named, AllPlaced, OfVersion, message_placed, Tagged, tagged, Valued, value_ends}

-- ---- in the profile the start tag of every value is clear of every other tag
abbrev anything : Kind → Field → Bool
anything k f = true

unfoldable pub fine : Version → Kind → String → Bool
fine u k n = both (opening (is_amount k) n) (apart (is_amount k) n anything true (profile u))

abbrev leaves : (Kind → String → Bool) → Shape → Bool
leaves t (end n) = true
leaves t (leaf o n k f rest) = both (t k n) (leaves t rest)
leaves t (group o n inner rest) = both (leaves t inner) (leaves t rest)

all_fine : (u : Version) → leaves (fine u) (profile u) ≡ true
unfolding fine profile clear same_tag capital among
all_fine V02 = refl
all_fine V08 = refl

abbrev pub Fine : Version → Kind → String → Type 0
Fine u k n = fine u k n ≡ true

named : (m : List ℕ) (u : Version) (sh : Shape) → leaves (fine u) sh ≡ true → Named (Fine u) m sh
named m u (end n) e = tt
named m u (leaf o n k f rest) e = let h = both_true (fine u k n) (leaves (fine u) rest) e in (tt, h.0, named m u rest h.1)
named m u (group o n inner rest) e = let h = both_true (leaves (fine u) inner) (leaves (fine u) rest) e in (tt, named m u inner h.0, named m u rest h.1)

-- a value u of kind k that stands at place q of m
abbrev pub Stood : List ℕ → Kind → ℕ → List ℕ → Type 0
Stood m = At (OfVersion Fine m) m

-- every value that is met stands so
pub values_placed : (m : List ℕ) → AllPlaced (OfVersion Fine m) m (message m)
values_placed m = message_placed Fine m (λ u. named m u (profile u) (all_fine u))

-- ---- the bytes of a message around such a value
module _ (m : List ℕ) (k : Kind) (q : ℕ) (v : List ℕ) (a : Stood m k q v) where
  abbrev amount : Bool
  amount = is_amount k

  abbrev name : String
  name = a.name

  tag : Tagged amount name (drop a.start m)
  tag = tagged amount name (drop a.start m) a.tag

  start_fits : a.start + suc (length tag.head) ≡ q
  start_fits = ap (λ (i : ℕ). a.start + i) (sym tag.wide) ∙ sym a.place

  -- what follows the start tag is the value and a `<`
  rest_is : drop q m ≡ tag.rest
  rest_is =
      ap (λ (i : ℕ). drop i m) (sym start_fits)
      ∙ sym (drop-drop (suc (length tag.head)) a.start m)
      ∙ ap (drop (suc (length tag.head))) tag.is
      ∙ drop_at (60 ∷ tag.head) tag.rest (suc (length tag.head)) refl

  ends : Valued (drop q m)
  ends = value_ends (drop q m) (omega (arith, a.ends, length-drop q m))

  value_is : tag.rest ≡ v ++ (60 ∷ ends.behind)
  value_is = sym rest_is ∙ ends.is ∙ ap (λ (l : List ℕ). l ++ (60 ∷ ends.behind)) (sym a.bytes)

  pub tagless : every in_value v ≡ true
  tagless = ap (every in_value) a.bytes ∙ lead_every in_value (drop q m)

  abbrev front : List ℕ
  front = take a.start m

  front_long : length front ≡ a.start
  front_long = length-take-le a.start m (omega (arith, length-drop a.start m, ap length tag.is))

  abbrev with : List ℕ → List ℕ
  with u = front ++ (60 ∷ (tag.head ++ (u ++ (60 ∷ ends.behind))))

  is-with : m ≡ with v
  is-with =
      sym (take-append-drop a.start m)
      ∙ ap (λ (l : List ℕ). front ++ l) tag.is
      ∙ ap (λ (l : List ℕ). front ++ (60 ∷ (tag.head ++ l))) value_is

  head-long : length (front ++ (60 ∷ tag.head)) ≡ q
  head-long = omega (arith, length-append front (60 ∷ tag.head), front_long, start_fits)

  regroup : (u z : List ℕ) → front ++ (60 ∷ (tag.head ++ (u ++ z))) ≡ (front ++ (60 ∷ tag.head)) ++ (u ++ z)
  regroup u z = sym (append_assoc front (60 ∷ tag.head) (u ++ z))

  -- the bytes before the value, and behind it
  before-is : take q m ≡ front ++ (60 ∷ tag.head)
  before-is = ap (take q) (is-with ∙ regroup v (60 ∷ ends.behind)) ∙ take_at (front ++ (60 ∷ tag.head)) (v ++ (60 ∷ ends.behind)) q head-long

  behind_is : drop (q + length v) m ≡ 60 ∷ ends.behind
  behind_is =
      sym (drop-drop (length v) q m)
      ∙ ap (drop (length v)) (rest_is ∙ value_is)
      ∙ drop_at v (60 ∷ ends.behind) (length v) refl

  pub before_long : length (take q m) ≡ q
  before_long = ap length before-is ∙ head-long

  -- another value in its place
  abbrev pub instead : List ℕ → List ℕ
  instead u = take q m ++ (u ++ drop (q + length v) m)

  with-is : (u : List ℕ) → with u ≡ instead u
  with-is u = regroup u (60 ∷ ends.behind) ∙ rw (before-is, behind_is)

  pub is_itself : m ≡ instead v
  is_itself = is-with ∙ with-is v

  -- The message with the other value is read as this one is, but for that value.
  module _ (w : List ℕ) (long : length v ≡ length w) (fit : every in_value w ≡ true) (solid : Solid v) (solid' : Solid w) where
    same_version : (u : Version) (p : ℕ) → opened m ≡ from u p → apart amount name anything true (profile u) ≡ true
    unfolding fine
    same_version u p e =
        let z : from u p ≡ from a.good.version a.good.inner = sym e ∙ a.good.opens in
        let y : a.good.version ≡ u = cc in
        subst (λ (x : Version). apart amount a.name anything true (profile x) ≡ true) y
        (both_true (opening amount name) (apart amount name anything true (profile a.good.version)) a.good.good).1

    clean : opening amount name ≡ true
    unfolding fine
    clean = (both_true (opening amount name) (apart amount name anything true (profile a.good.version)) a.good.good).0

    -- the value that stands there now
    pub value_there : value_at (instead w) q ≡ w
    value_there = rw (led, now) (take-append_seam w (60 ∷ ends.behind))
      where
        now : drop q (instead w) ≡ w ++ (60 ∷ ends.behind)
        now = drop_at (take q m) (w ++ drop (q + length v) m) q before_long ∙ ap (λ (l : List ℕ). w ++ l) behind_is

        led : lead in_value (drop q (instead w)) ≡ length w
        led = ap (lead in_value) now ∙ lead_before in_value w 60 ends.behind fit refl

    pub value_beside : Beside (λ j f. anything j f ≡ true) v w (message m) (message (instead w))
    value_beside =
        rw (← with-is w)
        (subst (λ (l : List ℕ). Beside (λ j f. anything j f ≡ true) v w (message l) (message (with w))) (sym is-with)
        (read_beside amount name tag.head tag.more tag.begins front v w ends.behind tag.lies tag.wide clean tagless fit long anything true (λ e. (solid, solid'))
        (λ u p e. same_version u p (ap opened is-with ∙ e))))
