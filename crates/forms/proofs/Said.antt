-- What the plain form says: what the document says, with each value as it is meant. So it is a document of the profile where the document is one.
use mathlib.Core.Path.{◌≡◌, refl, sym, ap}
use mathlib.Core.List.{List, [], ◌∷◌, ◌++◌}
use Prim.Native.Nat.{ℕ, suc}
use Prim.Native.String.{String}
use lib.ListN.{length}
use Rattle.tags.specs.Values.{in_value}
use Rattle.profile.specs.Tree.{Occ, once, optional, many, more, Shape, end, leaf, group}
use Rattle.kinds.specs.Meant.{as_meant}
use Rattle.kinds.proofs.Meant.{meant_twice, meant_every}
use Rattle.reading.specs.Trace.{What, item_begins, item_ends, there, absent, value}
use Rattle.documents.specs.Document.{Led, Doc, Each, LedBy, Tagless, Proper}
use Rattle.documents.specs.Said.{one, each, none, said}
use Rattle.forms.specs.Plain.{bare, plain}

-- ---- what is said, with each value as it is meant
abbrev pub meant_in : What → What
meant_in item_begins = item_begins
meant_in item_ends = item_ends
meant_in (there n) = there n
meant_in (absent n) = absent n
meant_in (value k f v) = value k f (as_meant k v)

abbrev pub meant_all : List What → List What
meant_all [] = []
meant_all (w ∷ l) = meant_in w ∷ meant_all l

meant_append : (a b : List What) → meant_all (a ++ b) ≡ meant_all a ++ meant_all b
meant_append [] b = refl
meant_append (w ∷ a) b = ap (λ (l : List What). meant_in w ∷ l) (meant_append a b)

pub bare_length : {A : Type 0} (f : A → A) (l : List (Led A)) → length (bare f l) ≡ length l
bare_length f [] = refl
bare_length f (e ∷ l) = ap suc (bare_length f l)

module _ {A : Type 0} (n : String) (t : A → List What) (f : A → A) (same : (a : A) → t (f a) ≡ meant_all (t a)) where
  one-said : (o : Occ) (e : Led A) → one o n t (record { blank = []; held = f e.held }) ≡ meant_all (one o n t e)
  one-said once e = same e.held
  one-said optional e = ap (λ (l : List What). there n ∷ l) (same e.held)
  one-said many e = ap (λ (l : List What). item_begins ∷ l) (rw (meant_append (t e.held) (item_ends ∷ []), same e.held))
  one-said more e = ap (λ (l : List What). item_begins ∷ l) (rw (meant_append (t e.held) (item_ends ∷ []), same e.held))

  each-said : (o : Occ) (l : List (Led A)) → each o n t (bare f l) ≡ meant_all (each o n t l)
  each-said o [] = refl
  each-said o (e ∷ l) = rw (one-said o e, each-said o l) (sym (meant_append (one o n t e) (each o n t l)))

  none_said : (o : Occ) (l : List (Led A)) → none o n (bare f l) ≡ meant_all (none o n l)
  none_said once l = refl
  none_said optional [] = refl
  none_said optional (e ∷ l) = refl
  none_said many l = refl
  none_said more l = refl

  row-said : (o : Occ) (l : List (Led A)) (r s : List What) → s ≡ meant_all r → none o n (bare f l) ++ (each o n t (bare f l) ++ s) ≡ meant_all (none o n l ++ (each o n t l ++ r))
  row-said o l r s e = rw (none_said o l, each-said o l, e, meant_append (none o n l) (each o n t l ++ r), meant_append (each o n t l) r)

pub plain_said : (sh : Shape) (d : Doc sh) → said sh (plain sh d) ≡ meant_all (said sh d)
plain_said (end n) w = refl
plain_said (leaf o n k f rest) d =
    row-said n (λ v. value k f v ∷ []) (as_meant k) (λ v. refl) o d.all (said rest d.others) (said rest (plain rest d.others)) (plain_said rest d.others)
plain_said (group o n inner rest) d =
    row-said n (said inner) (plain inner) (plain_said inner) o d.all (said rest d.others) (said rest (plain rest d.others)) (plain_said rest d.others)

-- ---- it is a document
module _ {A : Type 0} (P : A → Type 0) (f : A → A) (keeps : (a : A) → P a → P (f a)) where
  bare-each : (l : List (Led A)) → Each (LedBy P) l → Each (LedBy P) (bare f l)
  bare-each [] h = tt
  bare-each (e ∷ l) h = ((refl, keeps e.held h.0.1), bare-each l h.1)

pub plain_proper : (sh : Shape) (d : Doc sh) → Proper sh d → Proper sh (plain sh d)
plain_proper (end n) w h = refl
plain_proper (leaf o n k f rest) d h =
    (rw (bare_length (as_meant k) d.all) h.0, bare-each Tagless (as_meant k) (λ v t. meant_every in_value refl refl refl k v t) d.all h.1, plain_proper rest d.others h.2)
plain_proper (group o n inner rest) d h =
    (rw (bare_length (plain inner) d.all) h.0, bare-each (Proper inner) (plain inner) (plain_proper inner) d.all h.1, plain_proper rest d.others h.2)

-- ---- its own plain form is itself
module _ {A : Type 0} (f : A → A) (twice : (a : A) → f (f a) ≡ f a) where
  bare_twice : (l : List (Led A)) → bare f (bare f l) ≡ bare f l
  bare_twice [] = refl
  bare_twice (e ∷ l) = rw (twice e.held, bare_twice l)

pub plain_twice : (sh : Shape) (d : Doc sh) → plain sh (plain sh d) ≡ plain sh d
plain_twice (end n) w = refl
plain_twice (leaf o n k f rest) d = rw (bare_twice (as_meant k) (meant_twice k) d.all, plain_twice rest d.others)
plain_twice (group o n inner rest) d = rw (bare_twice (plain inner) (plain_twice inner) d.all, plain_twice rest d.others)
