-- What is asked of the values of a field is the same of the values as they are meant, by the kinds that the tree gives that field.
use mathlib.Core.Path.{◌≡◌, refl, sym, ap, ◌∙◌}
use mathlib.Core.Bool.{Bool, true, false}
use mathlib.Core.List.{List, [], ◌∷◌, ◌++◌}
use Prim.Native.Nat.{ℕ}
use Prim.Native.String.{String}
use Rattle.text.specs.Truth.{both, pick}
use Rattle.text.proofs.Truths.{both_true}
use Rattle.profile.specs.declared.Kind.{Kind}
use Rattle.profile.specs.declared.Kind.TheVariants.{Plain, Count, Total, Amount, Code}
use Rattle.profile.specs.declared.Simple.{Simple}
use Rattle.profile.specs.declared.Simple.TheVariants.{Reference, EndToEnd, Text70, Text140, Date, Time, Bic, Bicfi, Iban, Identifier}
use Rattle.profile.specs.declared.Field.{Field}
use Rattle.profile.specs.Fields.{same_field}
use Rattle.profile.specs.Tree.{Occ, once, optional, many, more, Shape, end, leaf, group}
use Rattle.words.specs.Collapsed.{collapsed}
use Rattle.words.proofs.Collapsed.{collapsed_twice}
use Rattle.kinds.specs.Meant.{simply_meant, as_meant}
use Rattle.reading.specs.Trace.{What, item_begins, item_ends, there, absent, value}
use Rattle.reading.specs.Rules.{of_field, values_at, ◌so◌}
use Rattle.documents.specs.Document.{Led, Doc, Each}
use Rattle.documents.specs.Said.{one, each, none, said}
use Rattle.documents.proofs.Each.{each_both}
use Rattle.forms.proofs.Said.{meant_in, meant_all}
use Rattle.forms.proofs.Holds.{each as of, each_append, each_itself}

-- ---- of a kind that is as read, the value; of any that is no number, the collapsed value
abbrev is_read_simple : Simple → Bool
is_read_simple Reference = true
is_read_simple EndToEnd = false
is_read_simple Text70 = false
is_read_simple Text140 = false
is_read_simple Date = true
is_read_simple Time = true
is_read_simple Bic = true
is_read_simple Bicfi = true
is_read_simple Iban = true
is_read_simple Identifier = true

abbrev pub is_read : Kind → Bool
is_read (Plain s) = is_read_simple s
is_read Count = false
is_read Total = false
is_read Amount = false
is_read (Code e) = true

read_simply : (s : Simple) → is_read_simple s ≡ true → (v : List ℕ) → simply_meant s v ≡ v
read_simply Reference e v = refl
read_simply EndToEnd e v = cc
read_simply Text70 e v = cc
read_simply Text140 e v = cc
read_simply Date e v = refl
read_simply Time e v = refl
read_simply Bic e v = refl
read_simply Bicfi e v = refl
read_simply Iban e v = refl
read_simply Identifier e v = refl

pub read_meant : (k : Kind) → is_read k ≡ true → (v : List ℕ) → as_meant k v ≡ v
read_meant (Plain s) e v = read_simply s e v
read_meant Count e v = cc
read_meant Total e v = cc
read_meant Amount e v = cc
read_meant (Code c) e v = refl

abbrev pub is_words : Kind → Bool
is_words (Plain s) = true
is_words Count = false
is_words Total = false
is_words Amount = false
is_words (Code e) = true

words_simply : (s : Simple) (v : List ℕ) → collapsed (simply_meant s v) ≡ collapsed v
words_simply Reference v = refl
words_simply EndToEnd v = collapsed_twice v
words_simply Text70 v = collapsed_twice v
words_simply Text140 v = collapsed_twice v
words_simply Date v = refl
words_simply Time v = refl
words_simply Bic v = refl
words_simply Bicfi v = refl
words_simply Iban v = refl
words_simply Identifier v = refl

pub words_meant : (k : Kind) → is_words k ≡ true → (v : List ℕ) → collapsed (as_meant k v) ≡ collapsed v
words_meant (Plain s) e v = words_simply s v
words_meant Count e v = cc
words_meant Total e v = cc
words_meant Amount e v = cc
words_meant (Code c) e v = refl

-- ---- h is what is asked of a field's value, and t tells the kinds of which it is the same as meant
module _ (h : List ℕ → List ℕ) (t : Kind → Bool) (same : (k : Kind) → t k ≡ true → (v : List ℕ) → h (as_meant k v) ≡ h v) (g : Field) where
  abbrev pub held : Shape → Bool
  held (end n) = true
  held (leaf o n k f rest) = both (same_field f g so t k) (held rest)
  held (group o n inner rest) = both (held inner) (held rest)

  abbrev pub Same : What → Type 0
  Same w = of h (of_field g (meant_in w)) ≡ of h (of_field g w)

  value_same : (k : Kind) (f : Field) (v : List ℕ) → (same_field f g so t k) ≡ true → Same (value k f v)
  value_same k f v e = go (same_field f g) e
    where
      go : (b : Bool) → (b so t k) ≡ true → of h (pick b (as_meant k v ∷ []) []) ≡ of h (pick b (v ∷ []) [])
      go true e = ap (λ (x : List ℕ). x ∷ []) (same k e v)
      go false e = refl

  module _ {A : Type 0} (n : String) (x : A → List What) (all : (a : A) → Each Same (x a)) where
    one_same : (o : Occ) (e : Led A) → Each Same (one o n x e)
    one_same once e = all e.held
    one_same optional e = (refl, all e.held)
    one_same many e = (refl, each_both Same (x e.held) (item_ends ∷ []) (all e.held) (refl, tt))
    one_same more e = (refl, each_both Same (x e.held) (item_ends ∷ []) (all e.held) (refl, tt))

    each_same : (o : Occ) (l : List (Led A)) → Each Same (each o n x l)
    each_same o [] = tt
    each_same o (e ∷ l) = each_both Same (one o n x e) (each o n x l) (one_same o e) (each_same o l)

    none-same : (o : Occ) (l : List (Led A)) → Each Same (none o n l)
    none-same once l = tt
    none-same optional [] = (refl, tt)
    none-same optional (e ∷ l) = tt
    none-same many l = tt
    none-same more l = tt

    row_same : (o : Occ) (l : List (Led A)) (r : List What) → Each Same r → Each Same (none o n l ++ (each o n x l ++ r))
    row_same o l r k = each_both Same (none o n l) (each o n x l ++ r) (none-same o l) (each_both Same (each o n x l) r (each_same o l) k)

  pub said_same : (sh : Shape) → held sh ≡ true → (d : Doc sh) → Each Same (said sh d)
  said_same (end n) e d = tt
  said_same (leaf o n k f rest) e d =
      let b = both_true (same_field f g so t k) (held rest) e in
      row_same n (λ v. value k f v ∷ []) (λ v. (value_same k f v b.0, tt)) o d.all (said rest d.others) (said_same rest b.1 d.others)
  said_same (group o n inner rest) e d =
      let b = both_true (held inner) (held rest) e in
      row_same n (said inner) (said_same inner b.0) o d.all (said rest d.others) (said_same rest b.1 d.others)

  pub values_same : (ws : List What) → Each Same ws → of h (values_at g (meant_all ws)) ≡ of h (values_at g ws)
  values_same [] k = refl
  values_same (w ∷ l) k =
      each_append h (of_field g (meant_in w)) (values_at g (meant_all l)) ∙ (rw (k.0, values_same l k.1) (sym (each_append h (of_field g w) (values_at g l))))

-- A value that is as read stands in the plain form as it stands in the document.
pub read_same : (g : Field) (sh : Shape) → held (λ v. v) is_read read_meant g sh ≡ true → (d : Doc sh) → values_at g (meant_all (said sh d)) ≡ values_at g (said sh d)
read_same g sh e d =
    let same = values_same (λ v. v) is_read read_meant g (said sh d) (said_same (λ v. v) is_read read_meant g sh e d) in
    sym (each_itself (values_at g (meant_all (said sh d)))) ∙ same ∙ each_itself (values_at g (said sh d))
