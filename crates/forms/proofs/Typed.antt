-- Messages of one plain form have the payment type at the same places: in the header, or in every item.
use mathlib.Core.Path.{◌≡◌, refl, sym, ap, ◌∙◌}
use mathlib.Core.Bool.{Bool, true, false}
use mathlib.Core.List.{List, [], ◌∷◌, ◌++◌}
use Prim.Native.Nat.{ℕ}
use Prim.Native.String.{String}
use Rattle.profile.specs.declared.Version.{Version}
use Rattle.profile.specs.Tree.{Occ, once, optional, many, more, Shape, end, leaf, group}
use Rattle.profile.specs.Profile.{profile}
use Rattle.kinds.specs.Meant.{SameMeaning}
use Rattle.reading.specs.Trace.{What, item_begins, item_ends, there, absent, value}
use Rattle.reading.specs.Rules.{of_type, types_in}
use Rattle.reading.proofs.Lists.{types_append}
use Rattle.documents.specs.Document.{Led, Doc}
use Rattle.documents.specs.Said.{one, each, none, said}
use Rattle.documents.specs.Message.{Message}
use Rattle.forms.specs.Agree.{Along, Agree, OfOne, agreeing}
use Rattle.forms.specs.Plain.{PlainForm}
use Rattle.forms.proofs.Forms.{same_form}

-- ---- one element, and one row, of documents that agree
module _ {A : Type 0} (n : String) (f : A → List What) (P : A → A → Type 0) (same : (x y : A) → P x y → types_in (f x) ≡ types_in (f y)) where
  item-types : (x y : Led A) → P x.held y.held → types_in (f x.held ++ (item_ends ∷ [])) ≡ types_in (f y.held ++ (item_ends ∷ []))
  item-types x y h = types_append (f x.held) (item_ends ∷ []) ∙ (rw (same x.held y.held h) (sym (types_append (f y.held) (item_ends ∷ []))))

  one-types : (o : Occ) (x y : Led A) → P x.held y.held → types_in (one o n f x) ≡ types_in (one o n f y)
  one-types once x y h = same x.held y.held h
  one-types optional x y h = ap (λ (l : List Bool). of_type (there n) ++ l) (same x.held y.held h)
  one-types many x y h = item-types x y h
  one-types more x y h = item-types x y h

  row-types : (o : Occ) (l k : List (Led A)) → Along P l k → (r s : List What) → types_in r ≡ types_in s
      → types_in (none o n l ++ (each o n f l ++ r)) ≡ types_in (none o n k ++ (each o n f k ++ s))
  row-types o l k h r s e = types_append (none o n l) (each o n f l ++ r) ∙ (rw (nones o l k h, rest l k h) (sym (types_append (none o n k) (each o n f k ++ s))))
    where
      nones : (o : Occ) (l k : List (Led A)) → Along P l k → types_in (none o n l) ≡ types_in (none o n k)
      nones once l k h = refl
      nones optional [] [] h = refl
      nones optional [] (y ∷ k) h = absurd h
      nones optional (x ∷ l) [] h = absurd h
      nones optional (x ∷ l) (y ∷ k) h = refl
      nones many l k h = refl
      nones more l k h = refl

      all : (l k : List (Led A)) → Along P l k → types_in (each o n f l) ≡ types_in (each o n f k)
      all [] [] h = refl
      all [] (y ∷ k) h = absurd h
      all (x ∷ l) [] h = absurd h
      all (x ∷ l) (y ∷ k) h =
          types_append (one o n f x) (each o n f l) ∙ (rw (one-types o x y h.0, all l k h.1) (sym (types_append (one o n f y) (each o n f k))))

      rest : (l k : List (Led A)) → Along P l k → types_in (each o n f l ++ r) ≡ types_in (each o n f k ++ s)
      rest l k h = types_append (each o n f l) r ∙ (rw (all l k h, e) (sym (types_append (each o n f k) s)))

agree_types : (sh : Shape) (d e : Doc sh) → Agree sh d e → types_in (said sh d) ≡ types_in (said sh e)
agree_types (end n) d e h = refl
agree_types (leaf o n k f rest) d e h =
    row-types n (λ v. value k f v ∷ []) (SameMeaning k) (λ x y p. refl) o d.all e.all h.0 (said rest d.others) (said rest e.others) (agree_types rest d.others e.others h.1)
agree_types (group o n inner rest) d e h =
    row-types n (said inner) (Agree inner) (agree_types inner) o d.all e.all h.0 (said rest d.others) (said rest e.others) (agree_types rest d.others e.others h.1)

of_one : {v w : Version} (d : Message v (profile v)) (e : Message w (profile w)) → OfOne d w e → types_in (said (profile v) d.inside) ≡ types_in (said (profile w) e.inside)
of_one {v} d e (agreeing h) = agree_types (profile v) d.inside e.inside h

-- Two messages that differ in where the payment type stands have different plain forms.
pub form_places : (m₁ m₂ f : List ℕ) (k : PlainForm m₁ f) (l : PlainForm m₂ f)
    → types_in (said (profile k.accepted.version) k.accepted.message.inside) ≡ types_in (said (profile l.accepted.version) l.accepted.message.inside)
form_places m₁ m₂ f k l = of_one k.accepted.message l.accepted.message ((same_form m₁ m₂ f f k l).0 refl)
