-- A legal Nm or Ustrd: it holds no `<`, and it passes where an element of that name is due.
use mathlib.Core.Path.{◌≡◌, refl, sym, ap, ◌∙◌}
use mathlib.Core.Bool.{Bool, true, false, not}
use mathlib.Core.List.{List, [], ◌∷◌}
use Prim.Native.Nat.{ℕ}
use borrow.Author.Tests.{eqb-true}
use lib.Dec.{eqb}
use lib.ListN.{get_or}
use Rattle.text.specs.Truth.{every}
use Rattle.text.specs.Quoted.{among}
use Rattle.text.specs.Classes.{reference_set, text_set}
use Rattle.answers.specs.Given.{yes}
use Rattle.words.specs.declared.Field.{Field}
use Rattle.words.specs.declared.Field.TheVariants.{Nm, Ustrd}
use Rattle.words.specs.Collapsed.{as_space}
use Rattle.words.specs.Text.{text_given}
use Rattle.words.proofs.Legal.{text_every}
use Rattle.tags.specs.Values.{in_value}
use Rattle.profile.specs.declared.Kind.{Kind}
use Rattle.profile.specs.declared.Kind.TheVariants.{Plain, Count, Total, Amount, Code}
use Rattle.profile.specs.declared.Simple.{Simple}
use Rattle.profile.specs.declared.Simple.TheVariants.{Reference, EndToEnd, Text70, Text140, Date, Time, Bic, Bicfi, Iban, Identifier}
use Rattle.profile.specs.Kinds.{same_kind}
use Rattle.kinds.specs.Given.{simple_given, kind_given}
use Rattle.reading.proofs.Flat.{never}

-- a byte that is of the text set, or counts as space, is no `<`
no_bracket : text_set (as_space 60) ≡ false
unfolding text_set reference_set among as_space
no_bracket = refl

in_value_lem : (c : ℕ) → text_set (as_space c) ≡ true → in_value c ≡ true
in_value_lem c h = go (eqb c 60) refl
  where
    go : (b : Bool) → eqb c 60 ≡ b → not b ≡ true
    go true e = let z : c ≡ 60 = eqb-true c 60 e in never (cc (no_bracket))
    go false e = refl

pub legal_tagless : (f : Field) (v : List ℕ) → text_given f v ≡ yes → every in_value v ≡ true
legal_tagless = text_every in_value in_value_lem

-- ---- the kind of such a text
abbrev simples : List Simple
simples = Reference ∷ Text70 ∷ Text140 ∷ Date ∷ Time ∷ Bic ∷ Iban ∷ Identifier ∷ EndToEnd ∷ Bicfi ∷ []

abbrev number : Simple → ℕ
number Reference = 0
number Text70 = 1
number Text140 = 2
number Date = 3
number Time = 4
number Bic = 5
number Iban = 6
number Identifier = 7
number EndToEnd = 8
number Bicfi = 9

numbered : (s : Simple) → get_or simples (number s) Reference ≡ s
numbered Reference = refl
numbered Text70 = refl
numbered Text140 = refl
numbered Date = refl
numbered Time = refl
numbered Bic = refl
numbered Iban = refl
numbered Identifier = refl
numbered EndToEnd = refl
numbered Bicfi = refl

abbrev simple_of : Field → Simple
simple_of Nm = Text70
simple_of Ustrd = Text140

abbrev pub is_text : Field → Kind → Bool
is_text f (Plain s) = eqb (number s) (number (simple_of f))
is_text f Count = false
is_text f Total = false
is_text f Amount = false
is_text f (Code e) = false

text_given_lem : (f : Field) (v : List ℕ) → simple_given (simple_of f) v ≡ text_given f v
unfolding simple_given
text_given_lem Nm v = refl
text_given_lem Ustrd v = refl

pub kind_given_lem : (f : Field) (k : Kind) → is_text f k ≡ true → (v : List ℕ) → kind_given k v ≡ text_given f v
kind_given_lem f (Plain s) e v =
    let z : s ≡ simple_of f = sym (numbered s) ∙ ap (λ (i : ℕ). get_or simples i Reference) (eqb-true (number s) (number (simple_of f)) e) ∙ numbered (simple_of f) in
    rw z (text_given_lem f v)
kind_given_lem f Count e v = never (cc)
kind_given_lem f Total e v = never (cc)
kind_given_lem f Amount e v = never (cc)
kind_given_lem f (Code x) e v = never (cc)

-- no rule asks for it
pub unasked : (f : Field) (k : Kind) → is_text f k ≡ true → (j : Kind) → same_kind (Plain Text70) j ≡ false → same_kind k j ≡ false
unasked f (Plain s) e j h = h
unasked f Count e j h = never (cc)
unasked f Total e j h = never (cc)
unasked f Amount e j h = never (cc)
unasked f (Code x) e j h = never (cc)
