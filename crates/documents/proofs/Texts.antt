-- Texts that begin with white space, a tag or a value.
use mathlib.Core.Path.{◌≡◌, refl, sym, ap, ◌∙◌}
use mathlib.Core.Bool.{Bool, true, false}
use mathlib.Core.List.{List, [], ◌∷◌, ◌++◌}
use Prim.Native.Nat.{ℕ, suc, ◌+◌}
use Prim.Native.String.{String}
use native.Mathlib.Nat.{add-zero}
use borrow.Author.Tests.{eq-eqb}
use lib.ListN.{length, take, drop, length-append, take-append-drop}
use lib.Seq.{drop-drop, drop-append_seam}
use Rattle.text.specs.Truth.{pick, lead}
use Rattle.text.specs.Quoted.{bytes, among}
use Rattle.text.specs.Classes.{capital}
use Rattle.text.proofs.Scan.{lead_before, lead_every}
use Rattle.tags.specs.declared.Look.TheVariants.{Whole}
use Rattle.tags.specs.Tags.{white, skipped, look, exactly, currency, end_tag, plain_tag, amount_tag, start_tag}
use Rattle.tags.proofs.Looks.{exactly_length, look_text}
use Rattle.profile.specs.declared.Kind.{Kind}
use Rattle.profile.specs.Kinds.{is_amount}
use Rattle.documents.specs.Document.{White, opening}

-- ---- what lies behind a text that stands at a place
pub past : (m w s : List ℕ) (p : ℕ) → drop p m ≡ w ++ s → drop (p + length w) m ≡ s
past m w s p e = sym (drop-drop (length w) p m) ∙ ap (drop (length w)) e ∙ drop-append_seam w s

-- ---- tags
-- a text, and behind it what passes other tests
look_behind : (t u s : List ℕ) (c : List (ℕ → Bool)) → look (exactly t ++ c) ((t ++ u) ++ s) ≡ look c (u ++ s)
look_behind [] u s c = refl
look_behind (d ∷ t) u s c = rw (eq-eqb d d refl) (look_behind t u s c)

pub look_opening : (k : Kind) (n : String) (s : List ℕ) → look (start_tag (is_amount k) n) (opening k n ++ s) ≡ Whole
unfolding capital among
look_opening k n s = go (is_amount k)
  where
    go : (b : Bool) → look (start_tag b n) (pick b (amount_tag n ++ bytes "EUR\">") (plain_tag n) ++ s) ≡ Whole
    go true = look_behind (amount_tag n) (bytes "EUR\">") s currency
    go false = look_text (plain_tag n) s

pub opening_length : (k : Kind) (n : String) → length (start_tag (is_amount k) n) ≡ length (opening k n)
opening_length k n = go (is_amount k)
  where
    go : (b : Bool) → length (start_tag b n) ≡ length (pick b (amount_tag n ++ bytes "EUR\">") (plain_tag n))
    go true = length-append (exactly (amount_tag n)) currency ∙ (rw (exactly_length (amount_tag n)) (sym (length-append (amount_tag n) (bytes "EUR\">"))))
    go false = exactly_length (plain_tag n)

-- each tag begins with `<`
pub record Starts (t : List ℕ) : Type 0 where
  pub rest : List ℕ
  pub is : t ≡ 60 ∷ rest

pub opening_starts : (k : Kind) (n : String) (s : List ℕ) → Starts (opening k n ++ s)
opening_starts k n s = go (is_amount k)
  where
    go : (b : Bool) → Starts (pick b (amount_tag n ++ bytes "EUR\">") (plain_tag n) ++ s)
    go true = record { rest = ((bytes n ++ bytes " Ccy=\"") ++ bytes "EUR\">") ++ s; is = refl }
    go false = record { rest = (bytes n ++ bytes ">") ++ s; is = refl }

pub plain_starts : (n : String) (s : List ℕ) → Starts (plain_tag n ++ s)
plain_starts n s = record { rest = (bytes n ++ bytes ">") ++ s; is = refl }

pub end_starts : (n : String) (s : List ℕ) → Starts (end_tag n ++ s)
end_starts n s = record { rest = 47 ∷ (bytes n ++ bytes ">") ++ s; is = refl }

-- ---- white space
pub white_bracket : white 60 ≡ false
unfolding white
white_bracket = refl

module _ (m : List ℕ) where
  -- it ends where a tag begins
  pub skip_to : (p : ℕ) (w s : List ℕ) → White w → Starts s → drop p m ≡ w ++ s → skipped m p ≡ p + length w
  skip_to p w s h b e =
      ap (λ (x : List ℕ). p + lead white x) (e ∙ ap (λ (x : List ℕ). w ++ x) b.is)
      ∙ ap (λ (n : ℕ). p + n) (lead_before white w 60 b.rest h white_bracket)

  -- what was passed, as text
  abbrev pub space : ℕ → List ℕ
  space p = take (lead white (drop p m)) (drop p m)

  pub space_text : (p : ℕ) → drop p m ≡ space p ++ drop (skipped m p) m
  space_text p = sym (take-append-drop (lead white (drop p m)) (drop p m)) ∙ ap (λ (x : List ℕ). space p ++ x) (drop-drop (lead white (drop p m)) p m)

  pub space_white : (p : ℕ) → White (space p)
  space_white p = lead_every white (drop p m)
