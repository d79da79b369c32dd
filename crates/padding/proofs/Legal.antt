-- A legal value is told by its field: it is not empty, no longer than the field, and does not end in a space; and an amount has 11 digits of cents at most.
use mathlib.Core.Path.{◌≡◌, refl, sym, ap, ◌∙◌}
use mathlib.Core.Bool.{Bool, true, false}
use mathlib.Core.Logic.{◌⊎◌, inl, inr}
use mathlib.Core.List.{List, [], ◌∷◌, ◌++◌}
use Prim.Native.Nat.{ℕ, zero, suc, ◌+◌, ◌-◌, ◌≤◌, ◌<◌}
use Prim.Native.String.{String}
use native.Mathlib.Omega.{arith}
use borrow.Author.Tests.{ne_eqb, eqb-true}
use lib.Dec.{eqb}
use lib.ListN.{length, drop, get_or, length-drop}
use lib.Seq.{get_or-drop}
use Rattle.text.specs.Truth.{either, pick, between, every, paired, last}
use Rattle.text.specs.Quoted.{bytes, byte, is, among}
use Rattle.text.specs.Classes.{digit, capital_or_digit, reference_set}
use Rattle.text.proofs.Truths.{never, either_true, between_true, passes}
use Rattle.text.proofs.Scan.{paired_same_length, paired_at}
use Rattle.answers.specs.Given.{Given, yes, worth, Rule, ◌else◌, in_order}
use Rattle.words.specs.Collapsed.{space, collapsed}
use Rattle.words.specs.Reference.{reference_form, reference_given}
use Rattle.words.specs.EndToEnd.{end_to_end_form, end_to_end_given}
use Rattle.words.proofs.Ends.{every_last}
use Rattle.words.proofs.Collapsed.{collapsed_last}
use Rattle.codes.specs.declared.Element.{Element}
use Rattle.codes.specs.declared.Element.TheVariants.{SttlmMtd, SvcLvl, LclInstrm, SeqTp, ChrgBr, Prtry}
use Rattle.codes.specs.Listed.{codes_of, or_else, place, code_given}
use Rattle.calendar.specs.Pattern.{letter, stands, written}
use Rattle.calendar.specs.Date.{date_form, date_given}
use Rattle.money.specs.declared.Range.TheVariants.{Item}
use Rattle.money.specs.Amount.{amount_form, cents, most, amount_given}
use Rattle.check97.specs.Check.{iban_checked, identifier_checked}
use Rattle.accounts.specs.Bic.{bic_form, bic_given, bicfi_form, bicfi_given}
use Rattle.accounts.specs.Iban.{iban_form, iban_length, iban_given}
use Rattle.accounts.specs.Identifier.{identifier_form, identifier_given}
use Rattle.profile.specs.declared.Kind.{Kind}
use Rattle.profile.specs.declared.Kind.TheVariants.{Plain, Count, Total, Amount, Code}
use Rattle.profile.specs.declared.Simple.{Simple}
use Rattle.profile.specs.declared.Simple.TheVariants.{Reference, EndToEnd, Text70, Text140, Date, Time, Bic, Bicfi, Iban, Identifier}
use Rattle.profile.specs.declared.Field.{Field}
use Rattle.profile.specs.Fields.{same_field}
use Rattle.profile.specs.Kinds.{same_kind}
use Rattle.kinds.specs.Given.{simple_given, kind_given}
use Rattle.reading.specs.Trace.{What, item_begins, item_ends, there, absent, value}
use Rattle.reading.specs.Rules.{values_at, values_of, own_kind}
use Rattle.reading.proofs.Lists.{alike_same}
use Rattle.documents.specs.Document.{Each}
use Rattle.documents.specs.Holds.{Passes}
use Rattle.documents.proofs.Often.{weight, a_stranger}
use Rattle.padding.proofs.Padded.{Held}

-- a value that stands in a field of n bytes
abbrev pub Written : ℕ → List ℕ → Type 0
Written n v = (1 ≤ length v) × Held n v

-- ---- no character of a set is a space
solid : (f : ℕ → Bool) → f 32 ≡ false → (c : ℕ) → f c ≡ true → space c ≡ false
solid f e c h = ne_eqb c 32 (λ z. let g : f c ≡ false = ap f z ∙ e in absurd (let y : ◌≡◌ {A = ℕ} 0 1 = cc in let x : ⊥ = omega arith in x))

-- ---- so a value whose last characters are of it does not end in one
last_solid : (f : ℕ → Bool) → f 32 ≡ false → (v : List ℕ) → 1 ≤ length v → every f v ≡ true → space (last v) ≡ false
last_solid f e v n h = solid f e (last v) (every_last f v n h)

last_drop : (n : ℕ) (v : List ℕ) → n < length v → last (drop n v) ≡ last v
last_drop n v h =
    let z : n + (length (drop n v) - 1) ≡ length v - 1 = omega (arith, length-drop n v) in
    get_or-drop n v (length (drop n v) - 1) 0 ∙ ap (λ (i : ℕ). get_or v i 0) z

behind_solid : (f : ℕ → Bool) → f 32 ≡ false → (n : ℕ) (v : List ℕ) → n < length v → every f (drop n v) ≡ true → space (last v) ≡ false
behind_solid f e n v h g = sym (ap space (last_drop n v h)) ∙ last_solid f e (drop n v) (omega (arith, length-drop n v)) g

-- a rule that was passed, and the next ones
passed : (r : Rule) (l : List Rule) (g : Given) → Passes (in_order (r ∷ l) g) → (r.test ≡ true) × Passes (in_order l g)
passed r l g h = go r.test refl h
  where
    go : (b : Bool) → r.test ≡ b → Passes (in_order (b else r.number ∷ l) g) → (b ≡ true) × Passes (in_order l g)
    go true e h = (refl, h)
    go false e h = absurd h

-- ---- by kind
reference_written : (v : List ℕ) → Passes (reference_given v) → Written 35 v
unfolding reference_given reference_form reference_set among
reference_written v h =
    let p = passes _ (passed (reference_form v else 7) [] yes h).0 in
    let n = between_true 1 35 (length v) (p 0) in
    (n.0, (n.1, last_solid reference_set refl v n.0 (p 1)))

end_written : (v : List ℕ) → Passes (end_to_end_given v) → Written 35 (collapsed v)
unfolding end_to_end_given end_to_end_form
end_written v h =
    let p = passes _ (passed (end_to_end_form (collapsed v) else 7) [] yes h).0 in
    let n = between_true 1 35 (length (collapsed v)) (p 1) in
    (n.0, (n.1, collapsed_last v))

bic_written : (v : List ℕ) → Passes (bic_given v) → Written 11 v
unfolding bic_given bic_form capital_or_digit among
bic_written v h =
    let p = passes _ (passed (bic_form v else 7) [] yes h).0 in
    go (either_true (eqb (length v) 8) (eqb (length v) 11) (p 0)) (p 3) (p 4)
  where
    go : (eqb (length v) 8 ≡ true) ⊎ (eqb (length v) 11 ≡ true) → among "A-N P-Z 0-9" (get_or v 7 0) ≡ true → every capital_or_digit (drop 8 v) ≡ true → Written 11 v
    go (inl e) a b =
        let n = eqb-true (length v) 8 e in
        let z : length v - 1 ≡ 7 = omega (arith, n) in
        (omega (arith, n), (omega (arith, n), ap (λ (i : ℕ). space (get_or v i 0)) z ∙ solid (among "A-N P-Z 0-9") refl (get_or v 7 0) a))
    go (inr e) a b =
        let n = eqb-true (length v) 11 e in
        (omega (arith, n), (omega (arith, n), behind_solid capital_or_digit refl 8 v (omega (arith, n)) b))

bicfi_written : (v : List ℕ) → Passes (bicfi_given v) → Written 11 v
unfolding bicfi_given bicfi_form capital_or_digit among
bicfi_written v h =
    let p = passes _ (passed (bicfi_form v else 7) [] yes h).0 in
    go (either_true (eqb (length v) 8) (eqb (length v) 11) (p 0)) (p 3)
  where
    long : 8 ≤ length v → length v ≤ 11 → every capital_or_digit (drop 6 v) ≡ true → Written 11 v
    long n m b = (omega (arith, n), (m, behind_solid capital_or_digit refl 6 v (omega (arith, n)) b))

    go : (eqb (length v) 8 ≡ true) ⊎ (eqb (length v) 11 ≡ true) → every capital_or_digit (drop 6 v) ≡ true → Written 11 v
    go (inl e) b = long (omega (arith, eqb-true (length v) 8 e)) (omega (arith, eqb-true (length v) 8 e)) b
    go (inr e) b = long (omega (arith, eqb-true (length v) 11 e)) (omega (arith, eqb-true (length v) 11 e)) b

iban_written : (v : List ℕ) → Passes (iban_given v) → Written 34 v
unfolding iban_given iban_form capital_or_digit among
iban_written v h =
    let p = passes _ (passed (iban_form v else 7) (iban_length v else 19 ∷ iban_checked v else 8 ∷ []) yes h).0 in
    let n = between_true 15 34 (length v) (p 0) in
    (omega (arith, n), (n.1, behind_solid capital_or_digit refl 4 v (omega (arith, n)) (p 2)))

identifier_written : (v : List ℕ) → Passes (identifier_given v) → Written 35 v
unfolding identifier_given identifier_form reference_set among
identifier_written v h =
    let p = passes _ (passed (identifier_form v else 7) (identifier_checked v else 8 ∷ []) yes h).0 in
    let n = between_true 8 35 (length v) (p 0) in
    (omega (arith, n), (n.1, behind_solid reference_set refl 7 v (omega (arith, n)) (p 3)))

date_written : (v : List ℕ) → Passes (date_given v) → Written 10 v
unfolding date_given date_form written letter stands digit among
date_written v h =
    let t = bytes "YYYY-MM-DD" in
    let p : paired stands t v ≡ true = passes _ (passed (date_form v else 7) [] yes h).0 0 in
    let n : 10 ≡ length v = paired_same_length stands t v p in
    let z : length v - 1 ≡ 9 = omega (arith, n) in
    (omega (arith, n), (omega (arith, n), ap (λ (i : ℕ). space (get_or v i 0)) z ∙ solid (stands (byte "D")) refl (get_or v 9 0) (paired_at stands t v p 9 (omega arith))))

-- every listed code has four bytes at most
codes_written : (e : Element) → Each (λ t. Written 4 (bytes t)) (codes_of e)
codes_written SttlmMtd = ((omega arith, (omega arith, refl)), tt)
codes_written SvcLvl = ((omega arith, (omega arith, refl)), tt)
codes_written LclInstrm = ((omega arith, (omega arith, refl)), ((omega arith, (omega arith, refl)), tt))
codes_written SeqTp = ((omega arith, (omega arith, refl)), ((omega arith, (omega arith, refl)), ((omega arith, (omega arith, refl)), ((omega arith, (omega arith, refl)), tt))))
codes_written ChrgBr = ((omega arith, (omega arith, refl)), tt)
codes_written Prtry = ((omega arith, (omega arith, refl)), tt)

code_written : (e : Element) (v : List ℕ) → Passes (code_given e v) → Written 4 v
unfolding code_given
code_written e v = of 0 (codes_of e) (codes_written e)
  where
    of : (i : ℕ) (l : List String) → Each (λ t. Written 4 (bytes t)) l → Passes (place i l v) → Written 4 v
    of i [] h p = absurd p
    of i (t ∷ l) h p = go (is t v) refl p (of (suc i) l h.1)
      where
        go : (b : Bool) → is t v ≡ b → Passes (or_else b i (place (suc i) l v)) → (Passes (place (suc i) l v) → Written 4 v) → Written 4 v
        go true e p r = rw (← alike_same (bytes t) v e) h.0
        go false e p r = r p

pub amount_few : (v : List ℕ) → Passes (kind_given Amount v) → cents v ≤ most Item
unfolding amount_given
amount_few v h =
    let range : Rule = between 1 (most Item) (cents v) else 9 in
    let p = passed range [] (worth (cents v)) (passed (amount_form v else 7) (range ∷ []) (worth (cents v)) h).1 in
    (between_true 1 (most Item) (cents v) p.0).1

-- ---- by field: the tree gives each of them its kind
pub each_legal : (h : Field) (t : Kind → Bool) (P : List ℕ → Type 0) → ((k : Kind) (v : List ℕ) → t k ≡ true → Passes (kind_given k v) → P v)
    → (ws : List What) → weight (a_stranger h t) ws ≡ 0 → Each (λ w. Passes (own_kind w)) ws → Each P (values_at h ws)
each_legal h t P g [] e p = tt
each_legal h t P g (item_begins ∷ l) e p = each_legal h t P g l (omega arith) p.1
each_legal h t P g (item_ends ∷ l) e p = each_legal h t P g l (omega arith) p.1
each_legal h t P g (there n ∷ l) e p = each_legal h t P g l (omega arith) p.1
each_legal h t P g (absent n ∷ l) e p = each_legal h t P g l (omega arith) p.1
each_legal h t P g (value k f v ∷ l) e p = go (same_field f h) (t k) refl e (each_legal h t P g l)
  where
    go : (b c : Bool) → t k ≡ c → pick b (pick c 0 1) 0 + weight (a_stranger h t) l ≡ 0 → (weight (a_stranger h t) l ≡ 0 → Each (λ w. Passes (own_kind w)) l → Each P (values_at h l))
        → Each P (pick b (v ∷ []) [] ++ values_at h l)
    go true true z y r = (g k v z p.0, r (omega arith) p.1)
    go true false z y r = never (omega arith)
    go false c z y r = r (omega arith) p.1

-- the codes: of any element
abbrev pub a_code : Kind → Bool
a_code (Plain s) = false
a_code Count = false
a_code Total = false
a_code Amount = false
a_code (Code e) = true

pub code_fits : (k : Kind) (v : List ℕ) → a_code k ≡ true → Passes (kind_given k v) → Written 4 v
code_fits (Plain s) v e h = never (cc)
code_fits Count v e h = never (cc)
code_fits Total v e h = never (cc)
code_fits Amount v e h = never (cc)
code_fits (Code c) v e h = code_written c v h

-- the values of a kind that passes
pub each_of : (j : Kind) (P : List ℕ → Type 0) → ((k : Kind) (v : List ℕ) → same_kind k j ≡ true → Passes (kind_given k v) → P v)
    → (ws : List What) → Each (λ w. Passes (own_kind w)) ws → Each P (values_of j ws)
each_of j P g [] p = tt
each_of j P g (item_begins ∷ l) p = each_of j P g l p.1
each_of j P g (item_ends ∷ l) p = each_of j P g l p.1
each_of j P g (there n ∷ l) p = each_of j P g l p.1
each_of j P g (absent n ∷ l) p = each_of j P g l p.1
each_of j P g (value k f v ∷ l) p = go (same_kind k j) refl (each_of j P g l p.1)
  where
    go : (b : Bool) → same_kind k j ≡ b → Each P (values_of j l) → Each P (pick b (v ∷ []) [] ++ values_of j l)
    go true e r = (g k v e p.0, r)
    go false e r = r

pub service_fits : (k : Kind) (v : List ℕ) → same_kind k (Code LclInstrm) ≡ true → Passes (kind_given k v) → Written 4 v
service_fits (Plain s) v e h = never (cc)
service_fits Count v e h = never (cc)
service_fits Total v e h = never (cc)
service_fits Amount v e h = never (cc)
service_fits (Code c) v e h = code_written c v h

pub amount_fits : (k : Kind) (v : List ℕ) → same_kind k Amount ≡ true → Passes (kind_given k v) → cents v ≤ most Item
amount_fits (Plain s) v e h = never (cc)
amount_fits Count v e h = never (cc)
amount_fits Total v e h = never (cc)
amount_fits Amount v e h = amount_few v h
amount_fits (Code SttlmMtd) v e h = never (cc)
amount_fits (Code SvcLvl) v e h = never (cc)
amount_fits (Code LclInstrm) v e h = never (cc)
amount_fits (Code SeqTp) v e h = never (cc)
amount_fits (Code ChrgBr) v e h = never (cc)
amount_fits (Code Prtry) v e h = never (cc)

-- ---- the kinds whose checker answers yes, told apart by numbers
abbrev number : Simple → ℕ
number Reference = 0
number Text70 = 1
number Text140 = 2
number Date = 3
number Time = 4
number Bic = 5
number Iban = 6
number Identifier = 7
number EndToEnd = 8
number Bicfi = 9

abbrev simple : ℕ → Simple
simple zero = Reference
simple (suc zero) = Text70
simple (suc (suc zero)) = Text140
simple (suc (suc (suc zero))) = Date
simple (suc (suc (suc (suc zero)))) = Time
simple (suc (suc (suc (suc (suc zero))))) = Bic
simple (suc (suc (suc (suc (suc (suc zero)))))) = Iban
simple (suc (suc (suc (suc (suc (suc (suc zero))))))) = Identifier
simple (suc (suc (suc (suc (suc (suc (suc (suc zero)))))))) = EndToEnd
simple (suc (suc (suc (suc (suc (suc (suc (suc (suc n))))))))) = Bicfi

back : (s : Simple) → simple (number s) ≡ s
back Reference = refl
back Text70 = refl
back Text140 = refl
back Date = refl
back Time = refl
back Bic = refl
back Iban = refl
back Identifier = refl
back EndToEnd = refl
back Bicfi = refl

abbrev pub a_plain : Simple → Kind → Bool
a_plain s (Plain j) = eqb (number j) (number s)
a_plain s Count = false
a_plain s Total = false
a_plain s Amount = false
a_plain s (Code e) = false

-- what is known of a legal value of each: what stands in its field, of an EndToEndId when it is collapsed
abbrev pub Fits : Simple → List ℕ → Type 0
Fits Reference v = Written 35 v
Fits EndToEnd v = Written 35 (collapsed v)
Fits Text70 v = Unit {0}
Fits Text140 v = Unit {0}
Fits Date v = Written 10 v
Fits Time v = Unit {0}
Fits Bic v = Written 11 v
Fits Bicfi v = Written 11 v
Fits Iban v = Written 34 v
Fits Identifier v = Written 35 v

fits : (s : Simple) (v : List ℕ) → Passes (simple_given s v) → Fits s v
unfolding simple_given
fits Reference v h = reference_written v h
fits EndToEnd v h = end_written v h
fits Text70 v h = tt
fits Text140 v h = tt
fits Date v h = date_written v h
fits Time v h = tt
fits Bic v h = bic_written v h
fits Bicfi v h = bicfi_written v h
fits Iban v h = iban_written v h
fits Identifier v h = identifier_written v h

pub plain_fits : (s : Simple) (k : Kind) (v : List ℕ) → a_plain s k ≡ true → Passes (kind_given k v) → Fits s v
plain_fits s (Plain j) v e h =
    let z : j ≡ s = sym (back j) ∙ (ap simple (eqb-true (number j) (number s) e) ∙ back s) in
    rw (← z) (fits j v h)
plain_fits s Count v e h = never (cc)
plain_fits s Total v e h = never (cc)
plain_fits s Amount v e h = never (cc)
plain_fits s (Code c) v e h = never (cc)

-- a BIC of either form
abbrev pub a_bic : Kind → Bool
a_bic k = either (a_plain Bic k) (a_plain Bicfi k)

pub bic_fits : (k : Kind) (v : List ℕ) → a_bic k ≡ true → Passes (kind_given k v) → Written 11 v
bic_fits k v e h = go (either_true (a_plain Bic k) (a_plain Bicfi k) e)
  where
    go : (a_plain Bic k ≡ true) ⊎ (a_plain Bicfi k ≡ true) → Written 11 v
    go (inl i) = plain_fits Bic k v i h
    go (inr i) = plain_fits Bicfi k v i h
