-- A slip in a value: what it leaves as it was, and what each kind's checker says of it.
use mathlib.Core.Path.{◌≡◌, refl, sym, ap, ◌∙◌}
use mathlib.Core.Logic.{◌≢◌, ◌⊎◌, inl, inr}
use mathlib.Core.Bool.{Bool, true, false, not}
use mathlib.Core.List.{List, [], ◌∷◌, ◌++◌}
use Prim.Native.Nat.{ℕ, suc, ◌≤◌, ◌<◌}
use native.Mathlib.Omega.{arith}
use borrow.Author.Tests.{ne_eqb}
use lib.ListN.{length, take, get_or, length-append}
use lib.Seq.{get_or_at}
use Rattle.text.specs.Truth.{between, every, part}
use Rattle.text.specs.Quoted.{decimal}
use Rattle.text.specs.Classes.{digit, capital}
use Rattle.text.proofs.Truths.{both_true, passes, between_true}
use Rattle.text.proofs.Digits.{digit_bounds, capital_bounds}
use Rattle.answers.specs.Given.{yes, worth, refused, Rule, in_order, ◌else◌}
use Rattle.money.specs.declared.Range.{Range}
use Rattle.money.specs.declared.Range.TheVariants.{Item as an_item, Total as the_total}
use Rattle.money.specs.Count.{count_form, count_given}
use Rattle.money.specs.Amount.{most, euros, amount_form, cents, amount_given}
use Rattle.money.proofs.Slips.{count_replaced, count_exchanged, amount_replaced, amount_exchanged}
use Rattle.check97.specs.Check.{iban_checked, identifier_checked}
use Rattle.accounts.specs.Head.{head}
use Rattle.accounts.specs.Iban.{iban_form, iban_length, iban_given}
use Rattle.accounts.specs.Identifier.{identifier_form, identifier_given}
use Rattle.accounts.proofs.Slips.{iban_replaced, iban_exchanged, identifier_replaced, identifier_exchanged}
use Rattle.tags.specs.Tags.{white}
use Rattle.tags.specs.Values.{in_value}
use Rattle.profile.specs.declared.Kind.{Kind}
use Rattle.profile.specs.declared.Kind.TheVariants.{Plain, Count, Total, Amount, Code}
use Rattle.profile.specs.declared.Simple.{Simple}
use Rattle.profile.specs.declared.Simple.TheVariants.{Reference, EndToEnd, Text70, Text140, Date, Time, Bic, Bicfi, Iban, Identifier}
use Rattle.kinds.specs.Given.{simple_given, kind_given}
use Rattle.documents.specs.Holds.{Passes}
use Rattle.replaced.proofs.Beside.{Solid}
use Rattle.slips.specs.Slip.{Watched, Slip, replaced, exchanged}

-- ---- checkers that were passed
rules_yes : (l : List Rule) → Passes (in_order l yes) → in_order l yes ≡ yes
rules_yes [] h = refl
rules_yes (r ∷ l) h = go r.test (rules_yes l) h
  where
    go : (b : Bool) → (Passes (in_order l yes) → in_order l yes ≡ yes) → Passes (in_order (b else r.number ∷ l) yes) → in_order (b else r.number ∷ l) yes ≡ yes
    go true e h = e h
    go false e h = absurd h

passed_yes : (a : Bool) (i : ℕ) (l : List Rule) → Passes (in_order (a else i ∷ l) yes) → (a ≡ true) × (in_order (a else i ∷ l) yes ≡ yes)
passed_yes true i l h = (refl, rules_yes l h)
passed_yes false i l h = absurd h

pub iban_yes : (v : List ℕ) → Passes (iban_given v) → (iban_form v ≡ true) × (iban_given v ≡ yes)
unfolding iban_given
iban_yes v = passed_yes (iban_form v) 7 (iban_length v else 19 ∷ iban_checked v else 8 ∷ [])

pub identifier_yes : (v : List ℕ) → Passes (identifier_given v) → (identifier_form v ≡ true) × (identifier_given v ≡ yes)
unfolding identifier_given
identifier_yes v = passed_yes (identifier_form v) 7 (identifier_checked v else 8 ∷ [])

count_form_lem : (v : List ℕ) → Passes (count_given v) → count_form v ≡ true
unfolding count_given
count_form_lem v = go (count_form v)
  where
    go : (b : Bool) → Passes (in_order (b else 7 ∷ []) (worth (decimal v))) → b ≡ true
    go true h = refl
    go false h = absurd h

count_passes : (v : List ℕ) → count_form v ≡ true → Passes (count_given v)
unfolding count_given
count_passes v e = rw e tt

amount_form_lem : (r : Range) (v : List ℕ) → Passes (amount_given r v) → amount_form v ≡ true
unfolding amount_given
amount_form_lem r v = go (amount_form v) (between 1 (most r) (cents v))
  where
    go : (a b : Bool) → Passes (in_order (a else 7 ∷ b else 9 ∷ []) (worth (cents v))) → a ≡ true
    go true b h = refl
    go false b h = absurd h

-- an amount of its form is in its range, or refused with 9
amount_either : (r : Range) (v : List ℕ) → amount_form v ≡ true → (amount_given r v ≡ refused 9) ⊎ Passes (amount_given r v)
unfolding amount_given
amount_either r v e = rw e (go (between 1 (most r) (cents v)))
  where
    go : (b : Bool) → (in_order (b else 9 ∷ []) (worth (cents v)) ≡ refused 9) ⊎ Passes (in_order (b else 9 ∷ []) (worth (cents v)))
    go true = inr tt
    go false = inl refl

-- ---- a slip in each kind
outside_two : (i : ℕ) → ((i < 4) ⊎ (7 ≤ i)) ⊎ ((suc i < 4) ⊎ (7 ≤ suc i)) → (i < 4) ⊎ (7 ≤ suc i)
outside_two i (inl (inl h)) = inl h
outside_two i (inl (inr h)) = inr (omega arith)
outside_two i (inr (inl h)) = inl (omega arith)
outside_two i (inr (inr h)) = inr h

iban_slip : (v w : List ℕ) → Slip (Plain Iban) v w → iban_given v ≡ yes → iban_given w ≡ refused 8
iban_slip v w (replaced p q a b at da db ne x y) g = ap iban_given y ∙ iban_replaced p q a b da db ne (ap iban_given (sym x) ∙ g)
iban_slip v w (exchanged p q a b at da db ne x y) g = ap iban_given y ∙ iban_exchanged p q a b da db ne (ap iban_given (sym x) ∙ g)

identifier_slip : (v w : List ℕ) → Slip (Plain Identifier) v w → identifier_given v ≡ yes → identifier_given w ≡ refused 8
identifier_slip v w (replaced p q a b at da db ne x y) g = ap identifier_given y ∙ identifier_replaced p q a b da db ne at (ap identifier_given (sym x) ∙ g)
identifier_slip v w (exchanged p q a b at da db ne x y) g =
    ap identifier_given y ∙ identifier_exchanged p q a b da db ne (outside_two (length p) at) (ap identifier_given (sym x) ∙ g)

-- a count stays a count, and says another number
pub count_slip : (v w : List ℕ) → Slip Count v w → Passes (count_given v) → Passes (count_given w) × (decimal v ≢ decimal w)
count_slip v w s g = go s (count_form_lem v g)
  where
    go : Slip Count v w → count_form v ≡ true → Passes (count_given w) × (decimal v ≢ decimal w)
    go (replaced p q a b at da db ne x y) f =
        let c = count_replaced p q a b da db ne (ap count_form (sym x) ∙ f) in
        (count_passes w (ap count_form y ∙ c.0), λ z. c.1 (ap decimal (sym x) ∙ z ∙ ap decimal y))
    go (exchanged p q a b at da db ne x y) f =
        let c = count_exchanged p q a b da db ne (ap count_form (sym x) ∙ f) in
        (count_passes w (ap count_form y ∙ c.0), λ z. c.1 (ap decimal (sym x) ∙ z ∙ ap decimal y))

-- an amount says other cents, in its range or not
pub amount_slip : (k : Kind) (r : Range) (v w : List ℕ) → Slip k v w → Passes (amount_given r v) → ((amount_given r w ≡ refused 9) ⊎ Passes (amount_given r w)) × (cents v ≢ cents w)
amount_slip k r v w s g = go s (amount_form_lem r v g)
  where
    go : Slip k v w → amount_form v ≡ true → ((amount_given r w ≡ refused 9) ⊎ Passes (amount_given r w)) × (cents v ≢ cents w)
    go (replaced p q a b at da db ne x y) f =
        let c = amount_replaced p q a b da db ne (ap amount_form (sym x) ∙ f) in
        (amount_either r w (ap amount_form y ∙ c.0), λ z. c.1 (ap cents (sym x) ∙ z ∙ ap cents y))
    go (exchanged p q a b at da db ne x y) f =
        let c = amount_exchanged p q a b da db ne (ap amount_form (sym x) ∙ f) in
        (amount_either r w (ap amount_form y ∙ c.0), λ z. c.1 (ap cents (sym x) ∙ z ∙ ap cents y))

-- a slip lies at a watched place
pub unwatched : {k : Kind} {v w : List ℕ} → ((j : ℕ) → Watched k j → ⊥) → Slip k v w → ⊥
unwatched f (replaced p q a b at da db ne x y) = f (length p) at
unwatched f (exchanged p q a b (inl at) da db ne x y) = f (length p) at
unwatched f (exchanged p q a b (inr at) da db ne x y) = f (suc (length p)) at

-- a value with check digits: they tell
pub plain_slip : (s : Simple) (v w : List ℕ) → Slip (Plain s) v w → Passes (simple_given s v) → simple_given s w ≡ refused 8
unfolding simple_given
plain_slip Reference v w s g = absurd (unwatched (λ x h. h) s)
plain_slip EndToEnd v w s g = absurd (unwatched (λ x h. h) s)
plain_slip Text70 v w s g = absurd (unwatched (λ x h. h) s)
plain_slip Text140 v w s g = absurd (unwatched (λ x h. h) s)
plain_slip Date v w s g = absurd (unwatched (λ x h. h) s)
plain_slip Time v w s g = absurd (unwatched (λ x h. h) s)
plain_slip Bic v w s g = absurd (unwatched (λ x h. h) s)
plain_slip Bicfi v w s g = absurd (unwatched (λ x h. h) s)
plain_slip Iban v w s g = iban_slip v w s (iban_yes v g).1
plain_slip Identifier v w s g = identifier_slip v w s (identifier_yes v g).1

-- ---- a value that may take the place of another: as long, without `<`, begun by no white space, and another value
pub record Fitting (v w : List ℕ) : Type 0 where
  pub long : length v ≡ length w
  pub tagless : every in_value w ≡ true
  pub solid : Solid v
  pub solid' : Solid w
  pub other : v ≢ w

-- a byte that is neither `<` nor white space: a letter, a digit
pub record Shown (c : ℕ) : Type 0 where
  pub from : 48 ≤ c
  pub not_tag : c ≢ 60

pub digit_shown : (c : ℕ) → digit c ≡ true → Shown c
digit_shown c h = let b = digit_bounds c h in record { from = b.0; not_tag = λ e. omega arith }

pub capital_shown : (c : ℕ) → capital c ≡ true → Shown c
capital_shown c h = let b = capital_bounds c h in record { from = omega arith; not_tag = λ e. omega arith }

shown_in : (c : ℕ) → Shown c → in_value c ≡ true
shown_in c h = ap not (ne_eqb c 60 h.not_tag)

shown_first : (c : ℕ) (s : List ℕ) → Shown c → Solid (c ∷ s)
unfolding white
shown_first c s h =
    let f = h.from in
    record {
      first = c;
      later = s;
      is = refl;
      shown = rw (ne_eqb c 32 (λ e. omega arith), ne_eqb c 9 (λ e. omega arith), ne_eqb c 13 (λ e. omega arith), ne_eqb c 10 (λ e. omega arith));
      inside = shown_in c h;
    }

every_behind : (f : ℕ → Bool) (p q r : List ℕ) → every f (p ++ q) ≡ true → (every f q ≡ true → every f r ≡ true) → every f (p ++ r) ≡ true
every_behind f [] q r h k = k h
every_behind f (c ∷ p) q r h k =
    let b = both_true (f c) (every f (p ++ q)) h in
    rw b.0 (every_behind f p q r b.1 k)

other_there : (p s t : List ℕ) (a b : ℕ) → a ≢ b → p ++ (a ∷ s) ≢ p ++ (b ∷ t)
other_there p s t a b ne e =
    ne (sym (get_or_at p a s 0 (length p) refl) ∙ ap (λ (l : List ℕ). get_or l (length p) 0) e ∙ get_or_at p b t 0 (length p) refl)

-- a value begins as before behind a first byte, or with a letter or a digit
abbrev pub Begun : ℕ → ℕ → Type 0
Begun i b = (1 ≤ i) ⊎ Shown b

first_kept : (p : List ℕ) (a b : ℕ) (s t : List ℕ) → Begun (length p) b → Solid (p ++ (a ∷ s)) → Solid (p ++ (b ∷ t))
first_kept [] a b s t (inl d) h = absurd (omega arith)
first_kept [] a b s t (inr d) h = shown_first b t d
first_kept (c ∷ p) a b s t d h =
    let z : c ≡ h.first = cc h.is in
    record { first = c; later = p ++ (b ∷ t); is = refl; shown = rw z h.shown; inside = rw z h.inside }

module _ (p q : List ℕ) (a b : ℕ) (ne : a ≢ b) where
  -- one byte replaced by a letter or a digit
  pub fitting_replaced : Shown b → every in_value (p ++ (a ∷ q)) ≡ true → Solid (p ++ (a ∷ q)) → Fitting (p ++ (a ∷ q)) (p ++ (b ∷ q))
  fitting_replaced hb h g =
      record {
        long = length-append p (a ∷ q) ∙ sym (length-append p (b ∷ q));
        tagless = every_behind in_value p (a ∷ q) (b ∷ q) h (λ e. rw (shown_in b hb) (both_true (in_value a) (every in_value q) e).1);
        solid = g;
        solid' = first_kept p a b q q (inr hb) g;
        other = other_there p q q a b ne;
      }

  -- two unequal neighbours exchanged
  pub fitting_exchanged : Begun (length p) b → every in_value (p ++ (a ∷ b ∷ q)) ≡ true → Solid (p ++ (a ∷ b ∷ q)) → Fitting (p ++ (a ∷ b ∷ q)) (p ++ (b ∷ a ∷ q))
  fitting_exchanged hb h g =
      record {
        long = length-append p (a ∷ b ∷ q) ∙ sym (length-append p (b ∷ a ∷ q));
        tagless = every_behind in_value p (a ∷ b ∷ q) (b ∷ a ∷ q) h swapped;
        solid = g;
        solid' = first_kept p a b (b ∷ q) (a ∷ q) hb g;
        other = other_there p (b ∷ q) (a ∷ q) a b ne;
      }
    where
      swapped : every in_value (a ∷ b ∷ q) ≡ true → every in_value (b ∷ a ∷ q) ≡ true
      swapped e =
          let s = both_true (in_value a) (every in_value (b ∷ q)) e in
          let t = both_true (in_value b) (every in_value q) s.1 in
          rw (t.0, s.0) t.1

pub slip_fitting : {k : Kind} {v w : List ℕ} → Slip k v w → every in_value v ≡ true → Solid v → Fitting v w
slip_fitting (replaced p q a b at da db ne x y) h g = rw (x, y) (fitting_replaced p q a b ne (digit_shown b db) (rw x at h) (rw x at g))
slip_fitting (exchanged p q a b at da db ne x y) h g = rw (x, y) (fitting_exchanged p q a b ne (inr (digit_shown b db)) (rw x at h) (rw x at g))

-- ---- such a value begins with a digit or a capital
head_first : (v : List ℕ) (lo hi : ℕ) → 1 ≤ lo → between lo hi (length v) ≡ true → head v ≡ true → Solid v
unfolding head
head_first [] lo hi one h e = absurd (omega (arith, between_true lo hi 0 h))
head_first (c ∷ s) lo hi one h e =
    let f = (both_true (every capital (part 0 2 (c ∷ s))) (every digit (part 2 2 (c ∷ s))) e).0 in
    shown_first c s (capital_shown c (both_true (capital c) (every capital (take 1 s)) f).0)

count_first : (v : List ℕ) → count_form v ≡ true → Solid v
unfolding count_form
count_first [] e = absurd (omega (arith, between_true 1 15 0 (passes _ e 0)))
count_first (c ∷ s) e = shown_first c s (digit_shown c (both_true (digit c) (every digit s) (passes _ e 1)).0)

amount_first : (v : List ℕ) → amount_form v ≡ true → Solid v
unfolding amount_form
amount_first [] e = absurd (omega (arith, between_true 1 15 0 (passes _ e 0)))
amount_first (c ∷ s) e = go (digit c) refl (between_true 1 15 (length (euros (c ∷ s))) (passes _ e 0)).0
  where
    go : (b : Bool) → digit c ≡ b → 1 ≤ length (euros (c ∷ s)) → Solid (c ∷ s)
    go true h g = shown_first c s (digit_shown c h)
    go false h g = absurd (omega (arith, rw h at g))

pub iban_solid : (v : List ℕ) → Passes (iban_given v) → Solid v
unfolding iban_form
iban_solid v g = let f = (iban_yes v g).0 in head_first v 15 34 (omega arith) (passes _ f 0) (passes _ f 1)

pub identifier_solid : (v : List ℕ) → Passes (identifier_given v) → Solid v
unfolding identifier_form
identifier_solid v g = let f = (identifier_yes v g).0 in head_first v 8 35 (omega arith) (passes _ f 0) (passes _ f 1)

pub value_solid : (k : Kind) {v w : List ℕ} → Slip k v w → Passes (kind_given k v) → Solid v
unfolding simple_given
value_solid Count {v} s g = count_first v (count_form_lem v g)
value_solid Total {v} s g = amount_first v (amount_form_lem the_total v g)
value_solid Amount {v} s g = amount_first v (amount_form_lem an_item v g)
value_solid (Code e) s g = absurd (unwatched (λ x h. h) s)
value_solid (Plain Reference) s g = absurd (unwatched (λ x h. h) s)
value_solid (Plain EndToEnd) s g = absurd (unwatched (λ x h. h) s)
value_solid (Plain Text70) s g = absurd (unwatched (λ x h. h) s)
value_solid (Plain Text140) s g = absurd (unwatched (λ x h. h) s)
value_solid (Plain Date) s g = absurd (unwatched (λ x h. h) s)
value_solid (Plain Time) s g = absurd (unwatched (λ x h. h) s)
value_solid (Plain Bic) s g = absurd (unwatched (λ x h. h) s)
value_solid (Plain Bicfi) s g = absurd (unwatched (λ x h. h) s)
value_solid (Plain Iban) {v} s g = iban_solid v g
value_solid (Plain Identifier) {v} s g = identifier_solid v g
