-- What rules in their order give: the first that fails decides, and where all hold the answer stands.
use mathlib.Core.Path.{◌≡◌, refl, ap, sym, ◌∙◌}
use mathlib.Core.Bool.{Bool, true, false}
use mathlib.Core.List.{List, [], ◌∷◌}
use Prim.Native.Nat.{ℕ}
use Rattle.std.specs.Prelude.{Result, Ok, Err}
use Rattle.answers.specs.declared.Refusal.{Refusal}
use Rattle.answers.specs.Refusals.{refusal_number}
use Rattle.answers.specs.Given.{Given, yes, refused, Rule, in_order, ◌else◌, given_yes, required}

module _ (a : Bool) (m : ℕ) (l : List Rule) (g : Given) where
  pub at_first : a ≡ false → refused m ≡ in_order (a else m ∷ l) g
  at_first e = rw e

  pub past_first : {h : Given} → a ≡ true → h ≡ in_order l g → h ≡ in_order (a else m ∷ l) g
  past_first e f = rw e f

-- ---- a rule asked as a result r: what it is given; and, where it is Ok or Err, what its test is
pub rule_given : (b : Bool) (why : Refusal) → given_yes (required b why) ≡ in_order (b else refusal_number why ∷ []) yes
rule_given true why = refl
rule_given false why = refl

rule_holds : (b : Bool) (why : Refusal) {u : Unit} → required b why ≡ Ok u → b ≡ true
rule_holds true why e = refl
rule_holds false why e = cc

rule_fails : (b : Bool) (why : Refusal) {x : Refusal} → required b why ≡ Err x → (b ≡ false) × (why ≡ x)
rule_fails true why e = cc
rule_fails false why e = (refl, cc)

module _ {r : Result Unit Refusal} (b : Bool) (why : Refusal) (e : r ≡ required b why) where
  pub last_rule : {t : Bool} → b ≡ t → given_yes r ≡ in_order (t else refusal_number why ∷ []) yes
  last_rule h = ap given_yes e ∙ rule_given b why ∙ ap (λ (x : Bool). in_order (x else refusal_number why ∷ []) yes) h

  pub rule_held : {t : Bool} {u : Unit} → b ≡ t → r ≡ Ok u → t ≡ true
  rule_held h k = sym h ∙ rule_holds b why (sym e ∙ k)

  pub rule_failed : {t : Bool} {x : Refusal} → b ≡ t → r ≡ Err x → (l : List Rule) (g : Given) → refused (refusal_number x) ≡ in_order (t else refusal_number why ∷ l) g
  rule_failed h k l g =
      let f = rule_fails b why (sym e ∙ k) in
      rw (← h, f.0) (ap (λ (x : Refusal). refused (refusal_number x)) (sym f.1))
