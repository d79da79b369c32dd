-- Values in any spelling: the next `<`, and what the checker answers up to it.
use mathlib.Core.Path.{◌≡◌, sym, ap, ◌∙◌}
use mathlib.Core.Bool.{Bool, true, false}
use mathlib.Core.List.{List}
use Prim.Native.Nat.{ℕ, ◌+◌, ◌-◌, ◌≤◌, ◌<◌}
use native.Mathlib.Omega.{arith}
use lib.ListN.{length, take, drop, length-drop}
use Rattle.text.specs.Truth.{lead, part}
use Rattle.text.specs.Quoted.{is}
use Rattle.text.proofs.Scan.{rest_of, lead_le}
use Rattle.answers.specs.Given.{Given, worth, value_of}
use Rattle.codes.specs.declared.Element.{Element}
use Rattle.codes.specs.declared.Element.TheVariants.{SttlmMtd, SvcLvl, LclInstrm, SeqTp, ChrgBr, Prtry}
use Rattle.codes.specs.Listed.{or_else, code_given}
use Rattle.money.specs.declared.Range.TheVariants.{Item}
use Rattle.money.specs.Amount.{most}
use Rattle.money.proofs.Amounts.{amount_most}
use Rattle.tags.specs.Values.{in_value}
use Rattle.profile.specs.declared.Kind.{Kind}
use Rattle.profile.specs.declared.Kind.TheVariants.{Amount, Code}
use Rattle.kinds.specs.Given.{kind_given}
use Rattle.swift_values.specs.Stands.{Ends, StandsFor}

-- ---- a place in a list
pick_few : (b : Bool) (i : ℕ) (g : Given) → i ≤ 3 → value_of g ≤ 3 → value_of (or_else b i g) ≤ 3
pick_few true i g h k = h
pick_few false i g h k = k

few_codes : (x : Element) (v : List ℕ) → value_of (code_given x v) ≤ 3
unfolding code_given
few_codes SttlmMtd v = pick_few (is "CLRG" v) 0 _ (omega arith) (omega arith)
few_codes SvcLvl v = pick_few (is "SEPA" v) 0 _ (omega arith) (omega arith)
few_codes LclInstrm v = pick_few (is "CORE" v) 0 _ (omega arith) (pick_few (is "B2B" v) 1 _ (omega arith) (omega arith))
few_codes SeqTp v =
    pick_few (is "FRST" v) 0 _ (omega arith) (pick_few (is "RCUR" v) 1 _ (omega arith) (pick_few (is "FNAL" v) 2 _ (omega arith) (pick_few (is "OOFF" v) 3 _ (omega arith) (omega arith))))
few_codes ChrgBr v = pick_few (is "SLEV" v) 0 _ (omega arith) (omega arith)
few_codes Prtry v = pick_few (is "SEPA" v) 0 _ (omega arith) (omega arith)

-- ---- the next `<`
module _ (m : List ℕ) (p n : ℕ) (at : p ≤ length m) (e : n ≡ lead in_value (take (length m - p) (drop p m))) where
  upto_is : n ≡ lead in_value (drop p m)
  upto_is = e ∙ ap (lead in_value) (rest_of p m)

  pub upto_within : p + n ≤ length m
  upto_within = omega (arith, upto_is, lead_le in_value (drop p m), length-drop p m)

  pub ends_here : (0 < p) → (p + n ≡ length m → ⊥) → Ends m p (p + n)
  ends_here some less = record { some = some; from = omega arith; behind = omega (arith, upto_within); upto = sym upto_is ∙ back }
    where
      back : n ≡ p + n - p
      back = omega arith

module _ (m : List ℕ) (p r : ℕ) where
  pub stands_for : (k : Kind) (g : Given) → Ends m p r → kind_given k (part p (r - p) m) ≡ g → StandsFor k g m p r
  stands_for k g f e = record { some = f.some; from = f.from; behind = f.behind; upto = f.upto; given = e }

  -- ---- how much a value is worth
  pub amount_within : (w : ℕ) → StandsFor Amount (worth w) m p r → w ≤ most Item
  amount_within w f = omega (arith, amount_most Item (part p (r - p) m), ap value_of f.given)

  pub code_within : (w : ℕ) (e : Element) → StandsFor (Code e) (worth w) m p r → w ≤ 4
  code_within w e f = omega (arith, few_codes e (part p (r - p) m), ap value_of f.given)
