-- `words::is_blank` meets its contract: the four bytes that it names are the ones that count as space.
use mathlib.Core.Path.{◌≡◌, ap, sym, ◌∙◌}
use mathlib.Core.Logic.{inl, inr}
use native.Mathlib.Decide.{dec_lt}
use native.Mathlib.Omega.{arith}
use Rattle.words.specs.Walk.{blank}
use Rattle.words.proofs.White.{blank_white, solid_else}
use Rattle.words.proofs.is_blank.Goals as goal

pub returns-in_default : goal.returns-in_default
returns-in_default c = sym (solid_else c.args.c (omega arith) (omega arith) (omega arith) (omega arith))

pub returns-in_default-2 : goal.returns-in_default-2
returns-in_default-2 c = sym (solid_else c.args.c (grind arith) (grind arith) (grind arith) (grind arith))

pub returns-in-32 : goal.returns-in-32
returns-in-32 c = elim c.in-32.is [ inl e ↦ sym (ap blank e ∙ blank_white 13) | inr e ↦ sym (ap blank e ∙ blank_white 32) ]

pub returns-in-32-2 : goal.returns-in-32-2
returns-in-32-2 c =
    let x = c.args.c in
    elim (dec_lt x 10) [
      | yes h ↦ (let e : x ≡ 9 = omega arith in sym (ap blank e ∙ blank_white 9))
      | no h ↦ (let e : x ≡ 10 = omega arith in sym (ap blank e ∙ blank_white 10))
    ]
