-- Record i of a recording, as a part of it.
use mathlib.Core.Path.{◌≡◌, sym, ap, ◌∙◌}
use mathlib.Core.List.{List}
use mathlib.Core.Logic.{inl, inr}
use Prim.Native.Nat.{ℕ, ◌-◌, ◌*◌, ◌<◌, ◌≤◌, min}
use native.Mathlib.Omega.{arith}
use lib.ListN.{length, take, drop}
use lib.Seq.{take_all}
use Rattle.text.proofs.Scan.{rest_of}
use Rattle.text.proofs.Truths.{lt_or_ge}
use Rattle.recording.specs.Record.{line_length}
use Rattle.play.specs.Play.{record_at}

-- of what is left, as much as a record has
pub record_is : (r : List ℕ) (i n : ℕ) → n ≡ min (length (take (length r - line_length * i) (drop (line_length * i) r))) line_length
    → take n (take (length r - line_length * i) (drop (line_length * i) r)) ≡ record_at r i
record_is r i n e =
    let l = drop (line_length * i) r in
    let all : take (length r - line_length * i) l ≡ l = rest_of (line_length * i) r in
    let m : n ≡ min (length l) line_length = e ∙ ap (λ (k : List ℕ). min (length k) line_length) all in
    ap (take n) all
    ∙ elim (lt_or_ge (length l) line_length) [
      | inl h ↦ take_all n l (omega (arith, m, h)) ∙ sym (take_all line_length l (omega (arith, h)))
      | inr h ↦ let z : n ≡ line_length = omega (arith, m, h) in ap (λ (k : ℕ). take k l) z
    ]
