-- Two lines that the contract of `read_line` allows are equal: whether there is one, its side, every byte of the key, and the instant.
use mathlib.Core.Path.{◌≡◌, refl, sym, ap, ◌∙◌}
use mathlib.Core.List.{List}
use Prim.Native.Nat.{ℕ}
use Rattle.std.proofs.Common.{Option, Some, None}
use Rattle.text.proofs.Truths.{never}
use Rattle.recording.specs.declared.Side.{Side}
use Rattle.recording.specs.declared.Side.TheVariants.{Entry, Withdrawal}
use Rattle.recording.specs.declared.Line.{Line}
use Rattle.recording.specs.Record as paper
use Rattle.recording.specs.Record.{line_of, line_as, enters}

same_side : (s t : Side) → enters s ≡ enters t → s ≡ t
same_side Entry Entry e = refl
same_side Entry Withdrawal e = never (cc)
same_side Withdrawal Entry e = never (cc)
same_side Withdrawal Withdrawal e = refl

same_line : (a b : Option Line) → line_as a ≡ line_as b → a ≡ b
same_line (Some l) (Some k) e =
    let s : l.side ≡ k.side = same_side l.side k.side (ap (λ (x : paper.Line). x.entering) e) in
    let q : l.key ≡ k.key = ap (λ (x : paper.Line). x.key) e in
    let i : l.instant ≡ k.instant = ap (λ (x : paper.Line). x.instant) e in
    ap (λ (w : Side). Some (record { side = w; key = l.key; instant = l.instant })) s
    ∙ (ap (λ (w : List ℕ). Some (record { side = k.side; key = w; instant = l.instant })) q
    ∙ ap (λ (w : ℕ). Some (record { side = k.side; key = k.key; instant = w })) i)
same_line (Some l) None e = never (cc (ap (λ (x : paper.Line). x.fits) e))
same_line None (Some k) e = never (cc (ap (λ (x : paper.Line). x.fits) e))
same_line None None e = refl

pub one_line : (r : List ℕ) (a b : Option Line) → line_as a ≡ line_of r → line_as b ≡ line_of r → a ≡ b
one_line r a b d e = same_line a b (d ∙ sym e)
