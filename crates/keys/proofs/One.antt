-- Two answers that the contract of `key` allows are equal: the verdict, and every byte of the key.
use mathlib.Core.Path.{◌≡◌, sym, ap, ◌∙◌}
use Rattle.std.specs.Prelude.{Result, Ok, Err}
use Rattle.answers.specs.declared.Refused.{Refused}
use Rattle.reading.proofs.Flat.{never}
use Rattle.naming.specs.Key.{Keyed as KeyedBulk}
use Rattle.judge.specs.declared.Accepted.{Accepted}
use Rattle.judge.specs.Verdict.{meant}
use Rattle.judge.proofs.One.{same_meant}
use Rattle.keys.specs.declared.Keyed.{Keyed}
use Rattle.keys.specs.Engine.{keyed_as}

same_keyed : (a b : Result Keyed Refused) → keyed_as a ≡ keyed_as b → a ≡ b
same_keyed (Ok a) (Ok b) e =
    let v : meant (Ok a.accepted) ≡ meant (Ok b.accepted) = ap (λ (x : KeyedBulk). x.verdict) e in
    let w : ◌≡◌ {A = Result Accepted Refused} (Ok a.accepted) (Ok b.accepted) = same_meant (Ok a.accepted) (Ok b.accepted) v in
    let k : a.key ≡ b.key = ap (λ (x : KeyedBulk). x.key) e in
    let z : a.accepted ≡ b.accepted = cc in
    rw (z, k)
same_keyed (Err r) (Err s) e =
    let v : meant (Err r) ≡ meant (Err s) = ap (λ (x : KeyedBulk). x.verdict) e in
    let w : ◌≡◌ {A = Result Accepted Refused} (Err r) (Err s) = same_meant (Err r) (Err s) v in
    let z : r ≡ s = cc in
    rw z
same_keyed (Ok a) (Err s) e = let v = ap (λ (x : KeyedBulk). x.verdict) e in never (cc)
same_keyed (Err r) (Ok b) e = let v = ap (λ (x : KeyedBulk). x.verdict) e in never (cc)

pub one_key : (a b : Result Keyed Refused) (k : KeyedBulk) → keyed_as a ≡ k → keyed_as b ≡ k → a ≡ b
one_key a b k d e = same_keyed a b (d ∙ sym e)
