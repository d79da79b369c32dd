-- Two verdicts of one meaning are one, and so are two extents, two findings and two surveys: so two answers that one contract allows are equal.
use mathlib.Core.Path.{◌≡◌, refl, ap, sym, ◌∙◌}
use Rattle.std.specs.Prelude.{Option, Some, None, Result, Ok, Err}
use mathlib.Core.List.{List}
use Prim.Native.Nat.{ℕ, ◌≤◌}
use native.Mathlib.Omega.{arith}
use lib.ListN.{length}
use Rattle.answers.specs.declared.Refused.{Refused}
use Rattle.answers.specs.Refusals.{refusal_number}
use Rattle.answers.proofs.Refusals.{same_refusal}
use Rattle.reading.specs.Verdict.{Judged, accepted, refused, Located, lies, not_there}
use Rattle.reading.specs.Judged.{judged}
use Rattle.reading.proofs.Flat.{never}
use Rattle.twice.specs.Twice.{least_index}
use Rattle.judge.specs.declared.Accepted.{Accepted}
use Rattle.judge.specs.declared.Extent.{Extent}
use Rattle.judge.specs.declared.Finding.{Finding}
use Rattle.judge.specs.declared.Survey.{Survey}
use Rattle.judge.specs.Verdict.{meant, located}
use Rattle.judge.specs.Found.{Found, found_as}
use Rattle.judge.specs.Survey.{Surveyed, from_one, surveyed_as}
use Rattle.judge.specs.Index.{judged_with}
use Rattle.judge.proofs.Index.{has_room}

-- one number and one place
pub one_refused : (r s : Refused) → refusal_number r.why ≡ refusal_number s.why → r.at ≡ s.at → r ≡ s
one_refused r s e f = rw (same_refusal r.why s.why e, f)

-- the two numbers of an answer
first_in : Judged → ℕ
first_in (accepted n c) = n
first_in (refused n p) = n

second_in : Judged → ℕ
second_in (accepted n c) = c
second_in (refused n p) = p

pub same_meant : (v w : Result Accepted Refused) → meant v ≡ meant w → v ≡ w
unfolding first_in second_in
same_meant (Ok a) (Ok b) e = let n : a.count ≡ b.count = ap first_in e in let c : a.cents ≡ b.cents = ap second_in e in rw (n, c)
same_meant (Err r) (Err s) e = ap Err (one_refused r s (ap first_in e) (ap second_in e))
same_meant (Ok a) (Err s) e = never (cc)
same_meant (Err r) (Ok b) e = never (cc)

pub one_verdict : (v w : Result Accepted Refused) (j : Judged) → meant v ≡ j → meant w ≡ j → v ≡ w
one_verdict v w j e f = same_meant v w (e ∙ sym f)

-- an extent
number_of : Located → ℕ
number_of (lies a b) = a
number_of (not_there n p) = n

last_of : Located → ℕ
last_of (lies a b) = b
last_of (not_there n p) = p

same_located : (x y : Result Extent Refused) → located x ≡ located y → x ≡ y
unfolding number_of last_of
same_located (Ok a) (Ok b) e = let n : a.from ≡ b.from = ap number_of e in let c : a.to ≡ b.to = ap last_of e in rw (n, c)
same_located (Err r) (Err s) e = ap Err (one_refused r s (ap number_of e) (ap last_of e))
same_located (Ok a) (Err s) e = never (cc)
same_located (Err r) (Ok b) e = never (cc)

pub one_extent : (x y : Result Extent Refused) (l : Located) → located x ≡ l → located y ≡ l → x ≡ y
one_extent x y l e f = same_located x y (e ∙ sym f)

-- a finding
same_found : (a b : Result Finding Refused) → found_as a ≡ found_as b → a ≡ b
unfolding first_in second_in
same_found (Ok a) (Ok b) e =
    let v = ap (λ (x : Found). x.verdict) e in
    let n : a.accepted.count ≡ b.accepted.count = ap first_in v in
    let c : a.accepted.cents ≡ b.accepted.cents = ap second_in v in
    let p : a.first ≡ b.first = ap (λ (x : Found). x.first) e in
    rw (n, c, p)
same_found (Err r) (Err s) e = let v = ap (λ (x : Found). x.verdict) e in ap Err (one_refused r s (ap first_in v) (ap second_in v))
same_found (Ok a) (Err s) e = let v = ap (λ (x : Found). x.verdict) e in never (cc)
same_found (Err r) (Ok b) e = let v = ap (λ (x : Found). x.verdict) e in never (cc)

pub one_finding : (a b : Result Finding Refused) (f : Found) → found_as a ≡ f → found_as b ≡ f → a ≡ b
one_finding a b f d e = same_found a b (d ∙ sym e)

-- a survey
same_place : (a b : Option ℕ) → from_one a ≡ from_one b → a ≡ b
same_place (Some i) (Some j) e = let z : i ≡ j = omega arith in ap Some z
same_place None None e = refl
same_place (Some i) None e = absurd (let z : ⊥ = omega arith in z)
same_place None (Some j) e = absurd (let z : ⊥ = omega arith in z)

same_surveyed : (a b : Result Survey Refused) → surveyed_as a ≡ surveyed_as b → a ≡ b
unfolding first_in second_in
same_surveyed (Ok a) (Ok b) e =
    let v = ap (λ (x : Surveyed). x.found.verdict) e in
    let n : a.finding.accepted.count ≡ b.finding.accepted.count = ap first_in v in
    let c : a.finding.accepted.cents ≡ b.finding.accepted.cents = ap second_in v in
    let p : a.finding.first ≡ b.finding.first = ap (λ (x : Surveyed). x.found.first) e in
    let k : a.service ≡ b.service = same_place a.service b.service (ap (λ (x : Surveyed). x.service) e) in
    let l : a.starts ≡ b.starts = ap (λ (x : Surveyed). x.places) e in
    rw (n, c, p, k, l)
same_surveyed (Err r) (Err s) e = let v = ap (λ (x : Surveyed). x.found.verdict) e in ap Err (one_refused r s (ap first_in v) (ap second_in v))
same_surveyed (Ok a) (Err s) e = let v = ap (λ (x : Surveyed). x.found.verdict) e in never (cc)
same_surveyed (Err r) (Ok b) e = let v = ap (λ (x : Surveyed). x.found.verdict) e in never (cc)

pub one_survey : (a b : Result Survey Refused) (s : Surveyed) → surveyed_as a ≡ s → surveyed_as b ≡ s → a ≡ b
one_survey a b s d e = same_surveyed a b (d ∙ sym e)

-- **The two ways answer the same on every message where 25 is not given**: by the index, and by the plain search.
pub same_ways : (index m : List ℕ) (v w : Result Accepted Refused) → least_index ≤ length index → meant v ≡ judged_with index m → meant w ≡ judged m → v ≡ w
unfolding least_index
same_ways index m v w h e f = one_verdict v w (judged m) (e ∙ sym (has_room index (refused 25 0) (judged m) h)) f
