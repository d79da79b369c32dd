-- A message that ends where more is due, completed.
use Rattle.std.specs.Prelude.{ℕ, ◌+◌, ◌≤◌, ◌≡◌, List, [], ◌∷◌, ◌++◌, length}
use Rattle.tags.specs.Tags.{end_tag, plain_tag, start_tag, declaration}
use Rattle.profile.specs.declared.Version.{Version}
use Rattle.profile.specs.Version.{versions, root}
use Rattle.profile.specs.Kinds.{is_amount}
use Rattle.profile.specs.Tree.{Shape, end, leaf, group}
use Rattle.profile.specs.Profile.{profile}
use Rattle.reading.specs.Trace.{Trace, met, up_to, fault, message}
use Rattle.reading.specs.Verdict.{refused}
use Rattle.reading.specs.Judged.{judged}
use Rattle.faults.specs.Refusals.{◌among◌}

-- how many bytes the tags of a tree take, every element once
abbrev pub full : Shape → ℕ
full (end n) = length (end_tag n)
full (leaf o n k f rest) = length (start_tag (is_amount k) n) + length (end_tag n) + full rest
full (group o n inner rest) = length (plain_tag n) + full inner + full rest

-- and a whole message, of any of some versions
abbrev pub room_of : List Version → ℕ
room_of [] = 0
room_of (v ∷ vs) = length (root v) + full (profile v) + room_of vs

abbrev pub enough : ℕ
enough = length declaration + room_of versions

-- no fault of form but of one number
abbrev pub NoneBut : ℕ → Trace → Type 0
NoneBut k (met e t) = NoneBut k t
NoneBut k (up_to p) = Unit {0}
NoneBut k (fault n q) = n ≡ k

-- continued with these bytes, nothing is wrong with the form of the message but, it may be, a currency that it had begun with: it is not refused 2, 3 or 4
pub record Completed (m : List ℕ) : Type 0 where
  pub more : List ℕ
  pub short : length more ≤ enough
  pub form : NoneBut 6 (message (m ++ more))
  pub answer : (n p : ℕ) → n among (2 ∷ 3 ∷ 4 ∷ []) → judged (m ++ more) ≡ refused n p → ⊥
