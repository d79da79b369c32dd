-- `profile::is_words` meets its contract.
use mathlib.Core.Path.{sym, ◌∙◌}
use Rattle.text.proofs.Truths.{never, yes_of, no_of}
use Rattle.profile.specs.Profile.{words_tag}
use Rattle.profile.proofs.is_words.Goals.{then-same, else-same}
use Rattle.profile.proofs.is_words.Goals as goal

pub returns-then-same-2 : goal.returns-then-same-2
unfolding words_tag
returns-then-same-2 c =
    elim c.if-same.branch [
      | then-same w ↦ rw (yes_of c.same.ensures w.if-same.true) c.if-same-2.true
      | else-same w ↦ rw (no_of c.same.ensures w.if-same.false, yes_of w.same-else-same.ensures (sym w.value-is ∙ c.if-same-2.true)) c.if-same-2.true
    ]

pub returns-else-same-2 : goal.returns-else-same-2
unfolding words_tag
returns-else-same-2 c =
    elim c.if-same.branch [
      | then-same w ↦ never (cc)
      | else-same w ↦ rw (no_of c.same.ensures w.if-same.false, no_of w.same-else-same.ensures (sym w.value-is ∙ c.if-same-2.false)) c.same-else-same-2.ensures
    ]
