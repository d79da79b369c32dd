-- `judge::open_message` meets its contract.
use Rattle.text.proofs.Truths.{yes_of, no_of}
use Rattle.judge.specs.Verdict.{opened_as}
use Rattle.judge.proofs.Begins.{no_declaration, declaration_fits, declaration_whole, declaration_cut, declaration_other}
use Rattle.judge.proofs.open_message.Goals as goal

pub returns-then-not-has_question : goal.returns-then-not-has_question
returns-then-not-has_question c =
    let a = c.args in (
      no_declaration a.m.now (no_of c.has_question.ensures c.if-not-has_question.true) (opened_as c.enter_root.result)
          c.enter_root.ensures.0,
      c.enter_root.ensures.1,
    )

pub enter_root-requires-in-Whole : goal.enter_root-requires-in-Whole
enter_root-requires-in-Whole c =
    let a = c.args in
    let the-has-question = c.has_question in
    let the-declaration-at = c.declaration_at in
    declaration_fits a.m.now (yes_of the-has-question.ensures c.if-not-has_question.false) the-declaration-at.result the-declaration-at.ensures
    c.in-Whole.is

pub returns-in-Whole : goal.returns-in-Whole
returns-in-Whole c =
    let a = c.args in
    let the-has-question = c.has_question in
    let the-if1 = c.if-not-has_question in
    let the-declaration-at = c.declaration_at in (
      declaration_whole a.m.now (yes_of the-has-question.ensures the-if1.false) the-declaration-at.result the-declaration-at.ensures
          c.in-Whole.is (opened_as c.enter_root-in-Whole.result) c.enter_root-in-Whole.ensures.0,
      c.enter_root-in-Whole.ensures.1,
    )

pub returns-in-Cut : goal.returns-in-Cut
returns-in-Cut c =
    let a = c.args in
    let the-has-question = c.has_question in
    let the-declaration-at = c.declaration_at in
    rw c.at.ensures (declaration_cut a.m.now (yes_of the-has-question.ensures c.if-not-has_question.false) the-declaration-at.result the-declaration-at.ensures c.in-Cut.is)

pub returns-in-Other : goal.returns-in-Other
returns-in-Other c =
    let a = c.args in
    let the-has-question = c.has_question in
    let the-declaration-at = c.declaration_at in
    rw c.at-in-Other.ensures
    (declaration_other a.m.now (yes_of the-has-question.ensures c.if-not-has_question.false) the-declaration-at.result the-declaration-at.ensures c.in-Other.is)
