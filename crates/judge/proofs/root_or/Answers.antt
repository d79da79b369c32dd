-- `judge::root_or` meets its contract.
use Rattle.judge.specs.Verdict.{opened_as}
use Rattle.judge.proofs.Begins.{root_whole, root_cut, root_other}
use Rattle.judge.proofs.root_or.Goals as goal

pub returns-in-Whole : goal.returns-in-Whole
returns-in-Whole c =
    let a = c.args in
    let r = c.root_at in
    root_whole a.m.now a.v a.at c.requires.0 r.result r.ensures (opened_as a.other) c.in-Whole.is

pub returns-in-Cut : goal.returns-in-Cut
returns-in-Cut c =
    let a = c.args in
    let r = c.root_at in
    rw c.at.ensures (root_cut a.m.now a.v a.at c.requires.0 r.result r.ensures (opened_as a.other) c.in-Cut.is)

pub returns-in-Other : goal.returns-in-Other
returns-in-Other c =
    let a = c.args in
    let r = c.root_at in
    root_other a.m.now a.v a.at c.requires.0 r.result r.ensures (opened_as a.other) c.in-Other.is
    c.requires.1
