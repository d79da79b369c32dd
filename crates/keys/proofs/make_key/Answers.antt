-- `keys::make_key` meets its contract.
use Rattle.judge.specs.Survey.{from_one}
use Rattle.keys.proofs.Parts.{key_is}
use Rattle.keys.proofs.make_key.Goals as goal

pub returns : goal.returns
returns c =
    let a = c.args in
    key_is a.m.now (from_one a.s.now.service) a.s.now.starts c.service_of.ensures c.start_of.ensures c.start_of-2.ensures c.start_of-3.ensures c.value_at-id.ensures c.value_at-bic.ensures c.value_at-date.ensures c.key_with.ensures
