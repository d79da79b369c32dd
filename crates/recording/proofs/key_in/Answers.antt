-- `recording::key_in` meets its contract.
use Rattle.recording.proofs.Fields.{key_is}
use Rattle.recording.proofs.key_in.Goals as goal

pub returns : goal.returns
returns c =
    key_is c.args.r.now _ _ _ _ c.value-service.ensures c.value-id.ensures c.value-bic.ensures c.key_with.ensures
