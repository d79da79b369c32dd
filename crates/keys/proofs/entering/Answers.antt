-- `keys::entering` meets its contract.
use Rattle.keys.proofs.Entered.{unfit_call, fit_call}
use Rattle.keys.proofs.entering.Goals as goal

pub returns-in-Ok : goal.returns-in-Ok
returns-in-Ok c = (fit_call c.args.index.now c.args.message.now _ c.in-Ok.ensures.0, c.key.ensures.1)

pub returns-in-Err : goal.returns-in-Err
returns-in-Err c = (unfit_call c.args.index.now c.args.message.now _ c.in-Err.ensures.0, c.key.ensures.1)
