-- `swift_values::quick_bics::eighth` meets its contract.
use Rattle.swift_values.proofs.Bics.{eighth_no}
use Rattle.swift_values.proofs.quick_bics.eighth.Goals as goal

pub returns : goal.returns
returns c = eighth_no c.args.wider c.args.c
