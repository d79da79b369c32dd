-- `swift_values::quick_identifiers::business` meets its contract.
use Rattle.swift_values.proofs.Identifiers.{three_of}
use Rattle.swift_values.proofs.quick_identifiers.business.Goals as goal

pub returns : goal.returns
returns c =
    let the-args = c.args in
    let the-in-business = c.in_business in
    let the-in-business2 = c.in_business-2 in
    three_of the-args.m.now the-args.p the-in-business.result the-in-business2.result c.in_business-3.result the-in-business.ensures the-in-business2.ensures c.in_business-3.ensures
