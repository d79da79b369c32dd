-- `reader::check_currency` meets its contract.
use mathlib.Core.Path.{◌∙◌}
use Rattle.engine.proofs.Elements.{in_euro_lem, no_euro}
use Rattle.reader.proofs.Steps.{refused_at}
use Rattle.reader.proofs.check_currency.Goals as goal

pub returns-then-in_euro : goal.returns-then-in_euro
returns-then-in_euro c =
    let a = c.args in
    let the-in-euro = c.in_euro in
    in_euro_lem a.m.now a.st.at a.st.notes the-in-euro.result the-in-euro.ensures c.if-in_euro.true

pub returns : goal.returns
returns c =
    let a = c.args in
    let the-in-euro = c.in_euro in
    refused_at _ _ c.at.ensures ∙ no_euro a.m.now a.st.at a.st.notes the-in-euro.result the-in-euro.ensures c.if-in_euro.false
    c.currency_place.result c.currency_place.ensures
