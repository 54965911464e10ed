-- `columns::type_of` meets its contract: the row of the kind, at its place.
use mathlib.Core.Path.{sym, ap}
use Rattle.kinds.specs.Kinds.{Field}
use Rattle.columns.proofs.Rows.{field_there, field_none}
use Rattle.columns.proofs.type_of.Goals as goal

pub returns-in-Some : goal.returns-in-Some
returns-in-Some c =
    let found = c.in-Some.ensures.lookup in (field_there c.args.kind c.row_of.ensures c.from.ensures _ found.0 found.1).1

pub returns-in-None : goal.returns-in-None
returns-in-None c =
    sym (ap (λ (f : Field). f.type) (field_none c.args.kind c.row_of.ensures c.from.ensures c.in-None.ensures.lookup.0))
