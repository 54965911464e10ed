-- `columns::count_of` meets its contract: no kind has more fields than five.
use mathlib.Core.Path.{ap, ◌∙◌}
use native.Mathlib.Omega.{arith}
use lib.ListN.{length}
use Rattle.kinds.specs.Kinds.{fields_of}
use Rattle.columns.proofs.Rows.{fields_few, row_long}
use Rattle.columns.proofs.count_of.Goals as goal

pub overflow_cast-result : goal.overflow_cast-result
overflow_cast-result c =
    omega (arith, ap length c.row_of.ensures, row_long (fields_of c.args.kind), fields_few c.args.kind)

pub returns : goal.returns
returns c =
    ap length c.row_of.ensures ∙ row_long (fields_of c.args.kind)
