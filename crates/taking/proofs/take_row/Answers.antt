-- `taking::take_row` meets its contract: no row, or its numbers, which are all kept.
use mathlib.Core.Path.{sym}
use native.Mathlib.Omega.{arith}
use lib.Seq.{length-take-le}
use Rattle.columns.proofs.Rows.{fields_few}
use Rattle.taking.proofs.Numbers.{row_places, no_row_taken, row_taken}
use Rattle.taking.proofs.take_row.Goals as goal

pub returns-in_err-numbers : goal.returns-in_err-numbers
returns-in_err-numbers c =
    rw c.from_residual.ensures (no_row_taken c.args.line.now c.args.at c.args.kind c.requires.at_in_bounds.1.0 c.requires.at_in_bounds.1.1 c.in_err-numbers.ensures)

pub returns : goal.returns
returns c =
    row_taken c.args.line.now c.args.at c.args.kind c.requires.at_in_bounds.1.0 c.requires.at_in_bounds.1.1 c.requires.at_in_bounds.0 c.in_ok-numbers.ensures c.count_of-count.ensures c.put_row-next.ensures

pub slice_bounds-numbers-end : goal.slice_bounds-numbers-end
slice_bounds-numbers-end c =
    omega (arith, row_places _ _ _ c.in_ok-numbers.ensures, c.count_of-count.ensures, fields_few c.args.kind)

pub slice_bounds-put_row-end : goal.slice_bounds-put_row-end
slice_bounds-put_row-end c =
    sym (length-take-le _ _ (omega (arith, row_places _ _ _ c.in_ok-numbers.ensures, c.count_of-count.ensures, fields_few c.args.kind)))

pub put_row-next-requires : goal.put_row-next-requires
put_row-next-requires c =
    omega (arith, c.requires.to_bound, c.count_of-count.ensures, fields_few c.args.kind, slice_bounds-put_row-end c)
