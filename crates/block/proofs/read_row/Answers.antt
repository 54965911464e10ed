-- `block::read_row` meets its contract: in each arm the calls read the row by the kind's types in the table, to the first that cannot be read.
use Rattle.block.proofs.Rows.{row_read}
use Rattle.terms.proofs.Refusals.{handed_on}
use Rattle.terms.proofs.Table.{last}
use Rattle.kinds.specs.Kinds.{kind_of, types_of}
use mathlib.Core.Path.{sym}
use Rattle.block.proofs.read_row.Goals as goal

pub returns-in_err-read_field-in-1 : goal.returns-in_err-read_field-in-1
unfolding kind_of
returns-in_err-read_field-in-1 c =
    rw (handed_on _ c.from_residual.ensures.1, c.in-1.is)
    (rw (sym c.empty.ensures, sym c.in_err-read_field-in-1.ensures) at (row_read c.args.marks.now c.args.s.now (types_of 1) c.args.start tt))

pub returns-in_err-read_field-in-1-2 : goal.returns-in_err-read_field-in-1-2
unfolding kind_of
returns-in_err-read_field-in-1-2 c =
    rw (handed_on _ c.from_residual-in_err-read_field-in-1-2.ensures.1, c.in-1.is)
    (rw (sym c.empty.ensures, sym c.in_ok-read_field-in-1.ensures, sym c.in_err-read_field-in-1-2.ensures) at (row_read c.args.marks.now c.args.s.now (types_of 1) c.args.start tt))

pub returns-in_ok-read_field-in-1-2 : goal.returns-in_ok-read_field-in-1-2
unfolding kind_of
returns-in_ok-read_field-in-1-2 c =
    rw (c.in-1.is)
    (rw (sym c.empty.ensures, sym c.in_ok-read_field-in-1.ensures, sym c.in_ok-read_field-in-1-2.ensures, sym c.read_field-in-1-2.ensures) at (row_read c.args.marks.now c.args.s.now (types_of 1) c.args.start tt))

pub returns-in_err-read_field-in-2 : goal.returns-in_err-read_field-in-2
unfolding kind_of
returns-in_err-read_field-in-2 c =
    rw (handed_on _ c.from_residual-in_err-read_field-in-2.ensures.1, c.in-2.is)
    (rw (sym c.empty-in-2.ensures, sym c.in_err-read_field-in-2.ensures) at (row_read c.args.marks.now c.args.s.now (types_of 2) c.args.start tt))

pub returns-in_ok-read_field-in-2 : goal.returns-in_ok-read_field-in-2
unfolding kind_of
returns-in_ok-read_field-in-2 c =
    rw (c.in-2.is)
    (rw (sym c.empty-in-2.ensures, sym c.in_ok-read_field-in-2.ensures, sym c.read_field-in-2-2.ensures) at (row_read c.args.marks.now c.args.s.now (types_of 2) c.args.start tt))

pub returns-in_err-read_field-in-3 : goal.returns-in_err-read_field-in-3
unfolding kind_of
returns-in_err-read_field-in-3 c =
    rw (handed_on _ c.from_residual-in_err-read_field-in-3.ensures.1, c.in-3.is)
    (rw (sym c.empty-in-3.ensures, sym c.in_err-read_field-in-3.ensures) at (row_read c.args.marks.now c.args.s.now (types_of 3) c.args.start tt))

pub returns-in_ok-read_field-in-3 : goal.returns-in_ok-read_field-in-3
unfolding kind_of
returns-in_ok-read_field-in-3 c =
    rw (c.in-3.is)
    (rw (sym c.empty-in-3.ensures, sym c.in_ok-read_field-in-3.ensures, sym c.read_field-in-3-2.ensures) at (row_read c.args.marks.now c.args.s.now (types_of 3) c.args.start tt))

pub returns-in_err-read_field-in-4 : goal.returns-in_err-read_field-in-4
unfolding kind_of
returns-in_err-read_field-in-4 c =
    rw (handed_on _ c.from_residual-in_err-read_field-in-4.ensures.1, c.in-4.is)
    (rw (sym c.empty-in-4.ensures, sym c.in_err-read_field-in-4.ensures) at (row_read c.args.marks.now c.args.s.now (types_of 4) c.args.start tt))

pub returns-in_err-read_field-in-4-2 : goal.returns-in_err-read_field-in-4-2
unfolding kind_of
returns-in_err-read_field-in-4-2 c =
    rw (handed_on _ c.from_residual-in_err-read_field-in-4-2.ensures.1, c.in-4.is)
    (rw (sym c.empty-in-4.ensures, sym c.in_ok-read_field-in-4.ensures, sym c.in_err-read_field-in-4-2.ensures) at (row_read c.args.marks.now c.args.s.now (types_of 4) c.args.start tt))

pub returns-in_err-read_field-in-4-3 : goal.returns-in_err-read_field-in-4-3
unfolding kind_of
returns-in_err-read_field-in-4-3 c =
    rw (handed_on _ c.from_residual-in_err-read_field-in-4-3.ensures.1, c.in-4.is)
    (rw (sym c.empty-in-4.ensures, sym c.in_ok-read_field-in-4.ensures, sym c.in_ok-read_field-in-4-2.ensures, sym c.in_err-read_field-in-4-3.ensures) at (row_read c.args.marks.now c.args.s.now (types_of 4) c.args.start tt))

pub returns-in_err-read_field-in-4-4 : goal.returns-in_err-read_field-in-4-4
unfolding kind_of
returns-in_err-read_field-in-4-4 c =
    rw (handed_on _ c.from_residual-in_err-read_field-in-4-4.ensures.1, c.in-4.is)
    (rw (sym c.empty-in-4.ensures, sym c.in_ok-read_field-in-4.ensures, sym c.in_ok-read_field-in-4-2.ensures, sym c.in_ok-read_field-in-4-3.ensures, sym c.in_err-read_field-in-4-4.ensures) at (row_read c.args.marks.now c.args.s.now (types_of 4) c.args.start tt))

pub returns-in_ok-read_field-in-4-4 : goal.returns-in_ok-read_field-in-4-4
unfolding kind_of
returns-in_ok-read_field-in-4-4 c =
    rw (c.in-4.is)
    (rw (sym c.empty-in-4.ensures, sym c.in_ok-read_field-in-4.ensures, sym c.in_ok-read_field-in-4-2.ensures, sym c.in_ok-read_field-in-4-3.ensures, sym c.in_ok-read_field-in-4-4.ensures, sym c.read_field-in-4-5.ensures) at (row_read c.args.marks.now c.args.s.now (types_of 4) c.args.start tt))

pub returns-in_err-read_field-in-5 : goal.returns-in_err-read_field-in-5
unfolding kind_of
returns-in_err-read_field-in-5 c =
    rw (handed_on _ c.from_residual-in_err-read_field-in-5.ensures.1, c.in-5.is)
    (rw (sym c.empty-in-5.ensures, sym c.in_err-read_field-in-5.ensures) at (row_read c.args.marks.now c.args.s.now (types_of 5) c.args.start tt))

pub returns-in_err-read_field-in-5-2 : goal.returns-in_err-read_field-in-5-2
unfolding kind_of
returns-in_err-read_field-in-5-2 c =
    rw (handed_on _ c.from_residual-in_err-read_field-in-5-2.ensures.1, c.in-5.is)
    (rw (sym c.empty-in-5.ensures, sym c.in_ok-read_field-in-5.ensures, sym c.in_err-read_field-in-5-2.ensures) at (row_read c.args.marks.now c.args.s.now (types_of 5) c.args.start tt))

pub returns-in_err-read_field-in-5-3 : goal.returns-in_err-read_field-in-5-3
unfolding kind_of
returns-in_err-read_field-in-5-3 c =
    rw (handed_on _ c.from_residual-in_err-read_field-in-5-3.ensures.1, c.in-5.is)
    (rw (sym c.empty-in-5.ensures, sym c.in_ok-read_field-in-5.ensures, sym c.in_ok-read_field-in-5-2.ensures, sym c.in_err-read_field-in-5-3.ensures) at (row_read c.args.marks.now c.args.s.now (types_of 5) c.args.start tt))

pub returns-in_ok-read_field-in-5-3 : goal.returns-in_ok-read_field-in-5-3
unfolding kind_of
returns-in_ok-read_field-in-5-3 c =
    rw (c.in-5.is)
    (rw (sym c.empty-in-5.ensures, sym c.in_ok-read_field-in-5.ensures, sym c.in_ok-read_field-in-5-2.ensures, sym c.in_ok-read_field-in-5-3.ensures, sym c.read_field-in-5-4.ensures) at (row_read c.args.marks.now c.args.s.now (types_of 5) c.args.start tt))

pub returns-in_err-read_field-in-6 : goal.returns-in_err-read_field-in-6
unfolding kind_of
returns-in_err-read_field-in-6 c =
    rw (handed_on _ c.from_residual-in_err-read_field-in-6.ensures.1, c.in-6.is)
    (rw (sym c.empty-in-6.ensures, sym c.in_err-read_field-in-6.ensures) at (row_read c.args.marks.now c.args.s.now (types_of 6) c.args.start tt))

pub returns-in_err-read_field-in-6-2 : goal.returns-in_err-read_field-in-6-2
unfolding kind_of
returns-in_err-read_field-in-6-2 c =
    rw (handed_on _ c.from_residual-in_err-read_field-in-6-2.ensures.1, c.in-6.is)
    (rw (sym c.empty-in-6.ensures, sym c.in_ok-read_field-in-6.ensures, sym c.in_err-read_field-in-6-2.ensures) at (row_read c.args.marks.now c.args.s.now (types_of 6) c.args.start tt))

pub returns-in_err-read_field-in-6-3 : goal.returns-in_err-read_field-in-6-3
unfolding kind_of
returns-in_err-read_field-in-6-3 c =
    rw (handed_on _ c.from_residual-in_err-read_field-in-6-3.ensures.1, c.in-6.is)
    (rw (sym c.empty-in-6.ensures, sym c.in_ok-read_field-in-6.ensures, sym c.in_ok-read_field-in-6-2.ensures, sym c.in_err-read_field-in-6-3.ensures) at (row_read c.args.marks.now c.args.s.now (types_of 6) c.args.start tt))

pub returns-in_ok-read_field-in-6-3 : goal.returns-in_ok-read_field-in-6-3
unfolding kind_of
returns-in_ok-read_field-in-6-3 c =
    rw (c.in-6.is)
    (rw (sym c.empty-in-6.ensures, sym c.in_ok-read_field-in-6.ensures, sym c.in_ok-read_field-in-6-2.ensures, sym c.in_ok-read_field-in-6-3.ensures, sym c.read_field-in-6-4.ensures) at (row_read c.args.marks.now c.args.s.now (types_of 6) c.args.start tt))

pub returns-in_err-read_field-in-7 : goal.returns-in_err-read_field-in-7
unfolding kind_of
returns-in_err-read_field-in-7 c =
    rw (handed_on _ c.from_residual-in_err-read_field-in-7.ensures.1, c.in-7.is)
    (rw (sym c.empty-in-7.ensures, sym c.in_err-read_field-in-7.ensures) at (row_read c.args.marks.now c.args.s.now (types_of 7) c.args.start tt))

pub returns-in_err-read_field-in-7-2 : goal.returns-in_err-read_field-in-7-2
unfolding kind_of
returns-in_err-read_field-in-7-2 c =
    rw (handed_on _ c.from_residual-in_err-read_field-in-7-2.ensures.1, c.in-7.is)
    (rw (sym c.empty-in-7.ensures, sym c.in_ok-read_field-in-7.ensures, sym c.in_err-read_field-in-7-2.ensures) at (row_read c.args.marks.now c.args.s.now (types_of 7) c.args.start tt))

pub returns-in_ok-read_field-in-7-2 : goal.returns-in_ok-read_field-in-7-2
unfolding kind_of
returns-in_ok-read_field-in-7-2 c =
    rw (c.in-7.is)
    (rw (sym c.empty-in-7.ensures, sym c.in_ok-read_field-in-7.ensures, sym c.in_ok-read_field-in-7-2.ensures, sym c.read_field-in-7-3.ensures) at (row_read c.args.marks.now c.args.s.now (types_of 7) c.args.start tt))

pub returns-in_err-read_field-in-8 : goal.returns-in_err-read_field-in-8
unfolding kind_of
returns-in_err-read_field-in-8 c =
    rw (handed_on _ c.from_residual-in_err-read_field-in-8.ensures.1, c.in-8.is)
    (rw (sym c.empty-in-8.ensures, sym c.in_err-read_field-in-8.ensures) at (row_read c.args.marks.now c.args.s.now (types_of 8) c.args.start tt))

pub returns-in_err-read_field-in-8-2 : goal.returns-in_err-read_field-in-8-2
unfolding kind_of
returns-in_err-read_field-in-8-2 c =
    rw (handed_on _ c.from_residual-in_err-read_field-in-8-2.ensures.1, c.in-8.is)
    (rw (sym c.empty-in-8.ensures, sym c.in_ok-read_field-in-8.ensures, sym c.in_err-read_field-in-8-2.ensures) at (row_read c.args.marks.now c.args.s.now (types_of 8) c.args.start tt))

pub returns-in_err-read_field-in-8-3 : goal.returns-in_err-read_field-in-8-3
unfolding kind_of
returns-in_err-read_field-in-8-3 c =
    rw (handed_on _ c.from_residual-in_err-read_field-in-8-3.ensures.1, c.in-8.is)
    (rw (sym c.empty-in-8.ensures, sym c.in_ok-read_field-in-8.ensures, sym c.in_ok-read_field-in-8-2.ensures, sym c.in_err-read_field-in-8-3.ensures) at (row_read c.args.marks.now c.args.s.now (types_of 8) c.args.start tt))

pub returns-in_err-read_field-in-8-4 : goal.returns-in_err-read_field-in-8-4
unfolding kind_of
returns-in_err-read_field-in-8-4 c =
    rw (handed_on _ c.from_residual-in_err-read_field-in-8-4.ensures.1, c.in-8.is)
    (rw (sym c.empty-in-8.ensures, sym c.in_ok-read_field-in-8.ensures, sym c.in_ok-read_field-in-8-2.ensures, sym c.in_ok-read_field-in-8-3.ensures, sym c.in_err-read_field-in-8-4.ensures) at (row_read c.args.marks.now c.args.s.now (types_of 8) c.args.start tt))

pub returns-in_ok-read_field-in-8-4 : goal.returns-in_ok-read_field-in-8-4
unfolding kind_of
returns-in_ok-read_field-in-8-4 c =
    rw (c.in-8.is)
    (rw (sym c.empty-in-8.ensures, sym c.in_ok-read_field-in-8.ensures, sym c.in_ok-read_field-in-8-2.ensures, sym c.in_ok-read_field-in-8-3.ensures, sym c.in_ok-read_field-in-8-4.ensures, sym c.read_field-in-8-5.ensures) at (row_read c.args.marks.now c.args.s.now (types_of 8) c.args.start tt))

pub returns-in_err-read_field-in-9 : goal.returns-in_err-read_field-in-9
unfolding kind_of
returns-in_err-read_field-in-9 c =
    rw (handed_on _ c.from_residual-in_err-read_field-in-9.ensures.1, c.in-9.is)
    (rw (sym c.empty-in-9.ensures, sym c.in_err-read_field-in-9.ensures) at (row_read c.args.marks.now c.args.s.now (types_of 9) c.args.start tt))

pub returns-in_err-read_field-in-9-2 : goal.returns-in_err-read_field-in-9-2
unfolding kind_of
returns-in_err-read_field-in-9-2 c =
    rw (handed_on _ c.from_residual-in_err-read_field-in-9-2.ensures.1, c.in-9.is)
    (rw (sym c.empty-in-9.ensures, sym c.in_ok-read_field-in-9.ensures, sym c.in_err-read_field-in-9-2.ensures) at (row_read c.args.marks.now c.args.s.now (types_of 9) c.args.start tt))

pub returns-in_err-read_field-in-9-3 : goal.returns-in_err-read_field-in-9-3
unfolding kind_of
returns-in_err-read_field-in-9-3 c =
    rw (handed_on _ c.from_residual-in_err-read_field-in-9-3.ensures.1, c.in-9.is)
    (rw (sym c.empty-in-9.ensures, sym c.in_ok-read_field-in-9.ensures, sym c.in_ok-read_field-in-9-2.ensures, sym c.in_err-read_field-in-9-3.ensures) at (row_read c.args.marks.now c.args.s.now (types_of 9) c.args.start tt))

pub returns-in_ok-read_field-in-9-3 : goal.returns-in_ok-read_field-in-9-3
unfolding kind_of
returns-in_ok-read_field-in-9-3 c =
    rw (c.in-9.is)
    (rw (sym c.empty-in-9.ensures, sym c.in_ok-read_field-in-9.ensures, sym c.in_ok-read_field-in-9-2.ensures, sym c.in_ok-read_field-in-9-3.ensures, sym c.read_field-in-9-4.ensures) at (row_read c.args.marks.now c.args.s.now (types_of 9) c.args.start tt))

pub returns-in_err-read_field-in-10 : goal.returns-in_err-read_field-in-10
unfolding kind_of
returns-in_err-read_field-in-10 c =
    rw (handed_on _ c.from_residual-in_err-read_field-in-10.ensures.1, c.in-10.is)
    (rw (sym c.empty-in-10.ensures, sym c.in_err-read_field-in-10.ensures) at (row_read c.args.marks.now c.args.s.now (types_of 10) c.args.start tt))

pub returns-in_err-read_field-in-10-2 : goal.returns-in_err-read_field-in-10-2
unfolding kind_of
returns-in_err-read_field-in-10-2 c =
    rw (handed_on _ c.from_residual-in_err-read_field-in-10-2.ensures.1, c.in-10.is)
    (rw (sym c.empty-in-10.ensures, sym c.in_ok-read_field-in-10.ensures, sym c.in_err-read_field-in-10-2.ensures) at (row_read c.args.marks.now c.args.s.now (types_of 10) c.args.start tt))

pub returns-in_err-read_field-in-10-3 : goal.returns-in_err-read_field-in-10-3
unfolding kind_of
returns-in_err-read_field-in-10-3 c =
    rw (handed_on _ c.from_residual-in_err-read_field-in-10-3.ensures.1, c.in-10.is)
    (rw (sym c.empty-in-10.ensures, sym c.in_ok-read_field-in-10.ensures, sym c.in_ok-read_field-in-10-2.ensures, sym c.in_err-read_field-in-10-3.ensures) at (row_read c.args.marks.now c.args.s.now (types_of 10) c.args.start tt))

pub returns-in_err-read_field-in-10-4 : goal.returns-in_err-read_field-in-10-4
unfolding kind_of
returns-in_err-read_field-in-10-4 c =
    rw (handed_on _ c.from_residual-in_err-read_field-in-10-4.ensures.1, c.in-10.is)
    (rw (sym c.empty-in-10.ensures, sym c.in_ok-read_field-in-10.ensures, sym c.in_ok-read_field-in-10-2.ensures, sym c.in_ok-read_field-in-10-3.ensures, sym c.in_err-read_field-in-10-4.ensures) at (row_read c.args.marks.now c.args.s.now (types_of 10) c.args.start tt))

pub returns-in_ok-read_field-in-10-4 : goal.returns-in_ok-read_field-in-10-4
unfolding kind_of
returns-in_ok-read_field-in-10-4 c =
    rw (c.in-10.is)
    (rw (sym c.empty-in-10.ensures, sym c.in_ok-read_field-in-10.ensures, sym c.in_ok-read_field-in-10-2.ensures, sym c.in_ok-read_field-in-10-3.ensures, sym c.in_ok-read_field-in-10-4.ensures, sym c.read_field-in-10-5.ensures) at (row_read c.args.marks.now c.args.s.now (types_of 10) c.args.start tt))

pub returns-in_err-read_field-in-11 : goal.returns-in_err-read_field-in-11
unfolding kind_of
returns-in_err-read_field-in-11 c =
    rw (handed_on _ c.from_residual-in_err-read_field-in-11.ensures.1, c.in-11.is)
    (rw (sym c.empty-in-11.ensures, sym c.in_err-read_field-in-11.ensures) at (row_read c.args.marks.now c.args.s.now (types_of 11) c.args.start tt))

pub returns-in_err-read_field-in-11-2 : goal.returns-in_err-read_field-in-11-2
unfolding kind_of
returns-in_err-read_field-in-11-2 c =
    rw (handed_on _ c.from_residual-in_err-read_field-in-11-2.ensures.1, c.in-11.is)
    (rw (sym c.empty-in-11.ensures, sym c.in_ok-read_field-in-11.ensures, sym c.in_err-read_field-in-11-2.ensures) at (row_read c.args.marks.now c.args.s.now (types_of 11) c.args.start tt))

pub returns-in_err-read_field-in-11-3 : goal.returns-in_err-read_field-in-11-3
unfolding kind_of
returns-in_err-read_field-in-11-3 c =
    rw (handed_on _ c.from_residual-in_err-read_field-in-11-3.ensures.1, c.in-11.is)
    (rw (sym c.empty-in-11.ensures, sym c.in_ok-read_field-in-11.ensures, sym c.in_ok-read_field-in-11-2.ensures, sym c.in_err-read_field-in-11-3.ensures) at (row_read c.args.marks.now c.args.s.now (types_of 11) c.args.start tt))

pub returns-in_err-read_field-in-11-4 : goal.returns-in_err-read_field-in-11-4
unfolding kind_of
returns-in_err-read_field-in-11-4 c =
    rw (handed_on _ c.from_residual-in_err-read_field-in-11-4.ensures.1, c.in-11.is)
    (rw (sym c.empty-in-11.ensures, sym c.in_ok-read_field-in-11.ensures, sym c.in_ok-read_field-in-11-2.ensures, sym c.in_ok-read_field-in-11-3.ensures, sym c.in_err-read_field-in-11-4.ensures) at (row_read c.args.marks.now c.args.s.now (types_of 11) c.args.start tt))

pub returns-in_ok-read_field-in-11-4 : goal.returns-in_ok-read_field-in-11-4
unfolding kind_of
returns-in_ok-read_field-in-11-4 c =
    rw (c.in-11.is)
    (rw (sym c.empty-in-11.ensures, sym c.in_ok-read_field-in-11.ensures, sym c.in_ok-read_field-in-11-2.ensures, sym c.in_ok-read_field-in-11-3.ensures, sym c.in_ok-read_field-in-11-4.ensures, sym c.read_field-in-11-5.ensures) at (row_read c.args.marks.now c.args.s.now (types_of 11) c.args.start tt))

pub returns-in_err-read_field-in_default : goal.returns-in_err-read_field-in_default
unfolding kind_of
returns-in_err-read_field-in_default c =
    rw (handed_on _ c.from_residual-in_err-read_field-in_default.ensures.1, last 12 c.in_default.in_default-own.rest c.requires)
    (rw (sym c.empty-in_default.ensures, sym c.in_err-read_field-in_default.ensures) at (row_read c.args.marks.now c.args.s.now (types_of 12) c.args.start tt))

pub returns-in_err-read_field-in_default-2 : goal.returns-in_err-read_field-in_default-2
unfolding kind_of
returns-in_err-read_field-in_default-2 c =
    rw (handed_on _ c.from_residual-in_err-read_field-in_default-2.ensures.1, last 12 c.in_default.in_default-own.rest c.requires)
    (rw (sym c.empty-in_default.ensures, sym c.in_ok-read_field-in_default.ensures, sym c.in_err-read_field-in_default-2.ensures) at (row_read c.args.marks.now c.args.s.now (types_of 12) c.args.start tt))

pub returns-in_err-read_field-in_default-3 : goal.returns-in_err-read_field-in_default-3
unfolding kind_of
returns-in_err-read_field-in_default-3 c =
    rw (handed_on _ c.from_residual-in_err-read_field-in_default-3.ensures.1, last 12 c.in_default.in_default-own.rest c.requires)
    (rw (sym c.empty-in_default.ensures, sym c.in_ok-read_field-in_default.ensures, sym c.in_ok-read_field-in_default-2.ensures, sym c.in_err-read_field-in_default-3.ensures) at (row_read c.args.marks.now c.args.s.now (types_of 12) c.args.start tt))

pub returns-in_ok-read_field-in_default-3 : goal.returns-in_ok-read_field-in_default-3
unfolding kind_of
returns-in_ok-read_field-in_default-3 c =
    rw (last 12 c.in_default.in_default-own.rest c.requires)
    (rw (sym c.empty-in_default.ensures, sym c.in_ok-read_field-in_default.ensures, sym c.in_ok-read_field-in_default-2.ensures, sym c.in_ok-read_field-in_default-3.ensures, sym c.read_field-in_default-4.ensures) at (row_read c.args.marks.now c.args.s.now (types_of 12) c.args.start tt))
