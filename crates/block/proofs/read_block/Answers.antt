-- `block::read_block` meets its contract: its kind, and then its row.
use Rattle.block.proofs.Rows.{row_full, row_stopped, block_full, block_stopped}
use Rattle.block.proofs.Weights.{row_light}
use Rattle.kinds.proofs.KindTable.{memory_light}
use Rattle.numbers.proofs.Typed.{typed_below}
use Rattle.terms.proofs.Refusals.{handed_on}
use Rattle.block.specs.Reading.{block_at}
use native.Mathlib.Omega.{arith}
use mathlib.Core.Path.{sym}
use Rattle.block.proofs.read_block.Goals as goal

pub returns-in_err-v : goal.returns-in_err-v
unfolding block_at
returns-in_err-v c =
    rw (handed_on _ c.from_residual.ensures.1, sym c.in_err-v.ensures)

pub overflow_cast-kind : goal.overflow_cast-kind
overflow_cast-kind c =
    omega (arith, typed_below _ _ _ _ _ (sym c.in_ok-v.ensures))

pub read_row-requires : goal.read_row-requires
read_row-requires c =
    typed_below _ _ _ _ _ (sym c.in_ok-v.ensures)

pub returns-in_err-row : goal.returns-in_err-row
returns-in_err-row c =
    rw (handed_on _ c.from_residual-in_err-row.ensures.1)
    (block_stopped _ _ _ (sym c.in_ok-v.ensures) (row_stopped _ c.in_err-row.ensures))

pub memory_of-requires : goal.memory_of-requires
memory_of-requires c =
    typed_below _ _ _ _ _ (sym c.in_ok-v.ensures)

pub overflow_add-result : goal.overflow_add-result
overflow_add-result c =
    let l = typed_below _ _ _ _ _ (sym c.in_ok-v.ensures) in
    omega (arith, c.memory_of.ensures, memory_light _ l, row_light _ _ _ _ l (row_full _ c.in_ok-row.ensures))

pub mark_of-requires : goal.mark_of-requires
mark_of-requires c =
    typed_below _ _ _ _ _ (sym c.in_ok-v.ensures)

pub returns : goal.returns
returns c =
    rw (c.memory_of.ensures, c.figure_of.ensures, c.mark_of.ensures)
    (block_full _ _ _ (sym c.in_ok-v.ensures) (row_full _ c.in_ok-row.ensures))
