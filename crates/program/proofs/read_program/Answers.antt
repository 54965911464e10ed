-- `program::read_program` meets its contract: the count, the blocks, and the alarms.
use Rattle.program.proofs.Accepting.{program_bad, program_stop, program_no_alarms, program_whole}
use Rattle.numbers.proofs.Typed.{typed_below}
use Rattle.terms.proofs.Refusals.{handed_on}
use native.Mathlib.Omega.{arith}
use mathlib.Core.Path.{sym}
use Rattle.program.proofs.read_program.Goals as goal

pub returns-in_err-n : goal.returns-in_err-n
returns-in_err-n c =
    rw (handed_on _ c.from_residual.ensures.1) (program_bad _ _ (sym c.in_err-n.ensures))

pub read_blocks-requires : goal.read_blocks-requires
read_blocks-requires c =
    omega (arith, typed_below _ _ _ _ _ (sym c.in_ok-n.ensures))

pub returns-in_err-reading : goal.returns-in_err-reading
returns-in_err-reading c =
    rw (handed_on _ c.from_residual-in_err-reading.ensures.1) (program_stop _ _ (sym c.in_ok-n.ensures) c.in_err-reading.ensures)

pub returns-in_err-reading-2 : goal.returns-in_err-reading-2
returns-in_err-reading-2 c =
    rw (handed_on _ c.from_residual-in_err-reading-2.ensures.1) (program_no_alarms _ _ (sym c.in_ok-n.ensures) c.in_ok-reading.ensures c.in_err-reading-2.ensures)

pub returns : goal.returns
returns c =
    let e = sym c.in_ok-n.ensures in
    program_whole _ _ e c.in_ok-reading.ensures (omega (arith, typed_below _ _ _ _ _ e)) c.in_ok-reading-2.ensures
