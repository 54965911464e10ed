-- `program::read_twice` meets its contract: the first reading, the second, and the memory.
use Rattle.program.proofs.Accepting.{accept_stop, accept_astray, accept_over, accept_good}
use Rattle.terms.proofs.Refusals.{handed_on}
use Rattle.program.proofs.read_twice.Goals as goal

pub returns-in_err-first : goal.returns-in_err-first
returns-in_err-first c =
    rw (handed_on _ c.from_residual.ensures.1) (accept_stop _ c.in_err-first.ensures)

pub returns-in_err-read_program : goal.returns-in_err-read_program
returns-in_err-read_program c =
    rw (handed_on _ c.from_residual-in_err-read_program.ensures.1) (accept_astray _ c.in_ok-first.ensures c.in_err-read_program.ensures)

pub returns-then-first-gt-MEMORY_LIMIT : goal.returns-then-first-gt-MEMORY_LIMIT
returns-then-first-gt-MEMORY_LIMIT c =
    accept_over _ c.in_ok-first.ensures c.in_ok-read_program.ensures c.if-first-gt-MEMORY_LIMIT.true

pub returns : goal.returns
returns c =
    accept_good _ c.in_ok-first.ensures c.in_ok-read_program.ensures c.if-first-gt-MEMORY_LIMIT.false
