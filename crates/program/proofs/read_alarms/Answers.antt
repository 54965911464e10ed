-- `program::read_alarms` meets its contract: the count, the references, and the end of the data.
use Rattle.program.proofs.Alarms.{alarms_bad, alarms_stop, alarms_more, alarms_end}
use Rattle.terms.proofs.Refusals.{handed_on}
use mathlib.Core.Path.{sym}
use Rattle.program.proofs.read_alarms.Goals as goal

pub returns-in_err-n : goal.returns-in_err-n
returns-in_err-n c =
    rw (handed_on _ c.from_residual.ensures.1) (alarms_bad _ _ _ (sym c.in_err-n.ensures))

pub returns-in_err-at : goal.returns-in_err-at
returns-in_err-at c =
    rw (handed_on _ c.from_residual-in_err-at.ensures.1) (alarms_stop _ _ _ (sym c.in_ok-n.ensures) (sym c.in_err-at.ensures))

pub returns-then-at-s : goal.returns-then-at-s
returns-then-at-s c =
    alarms_more _ _ _ (sym c.in_ok-n.ensures) (sym c.in_ok-at.ensures) c.if-at-s.true

pub returns : goal.returns
returns c =
    alarms_end _ _ _ (sym c.in_ok-n.ensures) (sym c.in_ok-at.ensures) c.if-at-s.false
