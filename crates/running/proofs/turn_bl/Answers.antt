-- `running::turn_bl` meets its contract: the expression's value, steps and nodes.
use Rattle.running.proofs.Turning.{bl_done, bl_broken, bl_left}
use Rattle.kinds.proofs.KindTable.{memory_light}
use Rattle.terms.proofs.Refusals.{handed_on}
use native.Mathlib.Omega.{arith}
use mathlib.Core.Path.{sym}
use Rattle.running.proofs.turn_bl.Goals as goal

pub returns-in_err-v : goal.returns-in_err-v
returns-in_err-v c =
    λ g e. rw (handed_on _ c.from_residual.ensures.1) (bl_broken _ _ _ _ g e _ (sym c.in_err-v.ensures))

pub overflow_sub-result : goal.overflow_sub-result
overflow_sub-result c =
    omega (arith, bl_left _ _ _ _ (sym c.in_ok-v.ensures))

pub overflow_add-result : goal.overflow_add-result
overflow_add-result c =
    omega (arith, c.memory_of.ensures, memory_light 0 (omega arith), bl_left _ _ _ _ (sym c.in_ok-v.ensures))

pub returns : goal.returns
returns c =
    λ g e. rw (c.bl.ensures, c.memory_of.ensures, c.mark_of.ensures)
    (bl_done _ _ _ _ g e _ (sym c.in_ok-v.ensures))
