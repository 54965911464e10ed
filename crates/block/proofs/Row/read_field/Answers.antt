-- `block::Row::read_field` meets its contract: the number after the one before it.
use Rattle.block.proofs.Rows.{before_place, more_fault, more_got}
use Rattle.block.proofs.Row.read_field.Goals.{then-i-eq0, else-i-eq0}
use Rattle.terms.proofs.Refusals.{handed_on}
use mathlib.Core.Path.{refl, ◌∙◌, sym}
use Rattle.block.proofs.Row.read_field.Goals as goal

pub returns-in_err-v : goal.returns-in_err-v
returns-in_err-v c =
    rw (handed_on _ c.from_residual.ensures.1)
    (more_fault _ _ _ _ _
    (elim c.if-i-eq0.branch [ then-i-eq0 w ↦ w.before-is ∙ rw w.if-i-eq0.true refl | else-i-eq0 w ↦ w.before-is ∙ before_place _ _ w.if-i-eq0.false ])
    (sym c.in_err-v.ensures))

pub returns : goal.returns
returns c =
    more_got _ _ _ _ _
    (elim c.if-i-eq0.branch [ then-i-eq0 w ↦ w.before-is ∙ rw w.if-i-eq0.true refl | else-i-eq0 w ↦ w.before-is ∙ before_place _ _ w.if-i-eq0.false ])
    (sym c.in_ok-v.ensures)
