-- `trial::alarms::alarms` meets its contract: the count, and then the references.
use Rattle.trial.proofs.AlarmWord.{counted, uncounted}
use Rattle.numbers.proofs.Typed.{typed_below}
use native.Mathlib.Omega.{arith}
use mathlib.Core.Path.{◌∙◌, sym}
use Rattle.trial.proofs.alarms.alarms.Goals as goal

pub references-requires : goal.references-requires
references-requires c =
    omega (arith, typed_below _ _ _ _ _ (sym c.in-Ok.ensures))

pub returns-in_default : goal.returns-in_default
returns-in_default c =
    uncounted _ _ _ _ (sym c.in_default.ensures)

pub returns : goal.returns
returns c =
    c.references.ensures ∙ counted _ _ _ _ (sym c.in-Ok.ensures)
