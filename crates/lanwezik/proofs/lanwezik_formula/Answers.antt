-- `lanwezik::lanwezik_formula` meets its contract: the same numbers in wider fields.
use Rattle.lanwezik.specs.Answers.{formulas}
use Rattle.lanwezik.proofs.lanwezik_formula.Goals as goal

pub returns : goal.returns
returns c =
    rw c.into.ensures (formulas _ c.read_formula.ensures)
