-- `expression::eval`: an operator of two parts, what is left to it, and that the steps are few.
use Rattle.expression.proofs.Laws.{steps_few, value_two}
use Rattle.expression.specs.Expression.{bit_in}
use Rattle.nodes.specs.Reading.{expr_at}
use Rattle.nodes.proofs.Expressions.{sound, step}
use Rattle.std.proofs.Common.{◌-◌, sym, arith}
use Rattle.expression.proofs.+eval_part_second.Goals as goal

pub eval-overflow_add-result : goal.eval-overflow_add-result
eval-overflow_add-result t c = omega (arith, steps_few _ _ _ _ _ _ (sym c.in_ok-a-in-One.ensures))

pub eval-overflow_sub-depth-in-Two-2 : goal.eval-overflow_sub-depth-in-Two-2
eval-overflow_sub-depth-in-Two-2 t c = omega (arith, sound _ _ _ _ _ (rw c.in-Two.is at (sym c.in_ok-node.ensures)))

pub eval-second-requires : goal.eval-second-requires
eval-second-requires t c = (
  omega (arith, sound _ _ _ _ _ (rw c.in-Two.is at (sym c.in_ok-node.ensures))),
  omega (arith, steps_few _ _ _ _ _ _ (sym c.in_ok-a-in-Two.ensures)),
)

pub eval-returns-in_ok-a-in-Two : goal.eval-returns-in_ok-a-in-Two
eval-returns-in_ok-a-in-Two t c =
    let a = c.args in
    rw (
      step,
      rw c.in-Two.is at (sym c.in_ok-node.ensures),
      value_two (bit_in a.bits.now) a.left c.in-Two.op _ (λ l n. expr_at a.marks.now (a.depth - 1) l a.s.now n)
          (sym c.in_ok-a-in-Two.ensures),
    ) c.second.ensures
