use native.Mathlib.Nat.{sub-zero}
use Rattle.program.proofs.Blocks.{blocks_got, blocks_stop, blocks_end}
use Rattle.program.specs.Answers.{blocks_read}
use Rattle.block.proofs.Weights.{block_light}
use Rattle.terms.proofs.Refusals.{handed_on}
use native.Mathlib.Omega.{arith}
use mathlib.Core.Path.{◌∙◌, sym}
use Rattle.program.proofs.read_blocks.Goals as goal

pub loop-i-init : goal.loop-i-init
unfolding blocks_read
loop-i-init c =
    record { memory_few = omega arith; steps_few = omega arith; left = rw sub-zero }

pub returns-in_err-b : goal.returns-in_err-b
returns-in_err-b c =
    rw (handed_on _ c.from_residual.ensures.1) (sym (c.loop-i.invariant.left ∙ blocks_stop _ _ _ _ _ _ _ (omega arith) (sym c.in_err-b.ensures)))

pub overflow_add-memory : goal.overflow_add-memory
overflow_add-memory c =
    omega (arith, c.loop-i.invariant.memory_few, block_light _ _ _ (sym c.in_ok-b.ensures))

pub overflow_add-steps : goal.overflow_add-steps
overflow_add-steps c =
    omega (arith, c.loop-i.invariant.steps_few, block_light _ _ _ (sym c.in_ok-b.ensures))

pub loop-i-preserved : goal.loop-i-preserved
loop-i-preserved c =
    let l = block_light _ _ _ (sym c.in_ok-b.ensures) in record {
      memory_few = omega (arith, c.loop-i.invariant.memory_few, l);
      steps_few = omega (arith, c.loop-i.invariant.steps_few, l);
      left = c.loop-i.invariant.left ∙ blocks_got _ _ _ _ _ _ _ (omega arith) (sym c.in_ok-b.ensures);
    }

pub returns : goal.returns
returns c =
    sym (c.loop-i.invariant.left ∙ blocks_end _ _ _ _ _ _ _ (omega arith))
