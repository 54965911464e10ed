use Rattle.program.specs.Trial.{all_answer}
use borrow.Author.Tests.{ne_eqb}
use native.Mathlib.Omega.{arith}
use Prim.Native.Nat.{ℕ, ◌+◌}
use mathlib.Core.Path.{refl, ap, ◌∙◌}
use lib.Dec.{eqb}
use Rattle.turns.proofs.Answering.{answered, unanswered}
use Rattle.turns.proofs.all_answer.Goals.{then-asks-wordless-eq2, else-asks-wordless-eq2}
use Rattle.turns.proofs.all_answer.Goals as goal

pub loop-i-init : goal.loop-i-init
unfolding all_answer
loop-i-init c =
    (omega arith, refl)

pub loop-i-preserved : goal.loop-i-preserved
loop-i-preserved c =
    let l = c.loop-i in let g = l.invariant in elim c.if-asks-wordless-eq2.branch [
      | then-asks-wordless-eq2 w ↦
          (omega arith, ap (λ (x : ℕ). eqb x 0) w.silent-is ∙ ne_eqb (l.silent + 1) 0 (λ z. omega arith) ∙ unanswered _ _ _ w.if-asks-wordless-eq2.true)
      | else-asks-wordless-eq2 w ↦
          (omega arith, ap (λ (x : ℕ). eqb x 0) w.silent-is ∙ g.1 ∙ answered _ _ _ w.if-asks-wordless-eq2.false)
    ]
