use Rattle.std.proofs.Common.{◌<◌, length, refl, sym, ◌∙◌, arith}
use Rattle.grammar.proofs.From.{there}
use Rattle.spelling.proofs.Spaces.{no_space, one_space}
use Rattle.spelling.proofs.skip_spaces.Goals as goal

-- a space that is read stands within the text
inside : (c : goal.In-loop-p) → c.loop-p.p < length c.args.text.now
inside c = there _ _ 32 (omega arith) (sym c.byte_at.ensures ∙ c.loop-p-test.true)

pub loop-p-init : goal.loop-p-init
loop-p-init c = refl

pub overflow_add-p : goal.overflow_add-p
overflow_add-p c = omega (arith, inside c)

pub loop-p-smaller : goal.loop-p-smaller
loop-p-smaller c = omega (arith, inside c)

pub loop-p-preserved : goal.loop-p-preserved
loop-p-preserved c = sym (one_space _ _ (inside c) (sym c.byte_at.ensures ∙ c.loop-p-test.true)) ∙ c.loop-p.invariant

pub returns : goal.returns
returns c = sym (no_space _ _ (λ e. c.loop-p-test.false (c.byte_at.ensures ∙ e))) ∙ c.loop-p.invariant
