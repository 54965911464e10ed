use Rattle.program.proofs.Alarms.{references_got, references_stop, references_end}
use Rattle.terms.proofs.Refusals.{handed_on}
use native.Mathlib.Omega.{arith}
use native.Mathlib.Nat.{sub-zero}
use Prim.Native.Nat.{◌+◌, ◌-◌}
use mathlib.Core.Path.{◌≡◌, ◌∙◌, sym}
use Rattle.program.proofs.read_references.Goals as goal

pub loop-init : goal.loop-init
loop-init c =
    rw sub-zero

pub returns-in_err-next : goal.returns-in_err-next
returns-in_err-next c =
    rw (handed_on _ c.from_residual.ensures.1) (sym (c.loop.invariant ∙ references_stop _ _ _ (omega arith) (sym c.in_err-next.ensures)))

pub loop-preserved : goal.loop-preserved
loop-preserved c =
    let e : c.args.n - (c.loop.counter + 1) ≡ c.args.n - c.loop.counter - 1 = omega arith in
    c.loop.invariant ∙ rw e (references_got _ _ _ (omega arith) (sym c.in_ok-next.ensures))

pub returns : goal.returns
returns c =
    sym (c.loop.invariant ∙ references_end _ _ _ (omega arith))
