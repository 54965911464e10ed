use Rattle.std.proofs.Common.{ℕ, ◌≡◌, ◌+◌, ◌-◌}
use mathlib.Core.Path.{sym, subst, ◌∙◌}
use native.Mathlib.Omega.{arith}
use Rattle.filling.proofs.Puts.{put_length}
use Rattle.alarm_line.proofs.Putting.{Going, starts, goes_on, all_put, no_name}
use Rattle.alarm_line.proofs.put_names.Goals as goal

pub returns-in_default : goal.returns-in_default
returns-in_default c =
    no_name _ _ _ _ _ c.loop-i.invariant (omega arith) (sym c.read_alarm.ensures)
    c.in_default.not-Bit

pub loop-i-preserved : goal.loop-i-preserved
loop-i-preserved c =
    let e : c.args.count - c.loop-i._i - 1 ≡ c.args.count - (c.loop-i._i + 1) = omega arith in
    rw e at (goes_on _ _ _ _ _ c.loop-i.invariant (omega arith) (sym c.read_alarm.ensures ∙ c.in-Bit.is) c.put_number-q.ensures)

pub returns : goal.returns
returns c =
    all_put _ _ _ _ _ c.loop-i.invariant (omega arith)

pub loop-i-init : goal.loop-i-init
loop-i-init c =
    let e : c.args.count ≡ c.args.count - 0 = omega arith in
    let at = c.args.at in
    subst (λ (k : ℕ). Going c.args.line.now at c.args.count c.args.out.now c.args.to c.args.out.now at c.args.to k) e
    (starts c.args.line.now at c.args.count c.args.out.now c.args.to)

pub shape_of-out-in_default : goal.shape_of-out-in_default
shape_of-out-in_default c =
    put_length (returns-in_default c)

pub put_number-q-requires : goal.put_number-q-requires
put_number-q-requires c =
    let g = c.loop-i.invariant in omega (arith, g.near)

pub shape_of-out : goal.shape_of-out
shape_of-out c =
    put_length (returns c)
