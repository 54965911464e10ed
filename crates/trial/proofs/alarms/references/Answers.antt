use Rattle.trial.proofs.AlarmWord.{walk_begin, walk_on, walk_fault, walk_over, walk_end, walk_fits, light}
use Rattle.numbers.specs.Types.{bit_ref}
use Rattle.expression.specs.Expression.{bit_in}
use Rattle.numbers.proofs.Typed.{typed_below}
use native.Mathlib.Omega.{arith}
use Prim.Native.Nat.{◌+◌, ◌-◌}
use mathlib.Core.Path.{◌≡◌, sym}
use Rattle.trial.proofs.alarms.references.Goals as goal

pub loop-init : goal.loop-init
loop-init c =
    let e : c.args.n - 0 ≡ c.args.n = omega arith in rw e (walk_begin _ _ _ _ _)

pub returns-in_default : goal.returns-in_default
returns-in_default c =
    walk_fault _ _ _ _ _ c.loop.invariant (omega arith)
    (sym c.in_default.ensures)

pub weigh-word-requires : goal.weigh-word-requires
weigh-word-requires c =
    typed_below _ _ _ _ _ (sym c.in-Ok.ensures)

pub overflow_add-word : goal.overflow_add-word
overflow_add-word c =
    let l = c.loop in let h = light (bit_in c.args.bits.now (bit_ref c.in-Ok.v)) l.word l.weight l.invariant.low in
    omega (arith, h, c.weigh-word.ensures, walk_fits _ _ _ _ _ l.invariant c.requires)

pub overflow_mul-weight : goal.overflow_mul-weight
overflow_mul-weight c =
    omega (arith, walk_fits _ _ _ _ _ c.loop.invariant c.requires)

pub loop-preserved : goal.loop-preserved
loop-preserved c =
    let l = c.loop in
    let e : c.args.n - (l.counter + 1) ≡ c.args.n - l.counter - 1 = omega arith in
    rw (c.weigh-word.ensures, e)
    (walk_on _ _ _ _ _ l.invariant (omega arith)
    (sym c.in-Ok.ensures))

pub returns-then-at-s : goal.returns-then-at-s
returns-then-at-s c =
    walk_over _ _ _ _ _ c.loop.invariant (omega arith) c.if-at-s.true

pub returns : goal.returns
returns c =
    walk_end _ _ _ _ _ c.loop.invariant (omega arith) c.if-at-s.false
