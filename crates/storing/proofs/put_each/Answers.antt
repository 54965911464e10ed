use Prim.Native.Nat.{◌+◌}
use mathlib.Core.Path.{◌≡◌}
use mathlib.Core.List.{[], ◌∷◌, ◌++◌}
use native.Mathlib.Omega.{arith}
use lib.ListN.{take}
use Rattle.std.proofs.lemmas.List.{take_more, take_all}
use Rattle.storing.proofs.Bytes.{number_near}
use Rattle.storing.proofs.Walk.{each_none, each_then}
use Rattle.storing.proofs.put_each.Goals as goal

pub loop-value-init : goal.loop-value-init
loop-value-init g c =
    (omega arith, each_none _ _ _)

pub put_number-p-requires : goal.put_number-p-requires
put_number-p-requires g c =
    omega (arith, c.loop-value.invariant.0)

pub loop-value-preserved : goal.loop-value-preserved
loop-value-preserved g c =
    let l = c.loop-value in let vs = c.args.values.now in let x = c.value-item.result in
    let e : take (l.value-index + 1) vs ≡ take l.value-index vs ++ (x ∷ []) = rw (← c.value-item.is) at (take_more vs l.value-index x c.loop-value-test.true) in (
      omega (arith, l.invariant.0, number_near _ c.put_number-p.ensures),
      rw e (each_then _ x c.number_of.result l.invariant.1 c.number_of.ensures c.put_number-p.ensures),
    )

pub returns : goal.returns
returns g c =
    let l = c.loop-value in
    rw (take_all l.value-index c.args.values.now (omega arith)) at l.invariant.1
