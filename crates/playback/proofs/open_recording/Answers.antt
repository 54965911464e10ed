-- `playback::open_recording` meets its contract: the head, the program's acceptance, and its copy.
use Prim.Native.Nat.{◌+◌, ◌-◌}
use lib.ListN.{length-take}
use mathlib.Core.Path.{◌≡◌}
use native.Mathlib.Omega.{arith}
use Rattle.std.proofs.lemmas.Result.{err_from_is_err_and}
use Rattle.recording.proofs.Heads.{head_fits}
use Rattle.playback.proofs.Openings.{opens_not, opens_refused, opens_good}
use Rattle.playback.proofs.open_recording.Goals as goal

pub overflow_add-next : goal.overflow_add-next
overflow_add-next c =
    omega (arith, head_fits _ c.in_ok-size.ensures)

pub slice_bounds-accept-end : goal.slice_bounds-accept-end
slice_bounds-accept-end c =
    omega (arith, head_fits _ c.in_ok-size.ensures)

pub returns-then-a-ne0 : goal.returns-then-a-ne0
returns-then-a-ne0 c =
    let n = c.in_ok-size.size in let at = c.in_ok-size.at in let e : at + n - at ≡ n = omega arith in
    opens_refused _ c.in_ok-size.ensures (rw e at c.accept-a.ensures) c.if-a-ne0.true

pub slice_bounds-put-end : goal.slice_bounds-put-end
slice_bounds-put-end c =
    omega (arith, head_fits _ c.in_ok-size.ensures)

pub put-requires : goal.put-requires
put-requires c =
    simp length-take (omega (arith, head_fits _ c.in_ok-size.ensures))

pub returns-in_err-size : goal.returns-in_err-size
returns-in_err-size c =
    let p = err_from_is_err_and c.from_residual.result c.from_residual.ensures.1 in
    rw (p.1, p.2) (opens_not c.args.s.now c.in_err-size.ensures)

pub returns : goal.returns
returns c =
    let n = c.in_ok-size.size in let at = c.in_ok-size.at in let e : at + n - at ≡ n = omega arith in
    opens_good _ c.in_ok-size.ensures (rw e at c.accept-a.ensures) c.if-a-ne0.false (rw e at c.put.ensures)
