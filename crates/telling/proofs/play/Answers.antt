use mathlib.Core.Path.{refl, ◌∙◌}
use native.Mathlib.Omega.{arith}
use Rattle.text.proofs.Texts.{put_length}
use Rattle.telling.proofs.Turns.{starts, goes_on, falls, waits_on, fails_so, refuses_so}
use Rattle.telling.proofs.play.Goals as goal

pub loop-a-init : goal.loop-a-init
loop-a-init c =
    (refl, starts _ _ _ _ _ c.requires.0)

pub put_scan-to-requires : goal.put_scan-to-requires
put_scan-to-requires c =
    let g = c.loop-a.invariant.1 in omega (arith, c.loop-a.invariant.0, g.room, g.within, c.requires.1)

pub loop-a-smaller : goal.loop-a-smaller
loop-a-smaller c =
    let f = falls _ _ _ _ c.loop-a.invariant.1 c.in-Ok.ensures in
    omega (arith, f.0, f.1)

pub loop-a-preserved : goal.loop-a-preserved
loop-a-preserved c =
    let g = c.loop-a.invariant in (put_length c.put_scan-to.ensures ∙ g.0, goes_on _ _ _ _ g.1 c.in-Ok.ensures c.put_scan-to.ensures)

pub returns-in-Err-Refused : goal.returns-in-Err-Refused
returns-in-Err-Refused c =
    let t = rw c.in-Err-Refused.field-0-is at c.in-Err-Refused.ensures in
    rw c.ended.ensures (refuses_so _ _ _ _ c.loop-a.invariant.1 c.requires.1 t c.write_refused-end.ensures)

pub returns-in-Err-Bad : goal.returns-in-Err-Bad
returns-in-Err-Bad c =
    let t = rw c.in-Err-Bad.field-0-is at c.in-Err-Bad.ensures in
    rw c.ended-in-Err-Bad.ensures (fails_so _ _ _ _ c.loop-a.invariant.1 c.requires.1 t c.write_bad_scan-end.ensures)

pub returns-in-Err-Waits : goal.returns-in-Err-Waits
returns-in-Err-Waits c =
    let t = rw c.in-Err-Waits.field-0-is at c.in-Err-Waits.ensures in
    waits_on _ _ _ _ c.loop-a.invariant.1 c.requires.1 t
