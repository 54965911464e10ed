-- `feeding::open` meets its contract: the recording goes on to its scans, ends, or waits.
use mathlib.Core.Path.{refl, sym}
use lib.Seq.{length-take-le}
use Rattle.feeding.proofs.Opens.{waits_open, bad_open, refused_open, open_fits, plays_open}
use Rattle.feeding.proofs.open.Goals as goal

pub slice_bounds-play-end : goal.slice_bounds-play-end
slice_bounds-play-end c =
    (open_fits _ _ c.in-Ok.ensures refl c.requires.0).0

pub slice_bounds-play-end-in-Ok : goal.slice_bounds-play-end-in-Ok
slice_bounds-play-end-in-Ok c =
    sym (length-take-le _ _ (open_fits _ _ c.in-Ok.ensures refl c.requires.0).0)

pub play-requires : goal.play-requires
play-requires c =
    ((open_fits _ _ c.in-Ok.ensures refl c.requires.0).1, c.requires.1)

pub returns-in-Ok : goal.returns-in-Ok
returns-in-Ok c =
    plays_open _ _ c.in-Ok.ensures refl c.requires.0 (rw c.fresh.ensures at c.play.ensures)

pub returns-in-Err-Refused : goal.returns-in-Err-Refused
returns-in-Err-Refused c =
    let o = rw c.in-Err-Refused.field-0-is at c.in-Err-Refused.ensures in
    rw c.ended.ensures (refused_open _ _ o c.requires.1 refl c.write_refused-to.ensures)

pub returns-in-Err-Bad : goal.returns-in-Err-Bad
returns-in-Err-Bad c =
    let o = rw c.in-Err-Bad.field-0-is at c.in-Err-Bad.ensures in
    rw c.ended-in-Err-Bad.ensures (bad_open _ _ o c.requires.1 refl c.write_bad_program-to.ensures)

pub returns-in-Err-Waits : goal.returns-in-Err-Waits
returns-in-Err-Waits c =
    rw c.fresh-in-Err-Waits.ensures (waits_open _ _ (rw c.in-Err-Waits.field-0-is at c.in-Err-Waits.ensures) refl)
