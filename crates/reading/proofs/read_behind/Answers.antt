-- `reading::read_behind` meets its contract: a read behind what is kept does not reach it.
use Rattle.std.proofs.Common.{◌≤◌, length, arith}
use Rattle.reading.proofs.Inputs.{inside, front_stays, fits_behind}
use Rattle.reading.proofs.read_behind.Goals as goal

pub returns : goal.returns
returns g c =
    let a = c.args in
    let kept : a.kept ≤ length a.buf.now = omega arith in
    (front_stays a.kept a.buf.now _ kept, inside _ _ a.kept _ c.told_by.ensures (fits_behind a.kept a.buf.now _ kept))
