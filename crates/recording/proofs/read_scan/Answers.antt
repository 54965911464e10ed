-- `recording::read_scan` meets its contract: the numbers are a scan's, in their order, or are not all there.
use Rattle.std.proofs.lemmas.Result.{err_from_is_err_and}
use Rattle.recording.specs.Recording.{shorts_at, scan_at}
use Rattle.recording.proofs.Shorts.{scan_from, no_scan_at}
use Rattle.recording.proofs.read_scan.Goals as goal

pub returns : goal.returns
unfolding scan_at
returns c =
    scan_from (shorts_at 11 c.args.s.now c.args.at) c.in_ok-values.ensures (rw (c.from.ensures, c.from-2.ensures)) c.words_of.ensures

pub returns-in_err-values : goal.returns-in_err-values
returns-in_err-values c =
    let p = err_from_is_err_and c.from_residual.result c.from_residual.ensures.1 in
    rw (p.1, p.2) (no_scan_at c.args.s.now c.args.at c.in_err-values.ensures)
