-- `playback::next_scan` meets its contract: a scan that is refused, or one that is run.
use borrow.Author.Tests.{eq-eqb, ne_eqb}
use Rattle.recording.specs.Recording.{scan_at}
use Rattle.recording.proofs.Parts.{scan_is}
use Rattle.playback.specs.Playback.{turn_by}
use Rattle.playback.proofs.next_scan.Goals as goal

pub returns-then-a-ne0 : goal.returns-then-a-ne0
unfolding turn_by
returns-then-a-ne0 c =
    rw (scan_is (scan_at c.args.s.now c.args.at) c.in_ok-r.ensures, ← c.scan-a.ensures.value, ne_eqb _ 0 c.if-a-ne0.true)

pub returns : goal.returns
unfolding turn_by
returns c =
    rw (scan_is (scan_at c.args.s.now c.args.at) c.in_ok-r.ensures, ← c.scan-a.ensures.value, eq-eqb _ 0 c.if-a-ne0.false)
