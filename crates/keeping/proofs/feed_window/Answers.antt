-- `keeping::feed_window` meets its contract: what is left is moved down.
use mathlib.Core.Path.{sym}
use lib.Seq.{length-take-le}
use Rattle.keeping.proofs.Keeps.{roomy_front, used_few, kept_so}
use Rattle.keeping.proofs.feed_window.Goals as goal

pub slice_bounds-feed-end-2 : goal.slice_bounds-feed-end-2
slice_bounds-feed-end-2 c =
    sym (length-take-le _ _ c.requires.0)

pub feed-f-requires : goal.feed-f-requires
feed-f-requires c =
    (c.requires.1.0, (c.requires.1.1.0, roomy_front c.args.end c.args.buf.now c.args.text.now c.requires.0 c.requires.1.1.1))

pub move_down-kept-requires : goal.move_down-kept-requires
move_down-kept-requires c =
    (used_few c.args.player c.args.end c.args.buf.now c.args.program.now c.requires.0 c.feed-f.ensures, c.requires.0)

pub returns : goal.returns
returns c =
    kept_so c.args.player c.args.end c.args.buf.now c.args.program.now c.requires.0 c.feed-f.ensures c.requires.1.0 c.requires.1.1.0
    c.feed-f.auto.program c.move_down-kept.ensures.0 c.move_down-kept.ensures.1
