-- `text::put` meets its contract: a part of the buffer that became the text is the text put there.
use Rattle.std.proofs.Common.{refl, arith}
use Rattle.text.proofs.Texts.{put_part}
use Rattle.text.proofs.put.Goals as goal

pub returns : goal.returns
returns c =
    record { bytes = put_part c.args.text.now c.args.out.now c.args.at (omega arith) c.copy_from_slice.ensures.after; place = refl }
