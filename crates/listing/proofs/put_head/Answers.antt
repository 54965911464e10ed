-- `listing::put_head` meets its contract.
use Rattle.filling.proofs.Puts.{put_then, put_behind}
use Rattle.shown.specs.Show.{name_of}
use Rattle.listing.proofs.put_head.Goals as goal

pub returns : goal.returns
unfolding name_of
returns c =
    put_then (rw c.from.ensures at c.put_numbered-numbered.ensures) (put_behind c.put_byte.ensures c.put_word.ensures)
