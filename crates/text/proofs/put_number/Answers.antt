-- `text::put_number` meets its contract: the digits that io gives are the decimal form, and the byte goes right after them.
use Rattle.text.proofs.Texts.{put_number}
use native.Mathlib.Omega.{arith}
use Rattle.text.proofs.put_number.Goals as goal

pub returns : goal.returns
returns c =
    let d = c.decimal-k.ensures in put_number _ d.len (omega arith) d.digits c.put-next.ensures
