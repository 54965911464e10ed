-- `printing::put_signed` meets its contract.
use native.Mathlib.Omega.{arith}
use borrow.Author.Tests.{lt-ltb, le-ltb}
use Rattle.filling.proofs.Puts.{put_behind}
use Rattle.values.specs.Values.{signed}
use Rattle.printing.proofs.put_signed.Goals as goal

pub returns-then-v-bias : goal.returns-then-v-bias
unfolding signed
returns-then-v-bias c =
    let given = c.args in rw (lt-ltb given.v given.bias (omega arith)) (put_behind c.put_byte.ensures c.put_decimal.ensures)

pub returns : goal.returns
unfolding signed
returns c =
    rw (le-ltb _ _ c.if-v-bias.false) c.put_decimal-2.ensures
