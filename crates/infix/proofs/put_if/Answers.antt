-- `infix::put_if` meets its contract: a byte, or nothing.
use mathlib.Core.Path.{refl}
use native.Mathlib.Omega.{arith}
use Rattle.infix.specs.Infix.{byte_if}
use Rattle.infix.proofs.put_if.Goals as goal

pub returns-then-asked : goal.returns-then-asked
unfolding byte_if
returns-then-asked c =
    rw c.if-asked.true (record { bytes = c.put_byte.ensures; place = refl })

pub returns : goal.returns
unfolding byte_if
returns c =
    rw c.if-asked.false (record { bytes = refl; place = omega arith })
