-- `storing::put_row` meets its contract: the fields are put right after the kind.
use native.Mathlib.Omega.{arith}
use Rattle.filling.proofs.Puts.{put_then}
use Rattle.storing.proofs.Bytes.{number_near}
use Rattle.storing.proofs.put_row.Goals as goal

pub put_numbers-requires : goal.put_numbers-requires
put_numbers-requires c =
    omega (arith, number_near _ c.put_number-p.ensures)

pub returns : goal.returns
returns c =
    put_then (rw c.from.ensures at c.put_number-p.ensures) c.put_numbers.ensures
