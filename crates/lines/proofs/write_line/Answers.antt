-- `lines::write_line` meets its contract: four numbers, each ended by its byte, one after the other.
use native.Mathlib.Omega.{arith}
use Rattle.text.specs.Text.{decimal, space}
use Rattle.text.proofs.Texts.{put_ended, put_small}
use Rattle.lines.specs.Lines.{line_with}
use Rattle.lines.proofs.write_line.Goals as goal

pub put_number-b-requires : goal.put_number-b-requires
put_number-b-requires c =
    omega (arith, put_small _ _ c.put_number-a.ensures)

pub put_number-c-requires : goal.put_number-c-requires
put_number-c-requires c =
    omega (arith, put_small _ _ c.put_number-a.ensures, put_small _ _ c.put_number-b.ensures)

pub put_number-requires : goal.put_number-requires
put_number-requires c =
    let two = put_small _ _ c.put_number-b.ensures in
    omega (arith, put_small _ _ c.put_number-a.ensures, two, put_small _ _ c.put_number-c.ensures)

pub returns : goal.returns
unfolding line_with
returns c =
    let a = c.args in put_ended (decimal a.time) space c.put_number-a.ensures
    (put_ended (decimal a.steps) space (rw c.from.ensures at c.put_number-b.ensures)
    (put_ended (decimal a.held) space c.put_number-c.ensures c.put_number.ensures))
