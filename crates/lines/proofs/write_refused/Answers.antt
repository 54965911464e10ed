-- `lines::write_refused` meets its contract: words and numbers, one after the other.
use native.Mathlib.Omega.{arith}
use Rattle.text.specs.Text.{decimal, space}
use Rattle.text.proofs.Texts.{put_then, put_ended, put_length, put_small}
use Rattle.lines.specs.Lines.{refused_line}
use Rattle.lines.proofs.write_refused.Goals as goal

pub put_number-b-requires : goal.put_number-b-requires
put_number-b-requires c = omega (arith, c.put-a.ensures.place, put_length c.put-a.ensures)

pub put-c-requires : goal.put-c-requires
put-c-requires c =
    let word = c.put-a.ensures in
    omega (arith, word.place, put_length word, put_small _ _ c.put_number-b.ensures)

pub put_number-requires : goal.put_number-requires
put_number-requires c =
    let word = c.put-a.ensures in
    let at = c.put-c.ensures in
    omega (arith, word.place, put_length word, put_small _ _ c.put_number-b.ensures, at.place, put_length at)

pub returns : goal.returns
unfolding refused_line
returns c =
    let a = c.args in
    put_then c.put-a.ensures
    (put_ended (decimal a.n) space (rw c.from.ensures at c.put_number-b.ensures) (put_then c.put-c.ensures c.put_number.ensures))
