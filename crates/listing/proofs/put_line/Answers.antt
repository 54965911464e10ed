-- `listing::put_line` meets its contract: kind and row are read, and the line is put from its beginning, its fields and its end.
use mathlib.Core.Path.{◌∙◌}
use native.Mathlib.Omega.{arith}
use Rattle.numbers.specs.Blocks.{output}
use Rattle.words.specs.Words.{letters_of}
use Rattle.listing.proofs.Lengths.{head_short}
use Rattle.listing.proofs.Rows.{row_short}
use Rattle.listing.proofs.Blocks.{kind_there, kind_known, row_there, next_same, line_put}
use Rattle.listing.proofs.put_line.Goals as goal

pub read_known-k-requires : goal.read_known-k-requires
read_known-k-requires c =
    (omega arith, kind_there _ _ _ c.requires.0)

pub overflow_cast-kind : goal.overflow_cast-kind
overflow_cast-kind c =
    omega (arith, kind_known _ _ _ c.read_known-k.ensures)

pub read_known_row-row-requires : goal.read_known_row-row-requires
read_known_row-row-requires c =
    kind_known _ _ _ c.read_known-k.ensures

pub put_head-from-requires : goal.put_head-from-requires
put_head-from-requires c =
    (kind_known _ _ _ c.read_known-k.ensures, omega arith)

pub put_contents-end-requires : goal.put_contents-end-requires
put_contents-end-requires c =
    let known = kind_known _ _ _ c.read_known-k.ensures in (
      record { known = known; read = row_there _ _ _ c.read_known-k.ensures c.requires.0; numbers = c.read_known_row-row.ensures.0 },
      omega (arith, c.put_head-from.ensures.place, head_short (output c.args.i) (letters_of c.read_known-k.result.number)),
    )

pub overflow_add-result : goal.overflow_add-result
overflow_add-result c =
    omega (
      arith,
      c.put_head-from.ensures.place,
      head_short (output c.args.i) (letters_of c.read_known-k.result.number),
      c.put_contents-end.ensures.place,
      row_short c.args.marks.now c.args.s.now c.read_known-k.result.next (kind_known _ _ _ c.read_known-k.ensures),
    )

pub returns : goal.returns
returns c =
    let e = c.read_known-k.ensures in record {
      text = line_put _ _ _ e c.args.i c.requires.0 c.put_head-from.ensures c.put_contents-end.ensures c.put_byte.ensures;
      place = c.read_known_row-row.ensures.1 ∙ next_same _ _ _ e;
    }
