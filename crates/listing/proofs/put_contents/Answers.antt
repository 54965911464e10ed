-- `listing::put_contents` meets its contract: the expression of a BL, or the numbers of a row.
use native.Mathlib.Omega.{arith}
use Rattle.filling.proofs.Puts.{put_behind}
use Rattle.listing.proofs.Rows.{formula_there, formula_text, codes_text_lem}
use Rattle.listing.proofs.put_contents.Goals as goal

pub write_expression-requires : goal.write_expression-requires
write_expression-requires c =
    (formula_there _ _ _ c.if-kind-eq0.true c.requires.0.read, omega arith)

pub returns-then-kind-eq0 : goal.returns-then-kind-eq0
returns-then-kind-eq0 c =
    rw (← (formula_text c.args.marks.now c.args.s.now c.args.at c.if-kind-eq0.true c.requires.0.read))
    (put_behind c.put_byte.ensures c.write_expression.ensures)

pub returns : goal.returns
returns c =
    rw (← (codes_text_lem c.args.marks.now c.args.s.now c.args.at (omega (arith, c.if-kind-eq0.false)) c.requires.0)) c.put_fields.ensures
