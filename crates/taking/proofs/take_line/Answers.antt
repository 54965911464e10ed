-- `taking::take_line` meets its contract: what rests behind the head says what the line says.
use native.Mathlib.Omega.{arith}
use Rattle.taking.proofs.Lines.{no_head_taken, rest_known, line_taken}
use Rattle.taking.proofs.take_line.Goals as goal

pub returns-in_err-kind : goal.returns-in_err-kind
returns-in_err-kind c = rw c.from_residual.ensures (no_head_taken _ _ c.in_err-kind.ensures)

pub take_row-requires : goal.take_row-requires
take_row-requires c =
    let k = rest_known c.args.i c.args.line.now c.requires.0 _ _ c.in_ok-kind.ensures in
    record { at_in_bounds = (k.1, (omega (arith, c.if-kind-eq0.false), k.0)); to_bound = c.requires.1 }

pub returns-then-kind-eq0 : goal.returns-then-kind-eq0
returns-then-kind-eq0 c =
    line_taken c.args.i c.args.line.now c.requires.0 _ _ c.in_ok-kind.ensures (rw c.if-kind-eq0.true c.take_formula.ensures)

pub returns-else-kind-eq0 : goal.returns-else-kind-eq0
returns-else-kind-eq0 c = line_taken c.args.i c.args.line.now c.requires.0 _ _ c.in_ok-kind.ensures c.take_row.ensures
