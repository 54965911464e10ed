-- `reading::told_by` meets its contract, by what the reader answered.
use Rattle.std.proofs.lemmas.Result.{err_from_is_err_and}
use Rattle.reading.specs.Reading.{input_of}
use Rattle.reading.proofs.Inputs.{gives}
use Rattle.reading.proofs.told_by.Goals as goal

pub returns-in_err-n : goal.returns-in_err-n
unfolding input_of
returns-in_err-n c =
    let p = err_from_is_err_and c.from_residual.result c.from_residual.ensures.1 in
    rw (p.1, p.2, c.in_err-n.was)

pub returns-then-n-eq0 : goal.returns-then-n-eq0
unfolding input_of
returns-then-n-eq0 c =
    rw (c.in_ok-n.was, c.if-n-eq0.true)

pub returns : goal.returns
returns c =
    gives _ _ c.in_ok-n.was c.if-n-eq0.false c.min.ensures
