-- `parsing::list_nodes` meets its contract.
use Rattle.std.proofs.lemmas.Result.{err_from_is_err_and}
use Rattle.parsing.proofs.Wholes.{lists_bad, lists_more, lists_all}
use Rattle.parsing.proofs.list_nodes.Goals as goal

pub returns-in_err-whole : goal.returns-in_err-whole
returns-in_err-whole c =
    let p = err_from_is_err_and c.from_residual.result c.from_residual.ensures.1 in
    rw (p.1, p.2) (lists_bad c.args.text.now c.in_err-whole.ensures)

pub returns-then-whole-text : goal.returns-then-whole-text
returns-then-whole-text c = lists_more c.args.text.now c.in_ok-whole.ensures c.if-whole-text.true

pub returns : goal.returns
returns c = lists_all c.args.text.now c.in_ok-whole.ensures c.if-whole-text.false
