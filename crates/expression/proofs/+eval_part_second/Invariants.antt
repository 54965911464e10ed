-- The measure of `expression::eval`, `part` and `second`: the depth left, where `second` comes before `part` and `part` before `eval` at one depth.
use Rattle.std.proofs.Common.{◌+◌, ◌*◌}
use Rattle.expression.proofs.+eval_part_second.Given as goal

abbrev pub decreases-eval : goal.decreases-eval
decreases-eval l = l.depth * 3

abbrev pub decreases-part : goal.decreases-part
decreases-part l = l.depth * 3 + 1

abbrev pub decreases-second : goal.decreases-second
decreases-second l = l.depth * 3 + 2
