-- `formula_cases::cases`: a line takes some of what is left of the file.
use Rattle.std.proofs.Common.{length}
use Rattle.formula_cases.proofs.cases.Given as goal

abbrev pub decreases-loop-end : goal.decreases-loop-end
decreases-loop-end g l = length l.left
