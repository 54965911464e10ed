-- `formula_cases::text_of`: each of the bytes takes some of what is left of the line.
use Rattle.std.proofs.Common.{length}
use Rattle.formula_cases.proofs.text_of.Given as goal

abbrev pub decreases-loop-byte : goal.decreases-loop-byte
decreases-loop-byte l = length l.left
