-- `listing_cases::cases`: a case takes some of what is left.
use Rattle.std.proofs.Common.{length}
use Rattle.listing_cases.proofs.cases.Given as goal

abbrev pub decreases-loop-case : goal.decreases-loop-case
decreases-loop-case g l = length l.left
