-- `listing_cases::sum`: both halves stay below the prime.
use Rattle.std.proofs.Common.{◌<◌}
use Rattle.listing_cases.proofs.sum.Given as goal

abbrev pub invariant-loop-byte : goal.invariant-loop-byte
invariant-loop-byte l = (l.low < 65521) × (l.high < 65521)
