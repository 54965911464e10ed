-- `spelling::tens_of` meets its contract.
use Rattle.std.proofs.Common.{◌≡◌, refl, arith}
use Rattle.grammar.specs.Machine.{tens}
use Rattle.spelling.proofs.tens_of.Goals as goal

pub returns-in_default : goal.returns-in_default
unfolding tens
returns-in_default c = let e : c.args.k ≡ 2 = omega arith in rw e refl

pub returns-in-0 : goal.returns-in-0
unfolding tens
returns-in-0 c = rw c.in-0.is refl

pub returns-in-1 : goal.returns-in-1
unfolding tens
returns-in-1 c = rw c.in-1.is refl
