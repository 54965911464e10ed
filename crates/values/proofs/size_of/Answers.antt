-- `values::size_of` meets its contract: a power of ten has one digit more than the last.
use native.Mathlib.Omega.{arith}
use Rattle.values.proofs.Runs.{size_one, size_more}
use Rattle.values.proofs.size_of.Goals as goal

pub returns-in-0-to-9 : goal.returns-in-0-to-9
returns-in-0-to-9 c = size_one 19 _ (omega arith)

pub returns-in-10-to-99 : goal.returns-in-10-to-99
returns-in-10-to-99 c = size_more 1 18 _ (omega arith) (omega arith)

pub returns-in-100-to-999 : goal.returns-in-100-to-999
returns-in-100-to-999 c = size_more 2 17 _ (omega arith) (omega arith)

pub returns-in-1000-to-9999 : goal.returns-in-1000-to-9999
returns-in-1000-to-9999 c = size_more 3 16 _ (omega arith) (omega arith)

pub returns-in-10000-to-99999 : goal.returns-in-10000-to-99999
returns-in-10000-to-99999 c = size_more 4 15 _ (omega arith) (omega arith)

pub returns-in_default : goal.returns-in_default
returns-in_default c = size_more 5 14 _ (omega arith) (omega arith)
