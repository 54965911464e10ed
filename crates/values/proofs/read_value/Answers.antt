-- `values::read_value` meets its contract.
use native.Mathlib.Omega.{arith}
use Rattle.values.proofs.Ranges.{bias_below}
use Rattle.values.proofs.read_value.Goals as goal

pub overflow_sub-limit_of-in_default : goal.overflow_sub-limit_of-in_default
overflow_sub-limit_of-in_default c = omega (arith, bias_below c.args.ty c.requires.1)
