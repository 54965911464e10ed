-- `names::put_name` meets its contract, by the ranges of a bit reference.
use native.Mathlib.Omega.{arith}
use Rattle.names.proofs.Names.{name_steady, name_input, name_output}
use Rattle.names.proofs.put_name.Goals as goal

pub returns-in-0 : goal.returns-in-0
returns-in-0 c =
    rw (name_steady c.args.r (omega arith), c.in-0.is) c.put.ensures

pub returns-in-1 : goal.returns-in-1
returns-in-1 c =
    rw (name_steady c.args.r (omega arith), c.in-1.is) c.put-in-1.ensures

pub returns-in-2-to-33 : goal.returns-in-2-to-33
returns-in-2-to-33 c =
    rw (name_input c.args.r (omega arith) (omega arith)) c.put_numbered.ensures

pub returns-in_default : goal.returns-in_default
returns-in_default c =
    rw (name_output c.args.r (omega arith)) c.put_numbered-in_default.ensures
