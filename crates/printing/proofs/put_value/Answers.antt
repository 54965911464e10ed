-- `printing::put_value` meets its contract, by the type of the field.
use native.Mathlib.Omega.{arith}
use borrow.Author.Tests.{ne_eqb}
use Rattle.values.specs.Values.{value_text}
use Rattle.printing.proofs.put_value.Goals as goal

pub returns-in-0 : goal.returns-in-0
unfolding value_text
returns-in-0 c =
    rw c.in-0.is c.put_name.ensures

pub returns-in-1 : goal.returns-in-1
unfolding value_text
returns-in-1 c =
    rw c.in-1.is c.put_word.ensures

pub returns-in_default : goal.returns-in_default
unfolding value_text
returns-in_default c =
    rw (ne_eqb c.args.ty 0 (omega arith), ne_eqb c.args.ty 1 (omega arith), ← c.bias_of.ensures) c.put_signed.ensures
