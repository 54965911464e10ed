-- `infix::write_expression` meets its contract: what is written of an expression that is there.
use Rattle.infix.proofs.Writing.{whole_put}
use Rattle.infix.proofs.write_expression.Goals as goal

pub returns : goal.returns
returns c =
    whole_put c.requires.0 c.write-w.ensures
