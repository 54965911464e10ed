-- `known::read_known_row` meets its contract.
use mathlib.Core.Path.{ap, ◌∙◌}
use Rattle.wire.specs.Reading.{next_of}
use Rattle.block.specs.Answers.{numbers_in}
use Rattle.known.proofs.Places.{row_place}
use Rattle.known.proofs.read_known_row.Goals as goal

pub returns-in-Ok : goal.returns-in-Ok
returns-in-Ok c =
    (ap numbers_in c.in-Ok.ensures, ap next_of c.in-Ok.ensures ∙ row_place _)

pub returns-in-Err : goal.returns-in-Err
returns-in-Err c =
    (ap numbers_in c.in-Err.ensures, ap next_of c.in-Err.ensures ∙ row_place _)
