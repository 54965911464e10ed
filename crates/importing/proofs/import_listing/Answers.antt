-- `importing::import_listing` meets its contract: a bad line, or what is answered of the program.
use mathlib.Core.Path.{refl}
use Rattle.importing.specs.Imports.{bad_listing}
use Rattle.importing.proofs.Importing.{found, none_found, hands_of, answers}
use Rattle.importing.proofs.import_listing.Goals as goal

pub returns-in-Err : goal.returns-in-Err
returns-in-Err c = bad_listing _ (none_found c.in-Err.ensures) c.refuse.ensures refl

pub returns-in-Ok : goal.returns-in-Ok
returns-in-Ok c =
    let f = found c.in-Ok.ensures in
    answers f.program f.listing (hands_of f.bytes c.hand_over.ensures)

pub slice_bounds-hand_over-start : goal.slice_bounds-hand_over-start
slice_bounds-hand_over-start c = (found c.in-Ok.ensures).forward

pub slice_bounds-hand_over-end : goal.slice_bounds-hand_over-end
slice_bounds-hand_over-end c = (found c.in-Ok.ensures).within
