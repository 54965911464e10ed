-- `writing::read_back` meets its contract.
use Rattle.writing.proofs.Back.{back_of}
use Rattle.writing.proofs.read_back.Goals as goal

pub returns : goal.returns
returns c =
    record { back = back_of }
