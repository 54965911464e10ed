-- `rules::Readings::bit` meets its contract: the number of a bit reference is its place in the list.
use Rattle.numbers.proofs.References.{bit_code_lem}
use Rattle.rules.proofs.Readings.bit.Goals as goal

pub returns : goal.returns
returns c =
    rw bit_code_lem
