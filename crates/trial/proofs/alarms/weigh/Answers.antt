-- `trial::alarms::weigh` meets its contract: the number of a bit reference is its place in the list.
use Rattle.numbers.proofs.References.{bit_code_lem}
use Rattle.trial.proofs.alarms.weigh.Goals as goal

pub returns-then-bits-k : goal.returns-then-bits-k
returns-then-bits-k c =
    rw (bit_code_lem, c.if-bits-k.true)

pub returns-else-bits-k : goal.returns-else-bits-k
returns-else-bits-k c =
    rw (bit_code_lem, c.if-bits-k.false)
