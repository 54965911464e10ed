-- `wire::number_facts` meets its contract: the facts are laws.
use Rattle.wire.proofs.Laws.{facts}
use Rattle.wire.proofs.number_facts.Goals as goal

pub returns : goal.returns
returns c =
    facts
