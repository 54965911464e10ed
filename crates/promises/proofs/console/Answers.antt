-- `promises::console` meets its contract: the laws of `Consoles`.
use Rattle.promises.proofs.Consoles.{console}
use Rattle.promises.proofs.console.Goals as goal

pub returns : goal.returns
returns c =
    console
