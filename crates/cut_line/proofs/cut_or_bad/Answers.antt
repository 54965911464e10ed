-- `cut_line::cut_or_bad` meets its contract: the laws.
use Rattle.cut_line.proofs.Cuts.{cut_line}
use Rattle.cut_line.proofs.cut_or_bad.Goals as goal

pub returns : goal.returns
returns c =
    cut_line
