-- `windows::any_windows` meets its contract: the law.
use Rattle.windows.proofs.Feeds.{windows}
use Rattle.windows.proofs.any_windows.Goals as goal

pub returns : goal.returns
returns c =
    windows
