-- `storing::put_nodes` meets its contract: all nodes are given, and each is put as it is.
use Rattle.std.proofs.Common.{rules}
use Rattle.std.proofs.lemmas.List.{take_all}
use Rattle.storing.proofs.Walk.{put_same}
use Rattle.storing.proofs.put_nodes.Goals as goal

pub returns : goal.returns
returns c =
    put_same (λ x n k. search rules) c.put_each.ensures (search (rules, take_all))
