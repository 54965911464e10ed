-- `taking::put_tree` meets its contract: the nodes are put right after the kind.
use native.Mathlib.Omega.{arith}
use Rattle.filling.proofs.Puts.{put_then}
use Rattle.storing.proofs.Bytes.{number_near}
use Rattle.taking.proofs.put_tree.Goals as goal

pub put_nodes-requires : goal.put_nodes-requires
put_nodes-requires c =
    omega (arith, number_near _ c.put_number-p.ensures)

pub returns : goal.returns
returns c =
    put_then c.put_number-p.ensures c.put_nodes.ensures
