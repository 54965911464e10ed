-- `nodes::pass`: a recursion on the depth left. The loop's invariant: what is left to pass over is the whole.
use Rattle.std.proofs.Common.{◌≡◌, ◌≤◌}
use Rattle.nodes.specs.Reading.{expr_at, passed}
use Rattle.nodes.proofs.+pass.Given as goal

abbrev pub decreases-pass : goal.decreases-pass
decreases-pass l = l.depth

abbrev pub invariant-loop-node : goal.invariant-loop-node
invariant-loop-node l =
    (l.levels ≤ l.depth) × (passed l.left (expr_at l.marks l.depth l.left l.s l.at) ≡ passed l.nodes (expr_at l.marks l.levels l.nodes l.s l.from))

abbrev pub decreases-loop-node : goal.decreases-loop-node
decreases-loop-node l = l.levels
