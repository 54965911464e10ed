-- `infix::write`: a recursion on the depth left.
use Rattle.infix.proofs.+write.Given as goal

abbrev pub decreases-write : goal.decreases-write
decreases-write l = l.depth
