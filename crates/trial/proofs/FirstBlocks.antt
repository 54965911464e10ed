-- The marks of the first n blocks. Assumes nothing.
use Prim.Native.Nat.{ℕ}
use mathlib.Core.Path.{◌≡◌, ◌∙◌}
use mathlib.Core.List.{List, ◌++◌}
use lib.ListN.{drop, replicate}
use Rattle.program.specs.Trial.{first_blocks}
use Rattle.program.proofs.Blocks.{drop_replicate}

-- made where none is there
pub from_none : (n : ℕ) {m : List ℕ} → m ≡ replicate n 2 ++ drop n (replicate 200 0) → m ≡ first_blocks n
unfolding first_blocks
from_none n e = e ∙ rw (drop_replicate {A = ℕ} n 200 0)
