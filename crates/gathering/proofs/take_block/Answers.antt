-- `gathering::take_block` meets its contract: there is no block 200.
use mathlib.Core.Path.{refl}
use native.Mathlib.Omega.{arith}
use Rattle.taking.specs.Taking.{not_taken}
use Rattle.gathering.proofs.Gathers.{number_small}
use Rattle.gathering.proofs.take_block.Goals as goal

pub returns-then-i-ge-MOST_BLOCKS : goal.returns-then-i-ge-MOST_BLOCKS
returns-then-i-ge-MOST_BLOCKS c =
    not_taken (λ b x. omega (arith, number_small x)) refl
