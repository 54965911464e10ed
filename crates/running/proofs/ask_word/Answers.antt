-- `running::ask_word` meets its contract: the block of a reference to a block's word is marked, and no other reference asks.
use Rattle.running.proofs.Asks.{asks_block, asks_none}
use native.Mathlib.Omega.{arith}
use Rattle.running.proofs.ask_word.Goals as goal

pub returns-then-r-lt8 : goal.returns-then-r-lt8
returns-then-r-lt8 c =
    asks_none _ _ (λ g h. let l = c.if-r-lt8.true in omega arith)

pub returns-then-r-lt208 : goal.returns-then-r-lt208
returns-then-r-lt208 c =
    asks_block _ _ c.if-r-lt8.false c.if-r-lt208.true

pub returns-else-r-lt208 : goal.returns-else-r-lt208
returns-else-r-lt208 c =
    asks_none _ _ (λ g h. let l = c.if-r-lt208.false in omega arith)
