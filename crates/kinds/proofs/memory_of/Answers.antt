-- `kinds::memory_of` meets its contract: the table of kinds, row by row.
use mathlib.Core.Path.{refl}
use Rattle.kinds.specs.Kinds.{kind_of}
use Rattle.terms.proofs.Table.{last}
use Rattle.kinds.proofs.memory_of.Goals as goal

pub returns-in_default : goal.returns-in_default
unfolding kind_of
returns-in_default c =
    rw (last 12 c.in_default.in_default-own.rest c.requires) refl
