-- `kinds::has_word` meets its contract: the table of kinds, where only three have a word.
use Rattle.kinds.specs.Kinds.{kind_of}
use Rattle.kinds.proofs.KindTable.{wordless}
use Rattle.kinds.proofs.has_word.Goals as goal

pub returns-in_default : goal.returns-in_default
unfolding kind_of
returns-in_default c =
    wordless _ c.requires c.in_default.in_default-own.rest.0.0.1 c.in_default.in_default-own.rest.0.1 c.in_default.in_default-own.rest.1
