-- `kinds::mark_of` meets its contract, by its test.
use Rattle.kinds.specs.Kinds.{mark_for}
use mathlib.Core.Path.{◌∙◌, sym}
use Rattle.kinds.proofs.mark_of.Goals as goal

pub returns-then-has_word : goal.returns-then-has_word
unfolding mark_for
returns-then-has_word c =
    rw (sym c.has_word.ensures ∙ c.if-has_word.true)

pub returns-else-has_word : goal.returns-else-has_word
unfolding mark_for
returns-else-has_word c =
    rw (sym c.has_word.ensures ∙ c.if-has_word.false)
