-- `printing::put_word` meets its contract, by the ranges of a word reference.
use native.Mathlib.Omega.{arith}
use borrow.Author.Tests.{lt-ltb, le-ltb}
use Rattle.numbers.specs.Types.{word_ref}
use Rattle.values.specs.Values.{word_name}
use Rattle.printing.proofs.put_word.Goals as goal

pub returns-in-0-to-7 : goal.returns-in-0-to-7
unfolding word_ref word_name
returns-in-0-to-7 c =
    rw (lt-ltb c.args.v 8 (omega arith)) c.put_numbered.ensures

pub returns-in-8-to-207 : goal.returns-in-8-to-207
unfolding word_ref word_name
returns-in-8-to-207 c =
    rw (le-ltb c.args.v 8 (omega arith), lt-ltb c.args.v 208 (omega arith)) c.put_numbered-in-8-to-207.ensures

pub returns-in_default : goal.returns-in_default
unfolding word_ref word_name
returns-in_default c =
    rw (le-ltb c.args.v 8 (omega arith), le-ltb c.args.v 208 (omega arith)) c.put_signed.ensures
