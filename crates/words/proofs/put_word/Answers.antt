-- `words::put_word` meets its contract: no word is longer than eight.
use native.Mathlib.Omega.{arith}
use lib.ListN.{length}
use mathlib.Core.Path.{ap}
use Rattle.words.proofs.Letters.{word_short}
use Rattle.words.proofs.put_word.Goals as goal

pub put-requires : goal.put-requires
put-requires c =
    omega (arith, ap length c.text_of.ensures, word_short _ c.requires.0)
