-- `fields::put_named` meets its contract: a space, a word, a sign and a value, one after the other.
use native.Mathlib.Omega.{arith}
use Rattle.filling.proofs.Puts.{put_then, put_behind}
use Rattle.words.proofs.Letters.{word_short}
use Rattle.fields.proofs.put_named.Goals as goal

pub overflow_add-named : goal.overflow_add-named
overflow_add-named c =
    omega (arith, c.put_word-named.ensures.place, word_short _ c.requires.0)

pub put_value-requires : goal.put_value-requires
put_value-requires c =
    omega (arith, c.put_word-named.ensures.place, word_short _ c.requires.0)

pub returns : goal.returns
returns c =
    put_behind c.put_byte.ensures (put_then c.put_word-named.ensures (put_behind c.put_byte-2.ensures c.put_value.ensures))
