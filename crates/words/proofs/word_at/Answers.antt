-- `words::word_at` meets its contract: the text begins with the word from that place on.
use mathlib.Core.Path.{◌≡◌, sym, ◌∙◌}
use native.Mathlib.Omega.{arith}
use borrow.Author.Rules.{part_to_end}
use lib.ListN.{drop}
use Rattle.words.specs.Words.{word_text}
use Rattle.words.proofs.Letters.{word_filled}
use Rattle.words.proofs.Standing.{stands_first, stands_past}
use Rattle.words.proofs.word_at.Goals as goal

pub returns-in-Some : goal.returns-in-Some
returns-in-Some c =
    let a = c.args in let k = c.in-Some.ensures.lookup.0 in
    let e : c.in-Some.rest.now ≡ drop a.at a.text.now = k.2 ∙ part_to_end a.text.now a.at in
    rw (stands_first (word_text a.word) a.text.now a.at k.0, ← e, ← c.text_of.ensures) c.starts_with.ensures.value

pub returns-in-None : goal.returns-in-None
returns-in-None c =
    let a = c.args in
    sym (stands_past (word_text a.word) a.text.now a.at (omega (arith, word_filled a.word c.requires)) (omega (arith, c.in-None.ensures.lookup.0)))
