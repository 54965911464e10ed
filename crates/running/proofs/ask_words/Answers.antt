-- `running::ask_words` meets its contract: the word references of each kind that has any, one after the other.
use Rattle.numbers.specs.Types.{word_ref, content_of}
use Rattle.kinds.specs.Kinds.{kind_of}
use Rattle.rules.specs.Rows.{contents}
use Rattle.running.proofs.Asks.{asks_two, asks_three}
use lib.ListN.{get_or}
use native.Mathlib.Omega.{arith}
use mathlib.Core.Path.{◌≡◌}
use Rattle.running.proofs.ask_words.Goals as goal

pub returns-in-9 : goal.returns-in-9
unfolding contents content_of kind_of
returns-in-9 c =
    let a = c.args in rw c.in-9.is
    (asks_two a.asked.now (word_ref (get_or a.f 2 0)) (word_ref (get_or a.f 3 0)) c.ask_word.ensures c.ask_word-in-9.ensures)

pub returns-in-10 : goal.returns-in-10
unfolding contents content_of kind_of
returns-in-10 c =
    rw c.in-10.is c.ask_word-in-10.ensures

pub returns-in-11 : goal.returns-in-11
unfolding contents content_of kind_of
returns-in-11 c =
    let a = c.args in rw c.in-11.is
    (asks_three a.asked.now (word_ref (get_or a.f 2 0)) (word_ref (get_or a.f 3 0)) (word_ref (get_or a.f 4 0))
    c.ask_word-in-11.ensures c.ask_word-in-11-2.ensures c.ask_word-in-11-3.ensures)

pub returns-in_default : goal.returns-in_default
unfolding contents content_of kind_of
returns-in_default c =
    let a = c.args in
    -- where no other kind fits, it is the last
    let r = c.in_default.in_default-own.rest in let last : a.kind ≡ 12 = omega (arith, r.1, r.0.1, r.0.0.1) in
    rw last
    (asks_three a.asked.now (word_ref (get_or a.f 1 0)) (word_ref (get_or a.f 2 0)) (word_ref (get_or a.f 3 0))
    c.ask_word-in_default.ensures c.ask_word-in_default-2.ensures c.ask_word-in_default-3.ensures)
