-- `rules::Readings::word` meets its contract: a place of the list, or a constant that fits a word.
use Rattle.terms.proofs.Words.{narrow, wide, plain, plain_fits}
use Rattle.rules.proofs.Words.{word_low, word_high, word_constant}
use mir.Facts.{to_z-of_z}
use mir.Val.{SFits}
use mir.Syntax.{w16}
use lib.ListN.{get_or}
use lib.IntN.{pos}
use native.Mathlib.Omega.{arith}
use borrow.Author.Rules.{rules}
use Rattle.rules.proofs.Readings.word.Goals as goal

pub returns-then-r-lt208 : goal.returns-then-r-lt208
returns-then-r-lt208 c =
    let f : SFits w16 (get_or c.args.self.words.now c.args.r (pos 0)) = search rules in
    rw (to_z-of_z f) (word_low _ _ c.if-r-lt208.true)

pub overflow_cast-result-else-r-lt208 : goal.overflow_cast-result-else-r-lt208
overflow_cast-result-else-r-lt208 c =
    plain_fits (omega (arith, word_constant _ c.requires c.if-r-lt208.false))

pub overflow_sub-result : goal.overflow_sub-result
overflow_sub-result c =
    let r = c.args.r in let b = word_constant r c.requires c.if-r-lt208.false in rw (plain r (omega arith)) (wide r 33768 (omega arith) (omega arith))

pub overflow_cast-result-else-r-lt208-2 : goal.overflow_cast-result-else-r-lt208-2
overflow_cast-result-else-r-lt208-2 c =
    let r = c.args.r in let b = word_constant r c.requires c.if-r-lt208.false in
    rw (plain r (omega arith), to_z-of_z (wide r 33768 (omega arith) (omega arith))) (narrow r 33768 (omega arith) (omega arith))

pub returns-else-r-lt208 : goal.returns-else-r-lt208
returns-else-r-lt208 c =
    let r = c.args.r in let b = word_constant r c.requires c.if-r-lt208.false in
    rw (plain r (omega arith), to_z-of_z (wide r 33768 (omega arith) (omega arith)), to_z-of_z (narrow r 33768 (omega arith) (omega arith)))
    (word_high _ r c.if-r-lt208.false)
