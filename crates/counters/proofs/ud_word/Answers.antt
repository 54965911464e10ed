-- `counters::ud_word` meets its contract: a sum or a difference that saturates is held to the word range.
use mathlib.Core.Path.{sym}
use mir.Facts.{to_z-of_z}
use mir.Val.{SFits}
use mir.Syntax.{w16}
use borrow.Author.Rules.{rules}
use Rattle.counters.specs.Counters.{ud_word}
use Rattle.counters.proofs.Holding.{saturated}
use Rattle.counters.proofs.ud_word.Goals as goal

pub returns-in-true-false : goal.returns-in-true-false
unfolding ud_word
returns-in-true-false c =
    let f : SFits w16 c.args.p.word = search rules in
    let r : SFits w16 c.saturating_add.result = record { sfits = c.saturating_add.type_inv } in
    rw (to_z-of_z r, c.if-c.false, c.if-set.false, sym c.in-true-false.ensures, sym c.in-true-false.ensures', c.saturating_add.ensures, to_z-of_z f) (saturated _)

pub returns-in-false-true : goal.returns-in-false-true
unfolding ud_word
returns-in-false-true c =
    let f : SFits w16 c.args.p.word = search rules in
    let r : SFits w16 c.saturating_sub.result = record { sfits = c.saturating_sub.type_inv } in
    rw (to_z-of_z r, c.if-c.false, c.if-set.false, sym c.in-false-true.ensures, sym c.in-false-true.ensures', c.saturating_sub.ensures, to_z-of_z f) (saturated _)
