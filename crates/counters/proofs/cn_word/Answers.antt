-- `counters::cn_word` meets its contract: a sum that saturates is held to the word range.
use mathlib.Core.Path.{sym}
use mir.Facts.{to_z-of_z}
use mir.Val.{SFits}
use mir.Syntax.{w16}
use borrow.Author.Rules.{rules}
use Rattle.counters.specs.Counters.{cn_word}
use Rattle.counters.proofs.Holding.{saturated}
use Rattle.counters.proofs.cn_word.Goals as goal

pub returns-then-first_rises : goal.returns-then-first_rises
unfolding cn_word
returns-then-first_rises c =
    let f : SFits w16 c.args.p.word = search rules in
    let r : SFits w16 c.saturating_add.result = record { sfits = c.saturating_add.type_inv } in
    rw (to_z-of_z r, c.if-c.false, sym c.if-first_rises.ensures, c.saturating_add.ensures, to_z-of_z f) (saturated _)
