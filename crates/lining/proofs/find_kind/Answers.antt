use mathlib.Core.Path.{refl, sym, ◌∙◌}
use native.Mathlib.Omega.{arith}
use borrow.Author.Tests.{le-ltb, lt-ltb}
use Rattle.layout.specs.Heads.{kind_at}
use Rattle.lining.proofs.Finding.{kind_here, kind_later, kind_nowhere}
use Rattle.lining.proofs.find_kind.Goals as goal

pub loop-k-init : goal.loop-k-init
unfolding kind_at
loop-k-init c = refl

pub returns-then-word_at : goal.returns-then-word_at
returns-then-word_at c =
    let l = c.loop-k in
    rw (sym l.invariant ∙ kind_here c.args.line.now c.args.at l.k (omega arith) (sym c.word_at.ensures ∙ c.if-word_at.true), lt-ltb l.k 13 (omega arith))

pub loop-k-preserved : goal.loop-k-preserved
loop-k-preserved c =
    let l = c.loop-k in sym (kind_later _ _ l.k (omega arith) (sym c.word_at.ensures ∙ c.if-word_at.false)) ∙ l.invariant

pub returns : goal.returns
returns c =
    let l = c.loop-k in
    rw (sym l.invariant ∙ kind_nowhere c.args.line.now c.args.at l.k (omega arith), le-ltb l.k 13 (omega arith))
