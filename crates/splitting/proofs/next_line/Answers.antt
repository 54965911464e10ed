-- `splitting::next_line` meets its contract: the bytes before the first LF are inside the line.
use native.Mathlib.Omega.{arith}
use borrow.Author.Rules.{part_to_end}
use Rattle.splitting.specs.Splitting.{splits, unended}
use Rattle.splitting.proofs.Passing.{fed, unfed, ends_lf, ends_cr_lf}
use Rattle.splitting.proofs.next_line.Goals as goal
use Rattle.splitting.proofs.next_line.Goals.{then-at-p+then-text-p-eq13, else-at-p, else-at-p-via-then-at-p+else-text-p-eq13, else-at-p-via-else-at-p}

pub returns-in_err-p : goal.returns-in_err-p
returns-in_err-p c =
    let o = unfed c.args.text.now c.args.at (rw (part_to_end c.args.text.now c.args.at) at c.in_err-p.ensures) in
    rw c.from_residual.ensures (unended o)

pub returns : goal.returns
returns c =
    let s = c.args.text.now in
    let at = c.args.at in
    let f = fed s at c.requires (rw (part_to_end s at) at c.in_ok-p.ensures) in
    elim c.if-at-p.branch [
      | then-at-p+then-text-p-eq13 w ↦ rw w.last-is (splits _ _ (ends_cr_lf s at f.passed f.inside f.feed w.if-at-p.true w.if-text-p-eq13.true))
      | else-at-p w ↦ rw w.last-is (splits _ _ (ends_lf s at f.passed f.inside f.feed (elim w.else-at-p.branch [
        | else-at-p-via-then-at-p+else-text-p-eq13 v ↦ λ _. v.if-text-p-eq13.false
        | else-at-p-via-else-at-p v ↦ λ l _. omega (arith, v.if-at-p.false)
      ])))
    ]
