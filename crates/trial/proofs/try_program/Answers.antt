-- `trial::try_program` meets its contract: the turns of the blocks, and then the alarms.
use Rattle.trial.proofs.FirstBlocks.{from_none}
use Rattle.trial.proofs.Parts.{by_parts}
use borrow.Author.Tests.{not-true, not-false}
use mathlib.Core.Path.{◌≡◌, ◌∙◌}
use mathlib.Core.Bool.{true, false}
use Rattle.trial.proofs.try_program.Goals as goal

pub returns-in_err-r : goal.returns-in_err-r
returns-in_err-r c =
    let m = from_none c.args.n c.mark_first.ensures in
    let w = rw m at c.turns.ensures.after in
    let p = by_parts _ _ _ _ _ _ _ (rw m at c.turns.ensures.value) _ w in
    record { value = rw c.from_residual.ensures (rw c.in_err-r.was at p); after = w }

pub returns-then-not-r : goal.returns-then-not-r
returns-then-not-r c =
    let m = from_none c.args.n c.mark_first.ensures in
    let w = rw m at c.turns.ensures.after in
    let p = by_parts _ _ _ _ _ _ _ (rw m at c.turns.ensures.value) _ w in
    let g : c.in_ok-r.r.good ≡ false = not-true _ c.if-not-r.true in
    record { value = c.refused.ensures ∙ rw (c.in_ok-r.was, g) at p; after = w }

pub returns-in_err-alarms : goal.returns-in_err-alarms
returns-in_err-alarms c =
    let m = from_none c.args.n c.mark_first.ensures in
    let w = rw m at c.turns.ensures.after in
    let p = by_parts _ _ _ _ _ _ _ (rw m at c.turns.ensures.value) _ w in
    let q = rw m at c.alarms.ensures in
    let g : c.in_ok-r.r.good ≡ true = not-false _ c.if-not-r.false in
    record { value = rw c.from_residual-in_err-alarms.ensures (rw (c.in_ok-r.was, g, ← q, c.in_err-alarms.was) at p); after = w }

pub returns : goal.returns
returns c =
    let m = from_none c.args.n c.mark_first.ensures in
    let w = rw m at c.turns.ensures.after in
    let p = by_parts _ _ _ _ _ _ _ (rw m at c.turns.ensures.value) _ w in
    let q = rw m at c.alarms.ensures in
    let g : c.in_ok-r.r.good ≡ true = not-false _ c.if-not-r.false in
    record { value = rw (c.in_ok-r.was, g, ← q, c.in_ok-alarms.was) at p; after = w }
