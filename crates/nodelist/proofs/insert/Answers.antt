-- `nodelist::insert` meets its contract.
use Rattle.std.proofs.Common.{◌≡◌, ◌∙◌, ap, arith, ℕ, List, ◌+◌, ◌-◌, drop}
use Rattle.std.proofs.Math.ListN.{set}
use Rattle.std.proofs.Math.Seq.{paste}
use Rattle.nodelist.proofs.Moving.{moved}
use Rattle.nodelist.proofs.insert.Goals as goal

pub returns-then-from-lt-PLACES : goal.returns-then-from-lt-PLACES
returns-then-from-lt-PLACES c =
    let l = c.args.nodes.now in
    let from = c.args.from in
    let n = c.min.result in
    let e : from + n - from ≡ n = omega arith in
    ap (λ (k : List ℕ). set k from c.args.number) (c.copy_within.ensures.after ∙ ap (λ (k : ℕ). paste l (from + 1) (drop from l) k) e)
    ∙ moved l from c.args.count n c.args.number (omega (arith, c.told-nodes, c.min.ensures)) (omega (arith, c.min.ensures)) (λ h. omega (arith, c.told-nodes, c.min.ensures))
