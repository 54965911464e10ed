use Rattle.copies.proofs.Splicing.{spliced, byte_at}
use Rattle.terms.specs.Bits.{digit}
use lib.ListN.{length, drop, length-drop, length-map}
use mathlib.Core.List.{map}
use mathlib.Core.Path.{◌≡◌, ◌∙◌}
use native.Mathlib.Omega.{arith}
use borrow.Author.Rules.{rules}
use Rattle.copies.proofs.store_outputs.Goals as goal

pub loop-i-preserved : goal.loop-i-preserved
loop-i-preserved c =
    let b = c.args.bits.now in let t = c.args.to.now in
    let k : length b ≡ 234 = search rules in
    let o : length t ≡ 200 = search rules in
    let m : length (map digit (drop 34 b)) ≡ 200 = simp (length-map, length-drop) (omega arith) in
    spliced (map digit (drop 34 b)) t c.loop-i.i 0 (omega arith) (omega arith) (c.from.ensures ∙ byte_at 34 b c.loop-i.i) c.loop-i.invariant
