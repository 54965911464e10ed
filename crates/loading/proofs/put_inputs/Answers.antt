use Rattle.loading.specs.Inputs.{input_bits}
use Rattle.copies.proofs.Splicing.{spliced}
use Rattle.loading.proofs.Inputs.{inputs_length, input_at, off_and_on}
use lib.ListN.{length, set, length-set}
use lib.Seq.{take_all, drop-set-lt}
use Prim.Native.Nat.{◌+◌, ◌≤◌}
use mathlib.Core.Bool.{true, false}
use mathlib.Core.Path.{◌≡◌, sym, ◌∙◌}
use native.Mathlib.Omega.{arith}
use borrow.Author.Rules.{rules}
use Rattle.loading.proofs.put_inputs.Goals as goal

pub loop-i-init : goal.loop-i-init
loop-i-init c =
    let k : length c.args.to.now ≡ 234 = search rules in off_and_on c.args.bits c.args.to.now (omega arith)

pub loop-i-preserved : goal.loop-i-preserved
loop-i-preserved c =
    let l = c.loop-i in let b = c.args.bits in let n = inputs_length b in
    let k : length c.args.to.now ≡ 234 = search rules in
    let e : l.i + 1 + 2 ≡ l.i + 2 + 1 = omega arith in
    let s : length (set (set c.args.to.now 0 false) 1 true) ≡ 234 = simp length-set k in
    rw e (spliced (input_bits b) _ (l.i + 2) false (omega arith) (omega arith) (sym (input_at b l.i (omega arith))) l.invariant)

pub returns : goal.returns
returns c =
    let l = c.loop-i in let a = c.args in let v = a.to.now in
    let k : length v ≡ 234 = search rules in
    let e : l.i ≡ 32 = omega arith in
    let s : length (set v 0 false) ≡ 234 = simp length-set k in
    let q : length (input_bits a.bits) ≤ 34 = omega (arith, inputs_length a.bits) in
    rw (e, take_all 34 (input_bits a.bits) q) at l.invariant
    ∙ rw (drop-set-lt 34 (set v 0 false) 1 true (omega arith), drop-set-lt 34 v 0 false (omega arith))
