use Rattle.image.specs.Image.{is_on}
use Rattle.loading.specs.Inputs.{input_bits}
use Rattle.copies.proofs.Splicing.{spliced_behind, front_of, rest_of}
use Rattle.loading.proofs.Inputs.{inputs_length}
use lib.ListN.{length, take, drop, take-append-drop, length-map, length-drop, get_or-map}
use lib.Seq.{length-take-le}
use mathlib.Core.Bool.{false}
use mathlib.Core.List.{map}
use mathlib.Core.Path.{◌≡◌, sym, ◌∙◌}
use native.Mathlib.Omega.{arith}
use borrow.Author.Rules.{rules}
use Rattle.loading.proofs.load_bits.Goals as goal

pub loop-i-init : goal.loop-i-init
loop-i-init c =
    sym (take-append-drop 34 _)

pub loop-i-preserved : goal.loop-i-preserved
loop-i-preserved c =
    let i = c.loop-i.i in let o = c.args.outputs.now in let v = c.put_inputs.new.to in
    let w : length v ≡ 234 = search rules in
    let n : length o ≡ 200 = search rules in
    let m : length (drop 34 v) ≡ 200 = simp length-drop (omega arith) in
    let k : length (take 34 v) ≡ 34 = length-take-le 34 v (omega arith) in
    let s : length (map is_on o) ≡ 200 = simp length-map n in
    spliced_behind (map is_on o) (drop 34 v) i false (omega arith) (omega arith) (sym (get_or-map is_on o i 0)) (take 34 v) 34 k c.loop-i.invariant

pub returns : goal.returns
returns c =
    let a = c.args in let e : c.loop-i.i ≡ a.n = omega arith in
    let k = inputs_length a.bits in
    c.loop-i.invariant ∙ rw (e, front_of (input_bits a.bits) _ 34 k c.put_inputs.ensures, rest_of (input_bits a.bits) _ 34 k c.put_inputs.ensures)
