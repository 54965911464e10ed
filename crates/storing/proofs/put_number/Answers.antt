use Prim.Native.Nat.{◌+◌}
use mathlib.Core.Path.{◌≡◌}
use native.Mathlib.Nat.{add-zero}
use native.Mathlib.Omega.{arith}
use Rattle.filling.proofs.Puts.{put_length}
use Rattle.storing.proofs.Rest.{byte_put, rest_all, rest_byte, rest_none}
use Rattle.storing.proofs.Bytes.{group_last, group_more, group_none}
use Rattle.storing.proofs.put_number.Goals as goal

pub returns-then-left-lt128 : goal.returns-then-left-lt128
returns-then-left-lt128 c =
    let l = c.loop-i in let e = group_last l.i l.left (omega arith) (omega arith) in
    (rw e at l.invariant).ends (byte_put c.put_byte.ensures)

pub loop-i-preserved : goal.loop-i-preserved
loop-i-preserved c =
    let e = group_more c.loop-i.i c.loop-i.left (omega arith) (omega arith) in
    let q : c.args.at + (c.loop-i.i + 1) ≡ c.args.at + c.loop-i.i + 1 = omega arith in
    rw q (rest_byte (rw e at c.loop-i.invariant) c.put_byte-in-loop-i.ensures)

pub returns : goal.returns
returns c =
    let l = c.loop-i in let e : l.i ≡ 3 = omega arith in rest_none (rw (e, group_none 3 l.left (omega arith)) at l.invariant)

pub loop-i-init : goal.loop-i-init
loop-i-init c =
    rw add-zero rest_all

pub shape_of-out-then-left-lt128 : goal.shape_of-out-then-left-lt128
shape_of-out-then-left-lt128 c =
    put_length (returns-then-left-lt128 c)

pub shape_of-out : goal.shape_of-out
shape_of-out c =
    put_length (returns c)
