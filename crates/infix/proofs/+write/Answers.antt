-- `infix::write` meets its contract; what each node says of its parts' texts is in `Writing`.
use Rattle.std.proofs.Common.{ℕ, length, ◌+◌, nat_lt, sym, ap, arith}
use Rattle.nodes.proofs.Expressions.{sound}
use Rattle.infix.proofs.Lengths.{put_within, spaced_short, byte_short, list_small}
use Rattle.infix.proofs.Writing.{stop_writes, leaf_writes, not_writes, two_writes}
use Rattle.infix.proofs.+write.Goals as goal

pub put_name-e-requires : goal.put_name-e-requires
put_name-e-requires t c = omega (arith, sound _ _ _ _ _ (rw c.in-Leaf.is at (sym c.in-Ok.ensures)))

pub overflow_sub-result : goal.overflow_sub-result
overflow_sub-result t c = omega (arith, sound _ _ _ _ _ (rw c.in-Leaf.is at (sym c.in-Ok.ensures)))

pub overflow_sub-depth : goal.overflow_sub-depth
overflow_sub-depth t c = omega (arith, sound _ _ _ _ _ (rw c.in-One.is at (sym c.in-Ok.ensures)))

pub overflow_sub-left : goal.overflow_sub-left
overflow_sub-left t c = omega (arith, sound _ _ _ _ _ (rw c.in-One.is at (sym c.in-Ok.ensures)))

pub overflow_add-to : goal.overflow_add-to
overflow_add-to t c = omega (arith, sound _ _ _ _ _ (rw c.in-One.is at (sym c.in-Ok.ensures)))

pub write-requires : goal.write-requires
write-requires t c = (omega (arith, sound _ _ _ _ _ (rw c.in-One.is at (sym c.in-Ok.ensures))), omega (arith, sound _ _ _ _ _ (rw c.in-One.is at (sym c.in-Ok.ensures))))

pub put_if-from-requires : goal.put_if-from-requires
put_if-from-requires t c = omega (arith, sound _ _ _ _ _ (rw c.in-Two.is at (sym c.in-Ok.ensures)))

pub overflow_sub-depth-in-Two : goal.overflow_sub-depth-in-Two
overflow_sub-depth-in-Two t c = omega (arith, sound _ _ _ _ _ (rw c.in-Two.is at (sym c.in-Ok.ensures)))

pub overflow_sub-left-in-Two : goal.overflow_sub-left-in-Two
overflow_sub-left-in-Two t c = omega (arith, sound _ _ _ _ _ (rw c.in-Two.is at (sym c.in-Ok.ensures)))

pub write-a-requires : goal.write-a-requires
write-a-requires t c = (omega (arith, sound _ _ _ _ _ (rw c.in-Two.is at (sym c.in-Ok.ensures))), omega (arith, sound _ _ _ _ _ (rw c.in-Two.is at (sym c.in-Ok.ensures)), put_within 1 c.put_if-from.ensures (byte_short _ _)))

pub put-e-requires : goal.put-e-requires
put-e-requires t c = omega (arith, ap length c.spaced.ensures, spaced_short c.in-Two.op, sound _ _ _ _ _ (rw c.in-Two.is at (sym c.in-Ok.ensures)), put_within 1 c.put_if-from.ensures (byte_short _ _), c.write-a.ensures.within)

pub overflow_sub-depth-in-Two-2 : goal.overflow_sub-depth-in-Two-2
overflow_sub-depth-in-Two-2 t c = omega (arith, sound _ _ _ _ _ (rw c.in-Two.is at (sym c.in-Ok.ensures)))

pub overflow_add-l : goal.overflow_add-l
overflow_add-l t c = omega (arith, c.list_of-l.ensures, list_small c.in-Two.op)

pub write-b-requires : goal.write-b-requires
write-b-requires t c = (omega (arith, sound _ _ _ _ _ (rw c.in-Two.is at (sym c.in-Ok.ensures))), omega (arith, sound _ _ _ _ _ (rw c.in-Two.is at (sym c.in-Ok.ensures)), put_within 1 c.put_if-from.ensures (byte_short _ _), put_within 4 (rw c.spaced.ensures at c.put-e.ensures) (spaced_short _), c.write-a.ensures.within))

pub put_if-end-requires : goal.put_if-end-requires
put_if-end-requires t c = omega (arith, sound _ _ _ _ _ (rw c.in-Two.is at (sym c.in-Ok.ensures)), put_within 1 c.put_if-from.ensures (byte_short _ _), put_within 4 (rw c.spaced.ensures at c.put-e.ensures) (spaced_short _), c.write-a.ensures.within, c.write-b.ensures.within)

pub returns-in-Err : goal.returns-in-Err
returns-in-Err t c = stop_writes c.args.marks.now c.args.depth c.args.left c.args.s.now c.args.at c.args.level c.args.out.now c.args.to (sym c.in-Err.ensures)

pub returns-in-Leaf : goal.returns-in-Leaf
returns-in-Leaf t c = leaf_writes c.args.marks.now c.args.depth c.args.left c.args.s.now c.args.at c.args.level c.args.out.now c.args.to _ _ (rw c.in-Leaf.is at (sym c.in-Ok.ensures)) c.put_name-e.ensures

pub returns-in-One : goal.returns-in-One
returns-in-One t c = not_writes c.args.marks.now c.args.depth c.args.left c.args.s.now c.args.at c.args.level c.args.out.now c.args.to _ _ (rw c.in-One.is at (sym c.in-Ok.ensures)) (rw c.put_byte.ensures at c.write.ensures)

pub returns-in-Two : goal.returns-in-Two
returns-in-Two t c = let l = c.list_of-l.ensures in two_writes c.args.marks.now c.args.depth c.args.left c.args.s.now c.args.at c.args.level c.args.out.now c.args.to c.list_of-l.result (c.list_of-l.result + 1) _ _ _ _ _ _ _ _ _ _ _ (rw c.in-Two.is at (sym c.in-Ok.ensures)) l (omega arith) (ap (λ (n : ℕ). nat_lt n c.args.level) l) c.put_if-from.ensures c.write-a.ensures (rw c.spaced.ensures at c.put-e.ensures) c.write-b.ensures c.put_if-end.ensures
