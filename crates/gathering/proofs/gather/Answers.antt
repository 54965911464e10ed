use native.Mathlib.Omega.{arith}
use Rattle.gathering.proofs.Gathers.{begin, within, low_place, whole_line, open_line, missed, unended_line, neither, more_behind, gathered_whole, gathered_front, turn_kept, turn_unkept, whole_so_far, front_so_far, untouched, split_forward, split_place}
use Rattle.gathering.proofs.gather.Goals as goal

pub loop-line-init : goal.loop-line-init
loop-line-init c = begin _ _ c.requires

pub next_line-requires : goal.next_line-requires
next_line-requires c = within c.loop-line.invariant

pub returns-in_default : goal.returns-in_default
returns-in_default c = unended_line c.loop-line.invariant (open_line c.in_default.ensures)

pub slice_bounds-take_block-start : goal.slice_bounds-take_block-start
slice_bounds-take_block-start c = (split_place (whole_line c.in-Some.ensures)).0

pub slice_bounds-take_block-end : goal.slice_bounds-take_block-end
slice_bounds-take_block-end c =
    let q = split_place (whole_line c.in-Some.ensures) in
    omega (arith, q.1.0, q.1.1)

pub take_block-requires : goal.take_block-requires
take_block-requires c = omega (arith, low_place c.loop-line.invariant)

pub overflow_add-i : goal.overflow_add-i
overflow_add-i c = record { fits = omega (arith, c.loop-line.invariant.few) }

pub loop-line-smaller-then-kept : goal.loop-line-smaller-then-kept
loop-line-smaller-then-kept c =
    let p = whole_line c.in-Some.ensures in omega (arith, split_forward p, (split_place p).1.1)

pub loop-line-smaller : goal.loop-line-smaller
loop-line-smaller c =
    let p = whole_line c.in-Some.ensures in omega (arith, split_forward p, (split_place p).1.1)

pub loop-line-preserved-then-kept : goal.loop-line-preserved-then-kept
loop-line-preserved-then-kept c =
    turn_kept (whole_line c.in-Some.ensures) c.in-Some-take_block.ensures (whole_so_far c.loop-line.invariant c.if-kept.true)

pub loop-line-preserved : goal.loop-line-preserved
loop-line-preserved c =
    turn_unkept (whole_line c.in-Some.ensures) c.in-Some-take_block.ensures c.loop-line.invariant c.if-kept.false

pub slice_bounds-take_alarms-start : goal.slice_bounds-take_alarms-start
slice_bounds-take_alarms-start c = (split_place (whole_line c.in-Some.ensures)).0

pub slice_bounds-take_alarms-end : goal.slice_bounds-take_alarms-end
slice_bounds-take_alarms-end c =
    let q = split_place (whole_line c.in-Some.ensures) in
    omega (arith, q.1.0, q.1.1)

pub take_alarms-requires : goal.take_alarms-requires
take_alarms-requires c = omega (arith, low_place c.loop-line.invariant)

pub returns-in_default-take_alarms : goal.returns-in_default-take_alarms
returns-in_default-take_alarms c =
    neither c.loop-line.invariant (whole_line c.in-Some.ensures) (missed c.in-None.ensures).0 c.in_default-take_alarms.ensures

pub returns-then-line-text : goal.returns-then-line-text
returns-then-line-text c =
    more_behind c.loop-line.invariant (whole_line c.in-Some.ensures) (untouched (missed c.in-None.ensures).1 c.in-Some-take_alarms.ensures) c.if-line-text.true

pub put_count-from-requires : goal.put_count-from-requires
put_count-from-requires c = c.loop-line.invariant.few

pub returns-then-kept-2 : goal.returns-then-kept-2
returns-then-kept-2 c =
    gathered_whole (whole_line c.in-Some.ensures) (whole_so_far c.loop-line.invariant c.if-kept-2.true)
    (untouched (missed c.in-None.ensures).1 c.in-Some-take_alarms.ensures) c.if-line-text.false c.put_count-from.ensures

pub returns-else-kept-2 : goal.returns-else-kept-2
returns-else-kept-2 c =
    gathered_front (whole_line c.in-Some.ensures) (front_so_far c.loop-line.invariant c.if-kept-2.false)
    (untouched (missed c.in-None.ensures).1 c.in-Some-take_alarms.ensures) c.if-line-text.false c.put_count-from.ensures
