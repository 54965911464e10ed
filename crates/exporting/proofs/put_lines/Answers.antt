use native.Mathlib.Omega.{arith}
use Rattle.filling.proofs.Puts.{put_then}
use Rattle.numbers.specs.Types.{block_count}
use Rattle.numbers.proofs.Typed.{typed_below}
use Rattle.listing.proofs.Blocks.{line_short}
use Rattle.exporting.proofs.Programs.{block_there, rest_there, lines_on, alarms_there, lines_end, count_there, by_count, listed_from}
use Rattle.exporting.proofs.put_lines.Goals as goal

pub loop-i-init : goal.loop-i-init
loop-i-init c =
    let e = c.read_known-n.ensures in let k = c.args.marks.now in let s = c.args.s.now in record {
      there = rw (by_count k s e) at c.requires;
      rest = λ m d p. rw (listed_from k s e) at p;
      few = omega (arith, typed_below k block_count 0 s 0 e);
      within = omega arith;
    }

pub loop-i-preserved : goal.loop-i-preserved
loop-i-preserved c =
    let k = c.args.marks.now in let s = c.args.s.now in let inv = c.loop-i.invariant in let h = c.loop-i-test.true in let line = c.put_line-line.ensures in record {
      there = rw line.place (rest_there k s c.loop-i.at _ c.loop-i.i h inv.there);
      rest = λ m d q. inv.rest m d (rw (lines_on k s c.loop-i.at _ c.loop-i.i h inv.there) (put_then line.text (rw line.place at q)));
      few = inv.few;
      within = omega (arith, inv.within, line.text.place, line_short k s c.loop-i.at c.loop-i.i);
    }

pub put_line-line-requires : goal.put_line-line-requires
put_line-line-requires c =
    let l = c.loop-i in (block_there _ _ l.at _ l.i c.loop-i-test.true l.invariant.there, omega (arith, l.invariant.within, l.invariant.few))

pub put_alarms-requires : goal.put_alarms-requires
put_alarms-requires c =
    let l = c.loop-i in (alarms_there _ _ l.at _ l.i c.loop-i-test.false l.invariant.there, omega (arith, l.invariant.within, l.invariant.few))

pub returns : goal.returns
returns c =
    let l = c.loop-i in l.invariant.rest _ _ (rw (lines_end c.args.marks.now c.args.s.now l.at _ l.i c.loop-i-test.false l.invariant.there) c.put_alarms.ensures)

pub read_known-n-requires : goal.read_known-n-requires
read_known-n-requires c =
    (omega arith, count_there _ _ c.requires)

pub overflow_cast-count : goal.overflow_cast-count
overflow_cast-count c =
    omega (arith, typed_below _ block_count 0 _ 0 c.read_known-n.ensures)
