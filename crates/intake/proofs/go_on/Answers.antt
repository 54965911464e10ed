-- `intake::go_on` meets its contract: what was read is fed behind what was kept, the end is told, or nothing is said.
use mathlib.Core.Path.{refl, sym}
use native.Mathlib.Omega.{arith}
use lib.Seq.{length-take-le}
use Rattle.intake.specs.Intake.{reads}
use Rattle.intake.proofs.Goes.{read_is, behind, line_fits, said_nothing, told_at_end}
use Rattle.intake.proofs.go_on.Goals as goal

pub slice_bounds-finish-end-in-Ok-None : goal.slice_bounds-finish-end-in-Ok-None
slice_bounds-finish-end-in-Ok-None c =
    let s = c.before in sym (length-take-le s.args.last.kept s.args.buf.now s.requires.0)

pub overflow_add-last : goal.overflow_add-last
overflow_add-last c =
    let got = read_is c.in-Ok-Some.is (rw c.in-Ok-Some.is at c.in-Ok-Some.field-0-is) in
    omega (arith, behind c.args.last.kept c.args.buf.now c.requires.1.0 got)

pub feed_window-requires : goal.feed_window-requires
feed_window-requires c =
    let got = read_is c.in-Ok-Some.is (rw c.in-Ok-Some.is at c.in-Ok-Some.field-0-is) in
    (behind c.args.last.kept c.args.buf.now c.requires.1.0 got, c.requires.1.1)

pub returns-in-Err : goal.returns-in-Err
returns-in-Err c =
    said_nothing _ _ _ _ _ c.in-Err.is c.ended_at-in-Err.ensures

pub returns-in-Ok-None : goal.returns-in-Ok-None
returns-in-Ok-None c =
    let s = c.before in
    let got = read_is c.in-Ok-None.is (rw c.in-Ok-None.is at c.in-Ok-None.field-0-is) in
    told_at_end s.args.last.player s.args.last.kept s.args.buf.now s.args.program.now got refl
    (line_fits s.args.buf.now s.args.text.now s.requires.1.1.1.1) c.finish-to.ensures c.ended_at.ensures

pub returns-in-Ok-Some : goal.returns-in-Ok-Some
returns-in-Ok-Some c =
    let got = read_is c.in-Ok-Some.is (rw c.in-Ok-Some.is at c.in-Ok-Some.field-0-is) in
    reads c.in-Ok-Some.n got c.feed_window.ensures
