-- `alarm_line::read_alarm` meets its contract: its tests are those of the definition.
use Prim.Native.Nat.{◌<◌, ◌≤◌}
use native.Mathlib.Omega.{arith}
use borrow.Author.Tests.{lt-ltb, le-ltb, le-leb, lt-leb}
use Rattle.spelling.specs.Spelling.{name_at}
use Rattle.spelling.proofs.Names.{name_has, no_name}
use Rattle.alarm_line.specs.Naming.{alarm_at}
use Rattle.alarm_line.proofs.read_alarm.Goals as goal

pub returns-then-line-p : goal.returns-then-line-p
unfolding alarm_at
returns-then-line-p c =
    rw (← c.skip_spaces-p.ensures, le-leb _ _ c.if-line-p.true)

pub returns-then-p-at : goal.returns-then-p-at
unfolding alarm_at
returns-then-p-at c =
    let close : c.skip_spaces-p.result ≤ c.args.at = omega arith in
    rw (← c.skip_spaces-p.ensures, lt-leb _ _ c.if-line-p.false, le-ltb _ _ close)

pub returns-in-Ok : goal.returns-in-Ok
unfolding alarm_at
returns-in-Ok c =
    let apart : c.args.at < c.skip_spaces-p.result = omega arith in
    let n = name_has (name_at c.args.line.now c.skip_spaces-p.result) c.in-Ok.ensures in
    rw (← c.skip_spaces-p.ensures, lt-leb _ _ c.if-line-p.false, lt-ltb _ _ apart, n)

pub returns-in-Err : goal.returns-in-Err
unfolding alarm_at
returns-in-Err c =
    let apart : c.args.at < c.skip_spaces-p.result = omega arith in
    let n = no_name (name_at c.args.line.now c.skip_spaces-p.result) c.in-Err.ensures in
    rw (← c.skip_spaces-p.ensures, lt-leb _ _ c.if-line-p.false, lt-ltb _ _ apart, n)
