-- `alarm_line::take_alarms` meets its contract: the names that are counted are those of the line, and what is put of them is its front.
use native.Mathlib.Omega.{arith}
use Rattle.storing.proofs.Bytes.{number_near}
use Rattle.alarm_line.proofs.Counting.{count_had, count_none}
use Rattle.alarm_line.proofs.Taking.{no_count, listed, count_put, names_put}
use Rattle.alarm_line.proofs.take_alarms.Goals as goal

pub returns-in_err-n : goal.returns-in_err-n
returns-in_err-n c = rw c.from_residual.ensures (no_count _ (count_none _ c.in_err-n.ensures))

pub returns-then-n-gt-MOST_ALARMS : goal.returns-then-n-gt-MOST_ALARMS
returns-then-n-gt-MOST_ALARMS c =
    count_put _ (listed _ (count_had _ c.in_ok-n.ensures)) c.if-n-gt-MOST_ALARMS.true c.put_number-p.ensures

pub put_names-requires : goal.put_names-requires
put_names-requires c =
    omega (arith, c.if-n-gt-MOST_ALARMS.false, number_near _ c.put_number-p.ensures)

pub returns : goal.returns
returns c =
    names_put _ (listed _ (count_had _ c.in_ok-n.ensures)) c.if-n-gt-MOST_ALARMS.false c.put_number-p.ensures c.put_names.ensures
