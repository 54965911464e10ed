use mathlib.Core.Bool.{not}
use mathlib.Core.Path.{sym, ap, ◌∙◌}
use native.Mathlib.Omega.{arith}
use Rattle.alarm_line.specs.Naming.{as_count}
use Rattle.alarm_line.proofs.Counting.{wordless, names_within, starts, goes_on, all_counted, broken, uncountable}
use Rattle.alarm_line.proofs.count_names.Goals as goal

pub overflow_add-at : goal.overflow_add-at
overflow_add-at c =
    omega (
      arith,
      names_within _ c.skip_spaces-word.ensures c.word_at.ensures (ap not c.if-not-word_at.false) c.word_size.ensures,
    )

pub loop-n-init : goal.loop-n-init
loop-n-init c =
    starts _ c.skip_spaces-word.ensures c.word_at.ensures (ap not c.if-not-word_at.false) c.word_size.ensures

pub returns-in-End : goal.returns-in-End
returns-in-End c =
    ap as_count (all_counted _ c.loop-n.invariant (omega arith) (sym c.read_alarm.ensures ∙ c.in-End.is))

pub returns-in-NoAlarm : goal.returns-in-NoAlarm
returns-in-NoAlarm c =
    ap as_count (broken _ c.loop-n.invariant (sym c.read_alarm.ensures ∙ c.in-NoAlarm.is))

pub loop-n-preserved : goal.loop-n-preserved
loop-n-preserved c =
    goes_on _ c.loop-n.invariant (sym c.read_alarm.ensures ∙ c.in-Bit.is)

pub returns-then-not-word_at : goal.returns-then-not-word_at
returns-then-not-word_at c =
    ap as_count (wordless _ c.skip_spaces-word.ensures c.word_at.ensures (ap not c.if-not-word_at.true))

pub returns : goal.returns
returns c =
    ap as_count (uncountable _ c.loop-n.invariant (omega arith))
