-- `alarms::put_alarms` meets its contract: the word, the names, the end of the line.
use native.Mathlib.Omega.{arith}
use Rattle.filling.proofs.Puts.{put_none, put_then, put_behind}
use Rattle.numbers.specs.Types.{alarm_count}
use Rattle.numbers.proofs.Typed.{typed_below}
use Rattle.words.specs.Words.{alarms}
use Rattle.words.proofs.Letters.{word_short}
use Rattle.alarms.proofs.Alarms.{count_there, names_there, alarms_text_lem, names_short}
use Rattle.alarms.proofs.put_alarms.Goals as goal

pub put_names-end-requires : goal.put_names-end-requires
put_names-end-requires c = (
  names_there _ _ _ c.read_known-count.ensures c.requires.0,
  (typed_below _ alarm_count 0 _ _ c.read_known-count.ensures, omega (arith, c.put_word-begun.ensures.place, word_short alarms (omega arith))),
)

pub overflow_add-result : goal.overflow_add-result
overflow_add-result c =
    omega (
      arith,
      c.put_word-begun.ensures.place,
      word_short alarms (omega arith),
      c.put_names-end.ensures.place,
      names_short c.args.marks.now c.args.s.now c.read_known-count.result.number c.read_known-count.result.next,
      typed_below _ alarm_count 0 _ _ c.read_known-count.ensures,
    )

pub returns : goal.returns
returns c =
    rw (← (alarms_text_lem c.args.marks.now c.args.s.now c.args.at c.read_known-count.ensures c.requires.0))
    (put_then c.put_word-begun.ensures (put_then c.put_names-end.ensures (put_behind c.put_byte.ensures (put_none _ _))))

pub read_known-count-requires : goal.read_known-count-requires
read_known-count-requires c =
    (omega arith, count_there _ _ _ c.requires.0)
