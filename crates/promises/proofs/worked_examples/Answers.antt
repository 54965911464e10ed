-- `promises::worked_examples` meets its contract: the definitions compute.
use mathlib.Core.Path.{refl}
use Rattle.wire.specs.Number.{groups_at, groups_of, number_at}
use Rattle.numbers.specs.Types.{allowed, bit_ref, content_of, excepted, said_by, word_ref}
use Rattle.kinds.specs.Kinds.{figure_for, kind_of, mark_for}
use Rattle.block.specs.Reading.{block_at, content_at, fields_at}
use Rattle.nodes.specs.Reading.{expr_at, head_at}
use Rattle.numbers.specs.Reading.{marked, typed_at}
use Rattle.program.specs.Program.{alarms_at, blocks_at, end_at, program_at, references_at}
use Rattle.program.specs.Acceptance.{accepted, marks_of}
use Rattle.expression.specs.Expression.{gate_of, skips_of}
use Rattle.switches.specs.Switches.{bl}
use Rattle.timers.specs.Timers.{dl_ticks, dl, fl, fl_ticks, ticks_in}
use Rattle.terms.specs.Words.{hold_word}
use Rattle.analog.specs.Analog.{og, same, scaled, st}
use Rattle.counters.specs.Counters.{ud, ud_word}
use Rattle.rules.specs.Rules.{rule_of, ruled}
use Rattle.journal.specs.Journal.{empty, fresh_journal, good_journal, no_stamp, numbered, risen, rises_from, stored_all}
use Rattle.image.specs.State.{fresh_state, good_place, good_state, late}
use Rattle.scanning.specs.Scan.{alarm_word, scan_to, steps_to}
use Rattle.calls.specs.Calls.{answered, scan_of}
use Rattle.promises.specs.Examples.{seen_in, examples, AllShown}
use Rattle.promises.proofs.worked_examples.Goals as goal

all : AllShown examples
unfolding groups_at groups_of number_at allowed bit_ref content_of excepted said_by figure_for kind_of mark_for word_ref block_at content_at expr_at fields_at
    head_at marked typed_at alarms_at blocks_at end_at program_at references_at accepted marks_of gate_of skips_of bl dl_ticks dl fl fl_ticks hold_word og same scaled st
    ticks_in ud ud_word rule_of ruled empty fresh_journal good_journal no_stamp numbered risen rises_from stored_all fresh_state good_place good_state alarm_word
    scan_to steps_to answered late scan_of seen_in
all = (refl, (refl, (refl, (refl, (refl, (refl, (refl, (refl, (refl, (refl, (refl, (refl, (refl, tt)))))))))))))

pub returns : goal.returns
returns c =
    all
