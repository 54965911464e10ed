-- Document 01, "What the contracts owe": "Each public function's contract gives one possible answer and one possible state for each input".
-- `clauses` of a function is its contract, as Rattle reads it off the source; `learnt` is what its `ensures` says of an answer and of what is lent, at exit.
use Rattle.std.specs.Prelude.{Bool, List, ◌≡◌, ℕ, ℤ}
use Rattle.std.specs.Borrow.{Bor, MutBor}
use Rattle.std.specs.declared.clone.Clone.{Ghosts}
use seplogic.Ra.Ura.{Ura}
use base.Logic.{SProp, all}
use types.Logic.{Logic}
use contract.Lifetimes.{Lfts}
use contract.Monad.{Fun}
use contract.Notation.{Connectives, connectives}
use denote.Triple.Clauses.{Ended, Clauses, AtExit}
use denote.Triple.Entry.{Args, Res}
use denote.RattleType.{RattleType}
use mir.Syntax.{Dict}
use prog.Memory.{Memory}
use prog.Routine.{Routine}
use Rattle.image.specs.Image.{Log, log, Columns, columns, Image, image}
use Rattle.turns.specs.Arrays.{Arrays, arrays}
use Rattle.terms.specs.contracts.signed as terms_signed
use Rattle.terms.specs.contracts.hold as terms_hold
use Rattle.terms.specs.contracts.refusal.Refusal.number as terms_refusal_number
use Rattle.wire.specs.contracts.number as wire_number
use Rattle.place.specs.contracts.Place.fresh as place_fresh
use Rattle.place.specs.contracts.Place.pin as place_pin
use Rattle.place.specs.contracts.Place.first_rises as place_first_rises
use Rattle.place.specs.contracts.Place.first_falls as place_first_falls
use Rattle.place.specs.contracts.Place.second_rises as place_second_rises
use Rattle.place.specs.contracts.Place.either_differs as place_either_differs
use Rattle.place.specs.contracts.pack as place_pack
use Rattle.switches.specs.contracts.bl as switches_bl
use Rattle.switches.specs.contracts.sr as switches_sr
use Rattle.switches.specs.contracts.pl as switches_pl
use Rattle.switches.specs.contracts.al as switches_al
use Rattle.timers.specs.contracts.dl as timers_dl
use Rattle.timers.specs.contracts.os as timers_os
use Rattle.timers.specs.contracts.fl as timers_fl
use Rattle.counters.specs.contracts.cn as counters_cn
use Rattle.counters.specs.contracts.ud as counters_ud
use Rattle.analog.specs.contracts.cp as analog_cp
use Rattle.analog.specs.contracts.og as analog_og
use Rattle.analog.specs.contracts.zc as analog_zc
use Rattle.analog.specs.contracts.st as analog_st
use Rattle.journal.specs.contracts.Entry.zero as journal_entry_zero
use Rattle.journal.specs.contracts.rises as journal_rises
use Rattle.journal.specs.contracts.Journal.fresh as journal_journal_fresh
use Rattle.journal.specs.contracts.Journal.rise as journal_journal_rise
use Rattle.journal.specs.contracts.Journal.take as journal_journal_take
use Rattle.image.specs.contracts.State.fresh as image_state_fresh
use Rattle.image.specs.contracts.fresh_in as image_fresh_in
use Rattle.image.specs.contracts.journal_in as image_journal_in
use Rattle.image.specs.contracts.put_journal as image_put_journal
use Rattle.inspection.specs.contracts.good as inspection_good
use Rattle.inspection.specs.contracts.is_late as inspection_is_late
use Rattle.log_book.specs.contracts.close as logbook_close
use Rattle.log_book.specs.contracts.hand_out as logbook_hand_out
use Rattle.copies.specs.contracts.copy_first as copies_copy_first
use Rattle.loading.specs.contracts.load_bits as loading_load_bits
use Rattle.loading.specs.contracts.load_words as loading_load_words
use Rattle.copies.specs.contracts.store_words as copies_store_words
use Rattle.copies.specs.contracts.store_outputs as copies_store_outputs
use Rattle.numbers.specs.contracts.read_number as numbers_read_number
use Rattle.nodes.specs.contracts.head as nodes_head
use Rattle.nodes.specs.contracts.pass as nodes_pass
use Rattle.spelling.specs.contracts.byte_at as spelling_byte_at
use Rattle.spelling.specs.contracts.skip_spaces as spelling_skip_spaces
use Rattle.spelling.specs.contracts.read_name as spelling_read_name
use Rattle.spelling.specs.contracts.read_sign as spelling_read_sign
use Rattle.nodelist.specs.contracts.put as nodelist_put
use Rattle.nodelist.specs.contracts.insert as nodelist_insert
use Rattle.parsing.specs.contracts.list_nodes as parsing_list_nodes
use Rattle.formula.specs.contracts.read_formula as formula_read_formula
use Rattle.kinds.specs.contracts.memory_of as kinds_memory_of
use Rattle.kinds.specs.contracts.figure_of as kinds_figure_of
use Rattle.kinds.specs.contracts.mark_of as kinds_mark_of
use Rattle.block.specs.contracts.read_row as block_read_row
use Rattle.block.specs.contracts.read_block as block_read_block
use Rattle.program.specs.contracts.accept as program_accept
use Rattle.expression.specs.contracts.eval as expression_eval
use Rattle.rules.specs.contracts.apply as rules_apply
use Rattle.running.specs.contracts.turn as running_turn
use Rattle.turns.specs.contracts.turns as turns_turns
use Rattle.trial.specs.contracts.refused as trial_refused
use Rattle.trial.specs.contracts.try_program as trial_try_program
use Rattle.scanning.specs.contracts.run as scanning_run
use Rattle.calls.specs.contracts.refuse_after as calls_refuse_after
use Rattle.calls.specs.contracts.refuse_take as calls_refuse_take
use Rattle.console.specs.contracts.scan_in as console_scan_in
use Rattle.console.specs.contracts.take_in as console_take_in
use Rattle.states.specs.contracts.put_state as states_put_state
use Rattle.states.specs.contracts.state_in as states_state_in
use Rattle.hall.specs.contracts.scan as hall_scan
use Rattle.hall.specs.contracts.take as hall_take
use Rattle.lanwezik.specs.contracts.lanwezik_accept as lanwezik_accept
use Rattle.lanwezik.specs.contracts.lanwezik_formula as lanwezik_formula
use Rattle.lanwezik.specs.contracts.lanwezik_fresh_in as lanwezik_fresh_in
use Rattle.lanwezik.specs.contracts.lanwezik_scan_in as lanwezik_scan_in
use Rattle.lanwezik.specs.contracts.lanwezik_take_in as lanwezik_take_in
use Rattle.text.specs.contracts.put as text_put
use Rattle.text.specs.contracts.put_number as text_put_number
use Rattle.lines.specs.contracts.write_line as lines_write_line
use Rattle.lines.specs.contracts.write_refused as lines_write_refused
use Rattle.lines.specs.contracts.write_bad_scan as lines_write_bad_scan
use Rattle.lines.specs.contracts.write_bad_program as lines_write_bad_program
use Rattle.recording.specs.contracts.read_scan as recording_read_scan
use Rattle.recording.specs.contracts.read_head as recording_read_head
use Rattle.playback.specs.contracts.next_scan as playback_next_scan
use Rattle.playback.specs.contracts.open_recording as playback_open_recording
use Rattle.telling.specs.contracts.Player.fresh as telling_player_fresh
use Rattle.telling.specs.contracts.ended as telling_ended
use Rattle.telling.specs.contracts.play as telling_play
use Rattle.feeding.specs.contracts.feed as feeding_feed
use Rattle.feeding.specs.contracts.finish as feeding_finish
use Rattle.reading.specs.contracts.told_by as reading_told_by
use Rattle.reading.specs.contracts.move_down as reading_move_down
use Rattle.keeping.specs.contracts.feed_window as keeping_feed_window
use Rattle.intake.specs.contracts.go_on as intake_go_on
use Rattle.io.specs.contracts.buffer as io_buffer

-- an array at exit, lent for writing or for reading, and the log, the columns, the image and a scan's arrays that the parameters from one on are
abbrev Exit : Type 0 → Type 0
Exit A = MutBor (List A)

abbrev Read : Type 0 → Type 0
Read A = Bor (List A)

abbrev pub log_from : {Z : Type 0} → Exit ℕ × (Exit ℕ × (Exit ℕ × Z)) → Log
log_from u = log u.0.now u.1.0.now u.1.1.0.now

abbrev pub columns_from : {Z : Type 0} → Exit ℕ × (Exit ℤ × (Exit ℕ × (Exit ℕ × Z))) → Columns
columns_from u = columns u.0.now u.1.0.now u.1.1.0.now u.1.1.1.0.now

abbrev pub image_from : {Z : Type 0} → Exit ℕ × (Exit ℕ × (Exit ℕ × (Exit ℕ × (Exit ℤ × (Exit ℕ × (Exit ℕ × Z)))))) → Image
image_from u = image (log_from u) (columns_from u.1.1.1)

-- the same where the columns are lent for reading
abbrev pub image_read_from : {Z : Type 0} → Exit ℕ × (Exit ℕ × (Exit ℕ × (Read ℕ × (Read ℤ × (Read ℕ × (Read ℕ × Z)))))) → Image
image_read_from u = image (log_from u) (columns u.1.1.1.0.now u.1.1.1.1.0.now u.1.1.1.1.1.0.now u.1.1.1.1.1.1.0.now)

abbrev pub arrays_from : {Z : Type 0} → Exit Bool × (Exit ℤ × (Exit ℕ × (Exit ℕ × Z))) → Arrays
arrays_from u = arrays u.0.now u.1.0.now u.1.1.0.now u.1.1.1.0.now

module _ {M : Type 1} {𝓤 : Ura M} (𝓛 : Logic 𝓤) where
  abbrev 𝓝 : Connectives 𝓤
  𝓝 = connectives 𝓤

  open 𝓝 use {⌜◌⌝, ∀ₛ, ∃ₛ, ◌∧ₛ◌, ◌∨ₛ◌, ◌→ₛ◌, ◌∗◌, ◌-∗◌, ⊤ₛ, ⊥ₛ, ◌>>◌}

  -- a contract: it may speak of the memory and of what runs, which no contract here does
  abbrev pub Contract : Ended → Type 2
  Contract T = (Memory → SProp 𝓤) → (Routine → Fun 𝓤) → Clauses 𝓤 T

  abbrev pub Ghost : (T : Ended) → Contract T → (κs : Lfts T.signature.lifetimes) → Args T.signature κs → Type 0
  Ghost T c κs a = (c (λ _. ⊤ₛ) (λ _ vs k. ⊤ₛ) κs a).ghost

  abbrev pub learnt : (T : Ended) (c : Contract T) (κs : Lfts T.signature.lifetimes) (a : Args T.signature κs) →
      Ghost T c κs a → Res T.signature κs → AtExit T κs → SProp 𝓤
  learnt T c κs a g x u = (c (λ _. ⊤ₛ) (λ _ vs k. ⊤ₛ) κs a).ensures g x u

  -- any two answers that meet a contract on the same arguments are equal
  abbrev pub Determined : (T : Ended) → Contract T → SProp 𝓤
  Determined T c =
      ∀ₛ (λ (κs : Lfts T.signature.lifetimes). ∀ₛ (λ (a : Args T.signature κs). ∀ₛ (λ (g : Ghost T c κs a).
      ∀ₛ (λ (x : Res T.signature κs). ∀ₛ (λ (y : Res T.signature κs). ∀ₛ (λ (u : AtExit T κs). ∀ₛ (λ (v : AtExit T κs).
      (learnt T c κs a g x u ∧ₛ learnt T c κs a g y v) →ₛ ⌜ x ≡ y ⌝)))))))

  -- the same of the answer and of what a buffer lent for writing holds at exit
  abbrev pub DeterminedWith : {L : Type 0} (T : Ended) → Contract T → ((κs : Lfts T.signature.lifetimes) → AtExit T κs → L) → SProp 𝓤
  DeterminedWith T c lent =
      ∀ₛ (λ (κs : Lfts T.signature.lifetimes). ∀ₛ (λ (a : Args T.signature κs). ∀ₛ (λ (g : Ghost T c κs a).
      ∀ₛ (λ (x : Res T.signature κs). ∀ₛ (λ (y : Res T.signature κs). ∀ₛ (λ (u : AtExit T κs). ∀ₛ (λ (v : AtExit T κs).
      (learnt T c κs a g x u ∧ₛ learnt T c κs a g y v) →ₛ ⌜ (x ≡ y) × (lent κs u ≡ lent κs v) ⌝)))))))

  -- the same of a generic function, of any type that can be copied
  abbrev pub DeterminedOfAny :
      {L : RattleType → Type 0} (T : (A : RattleType) → Ghosts A.Denot → Dict → Ended) → ((A : RattleType) (g : Ghosts A.Denot) (d : Dict) → Contract (T A g d))
      → ((A : RattleType) (g : Ghosts A.Denot) (d : Dict) (κs : Lfts (T A g d).signature.lifetimes) → AtExit (T A g d) κs → L A) → SProp 𝓤
  DeterminedOfAny T c lent =
      all 𝓤 (λ (A : RattleType). all 𝓤 (λ (g : Ghosts A.Denot). all 𝓤 (λ (d : Dict). DeterminedWith (T A g d) (c A g d) (lent A g d))))

  abbrev pub Determinacy : SProp 𝓤
  Determinacy =
      Determined terms_signed.ended (terms_signed.clauses 𝓛)
      ∧ₛ Determined terms_hold.ended (terms_hold.clauses 𝓛)
      ∧ₛ Determined terms_refusal_number.ended (terms_refusal_number.clauses 𝓛)
      ∧ₛ Determined wire_number.ended (wire_number.clauses 𝓛)
      ∧ₛ Determined place_fresh.ended (place_fresh.clauses 𝓛)
      ∧ₛ Determined place_pin.ended (place_pin.clauses 𝓛)
      ∧ₛ Determined place_first_rises.ended (place_first_rises.clauses 𝓛)
      ∧ₛ Determined place_first_falls.ended (place_first_falls.clauses 𝓛)
      ∧ₛ Determined place_second_rises.ended (place_second_rises.clauses 𝓛)
      ∧ₛ Determined place_either_differs.ended (place_either_differs.clauses 𝓛)
      ∧ₛ Determined place_pack.ended (place_pack.clauses 𝓛)
      ∧ₛ Determined switches_bl.ended (switches_bl.clauses 𝓛)
      ∧ₛ Determined switches_sr.ended (switches_sr.clauses 𝓛)
      ∧ₛ Determined switches_pl.ended (switches_pl.clauses 𝓛)
      ∧ₛ Determined switches_al.ended (switches_al.clauses 𝓛)
      ∧ₛ Determined timers_dl.ended (timers_dl.clauses 𝓛)
      ∧ₛ Determined timers_os.ended (timers_os.clauses 𝓛)
      ∧ₛ Determined timers_fl.ended (timers_fl.clauses 𝓛)
      ∧ₛ Determined counters_cn.ended (counters_cn.clauses 𝓛)
      ∧ₛ Determined counters_ud.ended (counters_ud.clauses 𝓛)
      ∧ₛ Determined analog_cp.ended (analog_cp.clauses 𝓛)
      ∧ₛ Determined analog_og.ended (analog_og.clauses 𝓛)
      ∧ₛ Determined analog_zc.ended (analog_zc.clauses 𝓛)
      ∧ₛ Determined analog_st.ended (analog_st.clauses 𝓛)
      ∧ₛ Determined journal_entry_zero.ended (journal_entry_zero.clauses 𝓛)
      ∧ₛ Determined journal_rises.ended (journal_rises.clauses 𝓛)
      ∧ₛ Determined journal_journal_fresh.ended (journal_journal_fresh.clauses 𝓛)
      ∧ₛ Determined journal_journal_rise.ended (journal_journal_rise.clauses 𝓛)
      ∧ₛ Determined journal_journal_take.ended (journal_journal_take.clauses 𝓛)
      ∧ₛ Determined image_state_fresh.ended (image_state_fresh.clauses 𝓛)
      ∧ₛ DeterminedWith image_fresh_in.ended (image_fresh_in.clauses 𝓛) (λ κ u. image_from u)
      ∧ₛ Determined image_journal_in.ended (image_journal_in.clauses 𝓛)
      ∧ₛ DeterminedWith image_put_journal.ended (image_put_journal.clauses 𝓛) (λ κ u. log_from u.1)
      ∧ₛ Determined inspection_good.ended (inspection_good.clauses 𝓛)
      ∧ₛ Determined inspection_is_late.ended (inspection_is_late.clauses 𝓛)
      ∧ₛ DeterminedWith logbook_close.ended (logbook_close.clauses 𝓛) (λ κ u. log_from u.1.1)
      ∧ₛ DeterminedWith logbook_hand_out.ended (logbook_hand_out.clauses 𝓛) (λ κ u. log_from u)
      ∧ₛ DeterminedOfAny {L = λ A. List A.Denot} copies_copy_first.ended (λ A g d. copies_copy_first.clauses A g d 𝓛) (λ A g d κ u. u.1.1.0.now)
      ∧ₛ DeterminedWith loading_load_bits.ended (loading_load_bits.clauses 𝓛) (λ κ u. u.1.1.1.0.now)
      ∧ₛ DeterminedWith loading_load_words.ended (loading_load_words.clauses 𝓛) (λ κ u. u.1.1.1.0.now)
      ∧ₛ DeterminedWith copies_store_words.ended (copies_store_words.clauses 𝓛) (λ κ u. u.1.1.0.now)
      ∧ₛ DeterminedWith copies_store_outputs.ended (copies_store_outputs.clauses 𝓛) (λ κ u. u.1.1.0.now)
      ∧ₛ Determined numbers_read_number.ended (numbers_read_number.clauses 𝓛)
      ∧ₛ Determined nodes_head.ended (nodes_head.clauses 𝓛)
      ∧ₛ Determined nodes_pass.ended (nodes_pass.clauses 𝓛)
      ∧ₛ Determined spelling_byte_at.ended (spelling_byte_at.clauses 𝓛)
      ∧ₛ Determined spelling_skip_spaces.ended (spelling_skip_spaces.clauses 𝓛)
      ∧ₛ Determined spelling_read_name.ended (spelling_read_name.clauses 𝓛)
      ∧ₛ Determined spelling_read_sign.ended (spelling_read_sign.clauses 𝓛)
      ∧ₛ DeterminedWith nodelist_put.ended (nodelist_put.clauses 𝓛) (λ κ u. u.0.now)
      ∧ₛ DeterminedWith nodelist_insert.ended (nodelist_insert.clauses 𝓛) (λ κ u. u.0.now)
      ∧ₛ Determined parsing_list_nodes.ended (parsing_list_nodes.clauses 𝓛)
      ∧ₛ Determined formula_read_formula.ended (formula_read_formula.clauses 𝓛)
      ∧ₛ Determined kinds_memory_of.ended (kinds_memory_of.clauses 𝓛)
      ∧ₛ Determined kinds_figure_of.ended (kinds_figure_of.clauses 𝓛)
      ∧ₛ Determined kinds_mark_of.ended (kinds_mark_of.clauses 𝓛)
      ∧ₛ Determined block_read_row.ended (block_read_row.clauses 𝓛)
      ∧ₛ Determined block_read_block.ended (block_read_block.clauses 𝓛)
      ∧ₛ Determined program_accept.ended (program_accept.clauses 𝓛)
      ∧ₛ Determined expression_eval.ended (expression_eval.clauses 𝓛)
      ∧ₛ Determined rules_apply.ended (rules_apply.clauses 𝓛)
      ∧ₛ DeterminedWith running_turn.ended (running_turn.clauses 𝓛) (λ κ u. u.1.1.1.1.1.1.1.0.now)
      ∧ₛ DeterminedWith turns_turns.ended (turns_turns.clauses 𝓛) (λ κ u. arrays_from u.1.1.1.1.1)
      ∧ₛ Determined trial_refused.ended (trial_refused.clauses 𝓛)
      ∧ₛ DeterminedWith trial_try_program.ended (trial_try_program.clauses 𝓛) (λ κ u. arrays_from u.1.1.1.1)
      ∧ₛ DeterminedWith scanning_run.ended (scanning_run.clauses 𝓛) (λ κ u. columns_from u.1.1.1.1)
      ∧ₛ Determined calls_refuse_after.ended (calls_refuse_after.clauses 𝓛)
      ∧ₛ Determined calls_refuse_take.ended (calls_refuse_take.clauses 𝓛)
      ∧ₛ DeterminedWith console_scan_in.ended (console_scan_in.clauses 𝓛) (λ κ u. image_from u.1)
      ∧ₛ DeterminedWith console_take_in.ended (console_take_in.clauses 𝓛) (λ κ u. image_read_from u)
      ∧ₛ DeterminedWith states_put_state.ended (states_put_state.clauses 𝓛) (λ κ u. image_from u.1)
      ∧ₛ Determined states_state_in.ended (states_state_in.clauses 𝓛)
      ∧ₛ Determined hall_scan.ended (hall_scan.clauses 𝓛)
      ∧ₛ Determined hall_take.ended (hall_take.clauses 𝓛)
      ∧ₛ Determined lanwezik_accept.ended (lanwezik_accept.clauses 𝓛)
      ∧ₛ DeterminedWith lanwezik_fresh_in.ended (lanwezik_fresh_in.clauses 𝓛) (λ κ u. image_from u)
      ∧ₛ DeterminedWith lanwezik_scan_in.ended (lanwezik_scan_in.clauses 𝓛) (λ κ u. image_from u.1)
      ∧ₛ DeterminedWith lanwezik_take_in.ended (lanwezik_take_in.clauses 𝓛) (λ κ u. image_read_from u)
      ∧ₛ Determined lanwezik_formula.ended (lanwezik_formula.clauses 𝓛)
      ∧ₛ DeterminedWith text_put.ended (text_put.clauses 𝓛) (λ κ u. u.0.now)
      ∧ₛ DeterminedWith text_put_number.ended (text_put_number.clauses 𝓛) (λ κ u. u.0.now)
      ∧ₛ DeterminedWith lines_write_line.ended (lines_write_line.clauses 𝓛) (λ κ u. u.0.now)
      ∧ₛ DeterminedWith lines_write_refused.ended (lines_write_refused.clauses 𝓛) (λ κ u. u.0.now)
      ∧ₛ DeterminedWith lines_write_bad_scan.ended (lines_write_bad_scan.clauses 𝓛) (λ κ u. u.0.now)
      ∧ₛ DeterminedWith lines_write_bad_program.ended (lines_write_bad_program.clauses 𝓛) (λ κ u. u.0.now)
      ∧ₛ Determined recording_read_scan.ended (recording_read_scan.clauses 𝓛)
      ∧ₛ Determined recording_read_head.ended (recording_read_head.clauses 𝓛)
      ∧ₛ Determined playback_next_scan.ended (playback_next_scan.clauses 𝓛)
      ∧ₛ DeterminedWith playback_open_recording.ended (playback_open_recording.clauses 𝓛) (λ κ u. u.1.0.now)
      ∧ₛ Determined telling_player_fresh.ended (telling_player_fresh.clauses 𝓛)
      ∧ₛ Determined telling_ended.ended (telling_ended.clauses 𝓛)
      ∧ₛ DeterminedWith telling_play.ended (telling_play.clauses 𝓛) (λ κ u. u.1.1.1.1.0.now)
      ∧ₛ DeterminedWith {L = List ℕ × List ℕ} feeding_feed.ended (feeding_feed.clauses 𝓛) (λ κ u. (u.1.1.0.now, u.1.1.1.0.now))
      ∧ₛ DeterminedWith feeding_finish.ended (feeding_finish.clauses 𝓛) (λ κ u. u.1.1.0.now)
      ∧ₛ Determined reading_told_by.ended (reading_told_by.clauses 𝓛)
      ∧ₛ DeterminedWith reading_move_down.ended (reading_move_down.clauses 𝓛) (λ κ u. u.0.now)
      ∧ₛ DeterminedWith {L = List ℕ × (List ℕ × List ℕ)} keeping_feed_window.ended (keeping_feed_window.clauses 𝓛) (λ κ u. (u.0.now, (u.1.1.1.0.now, u.1.1.1.1.0.now)))
      ∧ₛ DeterminedWith {L = List ℕ × (List ℕ × List ℕ)} intake_go_on.ended (intake_go_on.clauses 𝓛) (λ κ u. (u.1.0.now, (u.1.1.1.0.now, u.1.1.1.1.0.now)))
      -- and a loose contract does not: all that the kit's `io::buffer` ensures is how long the buffer is
      ∧ₛ (Determined io_buffer.ended (io_buffer.clauses 𝓛) →ₛ ⌜ ⊥ ⌝)
