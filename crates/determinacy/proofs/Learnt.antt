-- The same of what a contract tells a caller, as Rattle reads that off the source for proofs (`Reads.Learnt`): a clause may not speak of it, a law may.
use Prim.Native.Nat.{ℕ}
use mathlib.Core.Path.{◌≡◌, refl, sym, ◌∙◌}
use mathlib.Core.List.{List}
use lib.ListN.{length-replicate}
use denote.RattleType.{RattleType}
use denote.Param.Laws.{Laws, IsCopy}
use mir.Syntax.{Dict}
use Rattle.std.specs.declared.clone.Clone.{Ghosts}
use Rattle.typed.proofs.Answering.{one_answer}
use Rattle.determinacy.specs.Determinacy.{log_from, columns_from, image_from, image_read_from, arrays_from}
use Rattle.determinacy.proofs.Loose.{filled, differ}
use Rattle.terms.proofs.signed.Reads as terms_signed
use Rattle.terms.proofs.hold.Reads as terms_hold
use Rattle.terms.proofs.refusal.Refusal.number.Reads as terms_refusal_number
use Rattle.wire.proofs.number.Reads as wire_number
use Rattle.place.proofs.Place.fresh.Reads as place_fresh
use Rattle.place.proofs.Place.pin.Reads as place_pin
use Rattle.place.proofs.Place.first_rises.Reads as place_first_rises
use Rattle.place.proofs.Place.first_falls.Reads as place_first_falls
use Rattle.place.proofs.Place.second_rises.Reads as place_second_rises
use Rattle.place.proofs.Place.either_differs.Reads as place_either_differs
use Rattle.place.proofs.pack.Reads as place_pack
use Rattle.switches.proofs.bl.Reads as switches_bl
use Rattle.switches.proofs.sr.Reads as switches_sr
use Rattle.switches.proofs.pl.Reads as switches_pl
use Rattle.switches.proofs.al.Reads as switches_al
use Rattle.timers.proofs.dl.Reads as timers_dl
use Rattle.timers.proofs.os.Reads as timers_os
use Rattle.timers.proofs.fl.Reads as timers_fl
use Rattle.counters.proofs.cn.Reads as counters_cn
use Rattle.counters.proofs.ud.Reads as counters_ud
use Rattle.analog.proofs.cp.Reads as analog_cp
use Rattle.analog.proofs.og.Reads as analog_og
use Rattle.analog.proofs.zc.Reads as analog_zc
use Rattle.analog.proofs.st.Reads as analog_st
use Rattle.journal.proofs.Entry.zero.Reads as journal_entry_zero
use Rattle.journal.proofs.rises.Reads as journal_rises
use Rattle.journal.proofs.Journal.fresh.Reads as journal_journal_fresh
use Rattle.journal.proofs.Journal.rise.Reads as journal_journal_rise
use Rattle.journal.proofs.Journal.take.Reads as journal_journal_take
use Rattle.image.proofs.State.fresh.Reads as image_state_fresh
use Rattle.image.proofs.fresh_in.Reads as image_fresh_in
use Rattle.image.proofs.journal_in.Reads as image_journal_in
use Rattle.image.proofs.put_journal.Reads as image_put_journal
use Rattle.inspection.proofs.good.Reads as inspection_good
use Rattle.inspection.proofs.is_late.Reads as inspection_is_late
use Rattle.log_book.proofs.close.Reads as logbook_close
use Rattle.log_book.proofs.hand_out.Reads as logbook_hand_out
use Rattle.loading.proofs.load_bits.Reads as loading_load_bits
use Rattle.loading.proofs.load_words.Reads as loading_load_words
use Rattle.copies.proofs.copy_first.Reads as copies_copy_first
use Rattle.copies.proofs.store_words.Reads as copies_store_words
use Rattle.copies.proofs.store_outputs.Reads as copies_store_outputs
use Rattle.numbers.proofs.read_number.Reads as numbers_read_number
use Rattle.nodes.proofs.head.Reads as nodes_head
use Rattle.nodes.proofs.pass.Reads as nodes_pass
use Rattle.spelling.proofs.byte_at.Reads as spelling_byte_at
use Rattle.spelling.proofs.skip_spaces.Reads as spelling_skip_spaces
use Rattle.spelling.proofs.read_name.Reads as spelling_read_name
use Rattle.spelling.proofs.read_sign.Reads as spelling_read_sign
use Rattle.nodelist.proofs.put.Reads as nodelist_put
use Rattle.nodelist.proofs.insert.Reads as nodelist_insert
use Rattle.parsing.proofs.list_nodes.Reads as parsing_list_nodes
use Rattle.formula.proofs.read_formula.Reads as formula_read_formula
use Rattle.kinds.proofs.memory_of.Reads as kinds_memory_of
use Rattle.kinds.proofs.figure_of.Reads as kinds_figure_of
use Rattle.kinds.proofs.mark_of.Reads as kinds_mark_of
use Rattle.block.proofs.read_row.Reads as block_read_row
use Rattle.block.proofs.read_block.Reads as block_read_block
use Rattle.program.proofs.accept.Reads as program_accept
use Rattle.expression.proofs.eval.Reads as expression_eval
use Rattle.rules.proofs.apply.Reads as rules_apply
use Rattle.running.proofs.turn.Reads as running_turn
use Rattle.turns.proofs.turns.Reads as turns_turns
use Rattle.trial.proofs.refused.Reads as trial_refused
use Rattle.trial.proofs.try_program.Reads as trial_try_program
use Rattle.scanning.proofs.run.Reads as scanning_run
use Rattle.calls.proofs.refuse_after.Reads as calls_refuse_after
use Rattle.calls.proofs.refuse_take.Reads as calls_refuse_take
use Rattle.console.proofs.scan_in.Reads as console_scan_in
use Rattle.console.proofs.take_in.Reads as console_take_in
use Rattle.states.proofs.put_state.Reads as states_put_state
use Rattle.states.proofs.state_in.Reads as states_state_in
use Rattle.hall.proofs.scan.Reads as hall_scan
use Rattle.hall.proofs.take.Reads as hall_take
use Rattle.lanwezik.proofs.lanwezik_accept.Reads as lanwezik_accept
use Rattle.lanwezik.proofs.lanwezik_formula.Reads as lanwezik_formula
use Rattle.lanwezik.proofs.lanwezik_fresh_in.Reads as lanwezik_fresh_in
use Rattle.lanwezik.proofs.lanwezik_scan_in.Reads as lanwezik_scan_in
use Rattle.lanwezik.proofs.lanwezik_take_in.Reads as lanwezik_take_in
use Rattle.text.proofs.put.Reads as text_put
use Rattle.text.proofs.put_number.Reads as text_put_number
use Rattle.lines.proofs.write_line.Reads as lines_write_line
use Rattle.lines.proofs.write_refused.Reads as lines_write_refused
use Rattle.lines.proofs.write_bad_scan.Reads as lines_write_bad_scan
use Rattle.lines.proofs.write_bad_program.Reads as lines_write_bad_program
use Rattle.recording.proofs.read_scan.Reads as recording_read_scan
use Rattle.recording.proofs.read_head.Reads as recording_read_head
use Rattle.playback.proofs.next_scan.Reads as playback_next_scan
use Rattle.playback.proofs.open_recording.Reads as playback_open_recording
use Rattle.telling.proofs.Player.fresh.Reads as telling_player_fresh
use Rattle.telling.proofs.ended.Reads as telling_ended
use Rattle.telling.proofs.play.Reads as telling_play
use Rattle.feeding.proofs.feed.Reads as feeding_feed
use Rattle.feeding.proofs.finish.Reads as feeding_finish
use Rattle.reading.proofs.told_by.Reads as reading_told_by
use Rattle.reading.proofs.move_down.Reads as reading_move_down
use Rattle.keeping.proofs.feed_window.Reads as keeping_feed_window
use Rattle.intake.proofs.go_on.Reads as intake_go_on
use Rattle.io.proofs.buffer.Reads as io_buffer
use Rattle.wire.proofs.Answered.{one_read}
use Rattle.nodes.proofs.Answered.{one_node, one_pass}
use Rattle.expression.proofs.Answered.{one_value}
use Rattle.block.proofs.Answered.{one_row, one_brief}
use Rattle.running.proofs.Answered.{one_turn}
use Rattle.determinacy.proofs.Same.{same_two, kept_same, went_same, listed_same, formulas_same}

-- any two answers that meet a contract on the same arguments are equal
abbrev pub Determined : {K : Type 0} {A B E : K → Type 0} → ((κ : K) → A κ → B κ → E κ → Type 0) → Type 0
Determined {K} {A} {B} {E} Learnt = (κ : K) (a : A κ) (x y : B κ) (u v : E κ) → Learnt κ a x u → Learnt κ a y v → x ≡ y

-- the same of the answer and of what a buffer lent for writing holds at exit
abbrev pub DeterminedWith : {L : Type 0} {K : Type 0} {A B E : K → Type 0} → ((κ : K) → E κ → L) → ((κ : K) → A κ → B κ → E κ → Type 0) → Type 0
DeterminedWith {L} {K} {A} {B} {E} lent Learnt =
    (κ : K) (a : A κ) (x y : B κ) (u v : E κ) → Learnt κ a x u → Learnt κ a y v → (x ≡ y) × (lent κ u ≡ lent κ v)

pub record Determinacy : Type 2 where
  pub terms_signed : Determined terms_signed.Learnt
  pub terms_hold : Determined terms_hold.Learnt
  pub terms_refusal_number : Determined terms_refusal_number.Learnt
  pub wire_number : Determined wire_number.Learnt
  pub place_fresh : Determined place_fresh.Learnt
  pub place_pin : Determined place_pin.Learnt
  pub place_first_rises : Determined place_first_rises.Learnt
  pub place_first_falls : Determined place_first_falls.Learnt
  pub place_second_rises : Determined place_second_rises.Learnt
  pub place_either_differs : Determined place_either_differs.Learnt
  pub place_pack : Determined place_pack.Learnt
  pub switches_bl : Determined switches_bl.Learnt
  pub switches_sr : Determined switches_sr.Learnt
  pub switches_pl : Determined switches_pl.Learnt
  pub switches_al : Determined switches_al.Learnt
  pub timers_dl : Determined timers_dl.Learnt
  pub timers_os : Determined timers_os.Learnt
  pub timers_fl : Determined timers_fl.Learnt
  pub counters_cn : Determined counters_cn.Learnt
  pub counters_ud : Determined counters_ud.Learnt
  pub analog_cp : Determined analog_cp.Learnt
  pub analog_og : Determined analog_og.Learnt
  pub analog_zc : Determined analog_zc.Learnt
  pub analog_st : Determined analog_st.Learnt
  pub journal_entry_zero : Determined journal_entry_zero.Learnt
  pub journal_rises : Determined journal_rises.Learnt
  pub journal_journal_fresh : Determined journal_journal_fresh.Learnt
  pub journal_journal_rise : Determined journal_journal_rise.Learnt
  pub journal_journal_take : Determined journal_journal_take.Learnt
  pub image_state_fresh : Determined image_state_fresh.Learnt
  pub image_fresh_in : DeterminedWith (λ κ u. image_from u) image_fresh_in.Learnt
  pub image_journal_in : Determined image_journal_in.Learnt
  pub image_put_journal : DeterminedWith (λ κ u. log_from u.1) image_put_journal.Learnt
  pub inspection_good : Determined inspection_good.Learnt
  pub inspection_is_late : Determined inspection_is_late.Learnt
  pub logbook_close : DeterminedWith (λ κ u. log_from u.1.1) logbook_close.Learnt
  pub logbook_hand_out : DeterminedWith (λ κ u. log_from u) logbook_hand_out.Learnt
  pub copies_copy_first : (T : RattleType) (l : Laws T) (c : IsCopy T) (g : Ghosts T.Denot) (d : Dict) → DeterminedWith (λ κ u. u.1.1.0.now) (copies_copy_first.Learnt T l c g d)
  pub loading_load_bits : DeterminedWith (λ κ u. u.1.1.1.0.now) loading_load_bits.Learnt
  pub loading_load_words : DeterminedWith (λ κ u. u.1.1.1.0.now) loading_load_words.Learnt
  pub copies_store_words : DeterminedWith (λ κ u. u.1.1.0.now) copies_store_words.Learnt
  pub copies_store_outputs : DeterminedWith (λ κ u. u.1.1.0.now) copies_store_outputs.Learnt
  pub numbers_read_number : Determined numbers_read_number.Learnt
  pub nodes_head : Determined nodes_head.Learnt
  pub nodes_pass : Determined nodes_pass.Learnt
  pub spelling_byte_at : Determined spelling_byte_at.Learnt
  pub spelling_skip_spaces : Determined spelling_skip_spaces.Learnt
  pub spelling_read_name : Determined spelling_read_name.Learnt
  pub spelling_read_sign : Determined spelling_read_sign.Learnt
  pub nodelist_put : DeterminedWith (λ κ u. u.0.now) nodelist_put.Learnt
  pub nodelist_insert : DeterminedWith (λ κ u. u.0.now) nodelist_insert.Learnt
  pub parsing_list_nodes : Determined parsing_list_nodes.Learnt
  pub formula_read_formula : Determined formula_read_formula.Learnt
  pub kinds_memory_of : Determined kinds_memory_of.Learnt
  pub kinds_figure_of : Determined kinds_figure_of.Learnt
  pub kinds_mark_of : Determined kinds_mark_of.Learnt
  pub block_read_row : Determined block_read_row.Learnt
  pub block_read_block : Determined block_read_block.Learnt
  pub program_accept : Determined program_accept.Learnt
  pub expression_eval : Determined expression_eval.Learnt
  pub rules_apply : Determined rules_apply.Learnt
  pub running_turn : DeterminedWith (λ κ u. u.1.1.1.1.1.1.1.0.now) running_turn.Learnt
  pub turns_turns : DeterminedWith (λ κ u. arrays_from u.1.1.1.1.1) turns_turns.Learnt
  pub trial_refused : Determined trial_refused.Learnt
  pub trial_try_program : DeterminedWith (λ κ u. arrays_from u.1.1.1.1) trial_try_program.Learnt
  pub scanning_run : DeterminedWith (λ κ u. columns_from u.1.1.1.1) scanning_run.Learnt
  pub calls_refuse_after : Determined calls_refuse_after.Learnt
  pub calls_refuse_take : Determined calls_refuse_take.Learnt
  pub console_scan_in : DeterminedWith (λ κ u. image_from u.1) console_scan_in.Learnt
  pub console_take_in : DeterminedWith (λ κ u. image_read_from u) console_take_in.Learnt
  pub states_put_state : DeterminedWith (λ κ u. image_from u.1) states_put_state.Learnt
  pub states_state_in : Determined states_state_in.Learnt
  pub hall_scan : Determined hall_scan.Learnt
  pub hall_take : Determined hall_take.Learnt
  pub lanwezik_accept : Determined lanwezik_accept.Learnt
  pub lanwezik_fresh_in : DeterminedWith (λ κ u. image_from u) lanwezik_fresh_in.Learnt
  pub lanwezik_scan_in : DeterminedWith (λ κ u. image_from u.1) lanwezik_scan_in.Learnt
  pub lanwezik_take_in : DeterminedWith (λ κ u. image_read_from u) lanwezik_take_in.Learnt
  pub lanwezik_formula : Determined lanwezik_formula.Learnt
  pub text_put : DeterminedWith (λ κ u. u.0.now) text_put.Learnt
  pub text_put_number : DeterminedWith (λ κ u. u.0.now) text_put_number.Learnt
  pub lines_write_line : DeterminedWith (λ κ u. u.0.now) lines_write_line.Learnt
  pub lines_write_refused : DeterminedWith (λ κ u. u.0.now) lines_write_refused.Learnt
  pub lines_write_bad_scan : DeterminedWith (λ κ u. u.0.now) lines_write_bad_scan.Learnt
  pub lines_write_bad_program : DeterminedWith (λ κ u. u.0.now) lines_write_bad_program.Learnt
  pub recording_read_scan : Determined recording_read_scan.Learnt
  pub recording_read_head : Determined recording_read_head.Learnt
  pub playback_next_scan : Determined playback_next_scan.Learnt
  pub playback_open_recording : DeterminedWith (λ κ u. u.1.0.now) playback_open_recording.Learnt
  pub telling_player_fresh : Determined telling_player_fresh.Learnt
  pub telling_ended : Determined telling_ended.Learnt
  pub telling_play : DeterminedWith (λ κ u. u.1.1.1.1.0.now) telling_play.Learnt
  pub feeding_feed : DeterminedWith {L = List ℕ × List ℕ} (λ κ u. (u.1.1.0.now, u.1.1.1.0.now)) feeding_feed.Learnt
  pub feeding_finish : DeterminedWith (λ κ u. u.1.1.0.now) feeding_finish.Learnt
  pub reading_told_by : Determined reading_told_by.Learnt
  pub reading_move_down : DeterminedWith (λ κ u. u.0.now) reading_move_down.Learnt
  pub keeping_feed_window : DeterminedWith {L = List ℕ × (List ℕ × List ℕ)}
      (λ κ u. (u.0.now, (u.1.1.1.0.now, u.1.1.1.1.0.now))) keeping_feed_window.Learnt
  pub intake_go_on : DeterminedWith {L = List ℕ × (List ℕ × List ℕ)}
      (λ κ u. (u.1.0.now, (u.1.1.1.0.now, u.1.1.1.1.0.now))) intake_go_on.Learnt
  -- and a loose contract does not: all that the kit's `io::buffer` ensures is how long the buffer is
  pub loose : Determined io_buffer.Learnt → ⊥

-- two buffers of that length that differ
loose : Determined io_buffer.Learnt → ⊥
loose h = differ (h _ _ (filled 0) (filled 1) _ _ (sym (length-replicate {A = ℕ} 4096 0)) (sym (length-replicate {A = ℕ} 4096 1)))

pub all : Determinacy
all =
    record {
      terms_signed = λ κ a x y u v h k. cc;
      terms_hold = λ κ a x y u v h k. cc;
      terms_refusal_number = λ κ a x y u v h k. cc;
      wire_number = λ κ a x y u v h k. cc;
      place_fresh = λ κ a x y u v h k. cc;
      place_pin = λ κ a x y u v h k. cc;
      place_first_rises = λ κ a x y u v h k. cc;
      place_first_falls = λ κ a x y u v h k. cc;
      place_second_rises = λ κ a x y u v h k. cc;
      place_either_differs = λ κ a x y u v h k. cc;
      place_pack = λ κ a x y u v h k. cc;
      switches_bl = λ κ a x y u v h k. cc;
      switches_sr = λ κ a x y u v h k. cc;
      switches_pl = λ κ a x y u v h k. cc;
      switches_al = λ κ a x y u v h k. cc;
      timers_dl = λ κ a x y u v h k. cc;
      timers_os = λ κ a x y u v h k. cc;
      timers_fl = λ κ a x y u v h k. cc;
      counters_cn = λ κ a x y u v h k. cc;
      counters_ud = λ κ a x y u v h k. cc;
      analog_cp = λ κ a x y u v h k. cc;
      analog_og = λ κ a x y u v h k. cc;
      analog_zc = λ κ a x y u v h k. cc;
      analog_st = λ κ a x y u v h k. cc;
      journal_entry_zero = λ κ a x y u v h k. cc;
      journal_rises = λ κ a x y u v h k. cc;
      journal_journal_fresh = λ κ a x y u v h k. cc;
      journal_journal_rise = λ κ a x y u v h k. cc;
      journal_journal_take = λ κ a x y u v h k. cc;
      image_state_fresh = λ κ a x y u v h k. cc;
      image_fresh_in = λ κ a x y u v h k. (refl, h ∙ sym k);
      image_journal_in = λ κ a x y u v h k. cc;
      image_put_journal = λ κ a x y u v h k. (refl, h ∙ sym k);
      inspection_good = λ κ a x y u v h k. cc;
      inspection_is_late = λ κ a x y u v h k. cc;
      logbook_close = λ κ a x y u v h k. (h.0 ∙ sym k.0, h.1 ∙ sym k.1);
      logbook_hand_out = λ κ a x y u v h k. (h.0 ∙ sym k.0, h.1 ∙ sym k.1);
      copies_copy_first = λ T l c g d κ a x y u v h k. (refl, h ∙ sym k);
      loading_load_bits = λ κ a x y u v h k. (refl, h ∙ sym k);
      loading_load_words = λ κ a x y u v h k. (refl, h ∙ sym k);
      copies_store_words = λ κ a x y u v h k. (refl, h ∙ sym k);
      copies_store_outputs = λ κ a x y u v h k. (refl, h ∙ sym k);
      numbers_read_number = λ κ a x y u v h k. one_read _ _ (h ∙ sym k);
      nodes_head = λ κ a x y u v h k. one_node _ _ (h ∙ sym k);
      nodes_pass = λ κ a x y u v h k. one_pass _ _ (h ∙ sym k);
      spelling_byte_at = λ κ a x y u v h k. cc;
      spelling_skip_spaces = λ κ a x y u v h k. cc;
      spelling_read_name = λ κ a x y u v h k. cc;
      spelling_read_sign = λ κ a x y u v h k. cc;
      nodelist_put = λ κ a x y u v h k. (refl, h ∙ sym k);
      nodelist_insert = λ κ a x y u v h k. (refl, h ∙ sym k);
      parsing_list_nodes = λ κ a x y u v h k. listed_same _ h k;
      formula_read_formula = λ κ a x y u v h k. one_answer _ x y h k;
      kinds_memory_of = λ κ a x y u v h k. cc;
      kinds_figure_of = λ κ a x y u v h k. cc;
      kinds_mark_of = λ κ a x y u v h k. cc;
      block_read_row = λ κ a x y u v h k. one_row _ _ (h ∙ sym k);
      block_read_block = λ κ a x y u v h k. one_brief _ _ (h ∙ sym k);
      program_accept = λ κ a x y u v h k. cc;
      expression_eval = λ κ a x y u v h k. one_value _ _ (h ∙ sym k);
      rules_apply = λ κ a x y u v h k. cc;
      running_turn = λ κ a x y u v h k. (one_turn _ _ (h.0 ∙ sym k.0), h.1 ∙ sym k.1);
      turns_turns = λ κ a x y u v h k. (h.0 ∙ sym k.0, h.1 ∙ sym k.1);
      trial_refused = λ κ a x y u v h k. cc;
      trial_try_program = λ κ a x y u v h k. (h.0 ∙ sym k.0, h.1 ∙ sym k.1);
      scanning_run = λ κ a x y u v h k. (h.0 ∙ sym k.0, h.1 ∙ sym k.1);
      calls_refuse_after = λ κ a x y u v h k. cc;
      calls_refuse_take = λ κ a x y u v h k. cc;
      console_scan_in = λ κ a x y u v h k. (h.0 ∙ sym k.0, h.1 ∙ sym k.1);
      console_take_in = λ κ a x y u v h k. (h.0 ∙ sym k.0, h.1 ∙ sym k.1);
      states_put_state = λ κ a x y u v h k. (refl, h ∙ sym k);
      states_state_in = λ κ a x y u v h k. cc;
      hall_scan = λ κ a x y u v h k. cc;
      hall_take = λ κ a x y u v h k. cc;
      lanwezik_accept = λ κ a x y u v h k. cc;
      lanwezik_fresh_in = λ κ a x y u v h k. (refl, h ∙ sym k);
      lanwezik_scan_in = λ κ a x y u v h k. (h.0 ∙ sym k.0, h.1 ∙ sym k.1);
      lanwezik_take_in = λ κ a x y u v h k. (h.0 ∙ sym k.0, h.1 ∙ sym k.1);
      lanwezik_formula = λ κ a x y u v h k. formulas_same _ h k;
      text_put = λ κ a x y u v h k. (h.place ∙ sym k.place, h.bytes ∙ sym k.bytes);
      text_put_number = λ κ a x y u v h k. (h.place ∙ sym k.place, h.bytes ∙ sym k.bytes);
      lines_write_line = λ κ a x y u v h k. (h.place ∙ sym k.place, h.bytes ∙ sym k.bytes);
      lines_write_refused = λ κ a x y u v h k. (h.place ∙ sym k.place, h.bytes ∙ sym k.bytes);
      lines_write_bad_scan = λ κ a x y u v h k. (h.place ∙ sym k.place, h.bytes ∙ sym k.bytes);
      lines_write_bad_program = λ κ a x y u v h k. (h.place ∙ sym k.place, h.bytes ∙ sym k.bytes);
      recording_read_scan = λ κ a x y u v h k. cc;
      recording_read_head = λ κ a x y u v h k. cc;
      playback_next_scan = λ κ a x y u v h k. cc;
      playback_open_recording = λ κ a x y u v h k. (h.answer ∙ sym k.answer, h.program ∙ sym k.program);
      telling_player_fresh = λ κ a x y u v h k. cc;
      telling_ended = λ κ a x y u v h k. cc;
      telling_play = λ κ a x y u v h k. (h.answer ∙ sym k.answer, h.bytes ∙ sym k.bytes);
      feeding_feed =
          λ κ a x y u v h k. (h.told.answer ∙ sym k.told.answer, same_two (h.program ∙ sym k.program) (h.told.bytes ∙ sym k.told.bytes));
      feeding_finish = λ κ a x y u v h k. (h.place ∙ sym k.place, h.bytes ∙ sym k.bytes);
      reading_told_by = λ κ a x y u v h k. cc;
      reading_move_down = λ κ a x y u v h k. (h.0 ∙ sym k.0, h.1 ∙ sym k.1);
      keeping_feed_window = λ κ a x y u v h k. kept_same h k;
      intake_go_on = λ κ a x y u v h k. went_same h k;
      loose = loose;
    }
