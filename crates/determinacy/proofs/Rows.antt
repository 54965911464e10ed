-- Each row of `Determinacy`: each contract says that the answer is one definition of the arguments.
use Prim.Native.Nat.{ℕ}
use mathlib.Core.Path.{refl, sym, ◌∙◌}
use mathlib.Core.List.{List}
use Rattle.typed.proofs.Answering.{one_answer}
use seplogic.Ra.Ura.{Ura}
use base.Logic.{ent, emp, all_i}
use types.Logic.{Logic}
use Rattle.determinacy.specs.Determinacy.{DeterminedOfAny, Determined, DeterminedWith, log_from, columns_from, image_from, image_read_from, arrays_from}
use Rattle.determinacy.proofs.Facts.{two, four, determined, determined_with}
use Rattle.terms.specs.contracts.signed as terms_signed
use Rattle.terms.specs.contracts.hold as terms_hold
use Rattle.terms.specs.contracts.refusal.Refusal.number as terms_refusal_number
use Rattle.wire.specs.contracts.number as wire_number
use Rattle.place.specs.contracts.Place.fresh as place_fresh
use Rattle.place.specs.contracts.Place.pin as place_pin
use Rattle.place.specs.contracts.Place.first_rises as place_first_rises
use Rattle.place.specs.contracts.Place.first_falls as place_first_falls
use Rattle.place.specs.contracts.Place.second_rises as place_second_rises
use Rattle.place.specs.contracts.Place.either_differs as place_either_differs
use Rattle.place.specs.contracts.pack as place_pack
use Rattle.switches.specs.contracts.bl as switches_bl
use Rattle.switches.specs.contracts.sr as switches_sr
use Rattle.switches.specs.contracts.pl as switches_pl
use Rattle.switches.specs.contracts.al as switches_al
use Rattle.timers.specs.contracts.dl as timers_dl
use Rattle.timers.specs.contracts.os as timers_os
use Rattle.timers.specs.contracts.fl as timers_fl
use Rattle.counters.specs.contracts.cn as counters_cn
use Rattle.counters.specs.contracts.ud as counters_ud
use Rattle.analog.specs.contracts.cp as analog_cp
use Rattle.analog.specs.contracts.og as analog_og
use Rattle.analog.specs.contracts.zc as analog_zc
use Rattle.analog.specs.contracts.st as analog_st
use Rattle.journal.specs.contracts.Entry.zero as journal_entry_zero
use Rattle.journal.specs.contracts.rises as journal_rises
use Rattle.journal.specs.contracts.Journal.fresh as journal_journal_fresh
use Rattle.journal.specs.contracts.Journal.rise as journal_journal_rise
use Rattle.journal.specs.contracts.Journal.take as journal_journal_take
use Rattle.image.specs.contracts.State.fresh as image_state_fresh
use Rattle.image.specs.contracts.fresh_in as image_fresh_in
use Rattle.image.specs.contracts.journal_in as image_journal_in
use Rattle.image.specs.contracts.put_journal as image_put_journal
use Rattle.inspection.specs.contracts.good as inspection_good
use Rattle.inspection.specs.contracts.is_late as inspection_is_late
use Rattle.log_book.specs.contracts.close as logbook_close
use Rattle.log_book.specs.contracts.hand_out as logbook_hand_out
use Rattle.copies.specs.contracts.copy_first as copies_copy_first
use Rattle.loading.specs.contracts.load_bits as loading_load_bits
use Rattle.loading.specs.contracts.load_words as loading_load_words
use Rattle.copies.specs.contracts.store_words as copies_store_words
use Rattle.copies.specs.contracts.store_outputs as copies_store_outputs
use Rattle.numbers.specs.contracts.read_number as numbers_read_number
use Rattle.nodes.specs.contracts.head as nodes_head
use Rattle.nodes.specs.contracts.pass as nodes_pass
use Rattle.spelling.specs.contracts.byte_at as spelling_byte_at
use Rattle.spelling.specs.contracts.skip_spaces as spelling_skip_spaces
use Rattle.spelling.specs.contracts.read_name as spelling_read_name
use Rattle.spelling.specs.contracts.read_sign as spelling_read_sign
use Rattle.nodelist.specs.contracts.put as nodelist_put
use Rattle.nodelist.specs.contracts.insert as nodelist_insert
use Rattle.parsing.specs.contracts.list_nodes as parsing_list_nodes
use Rattle.formula.specs.contracts.read_formula as formula_read_formula
use Rattle.kinds.specs.contracts.memory_of as kinds_memory_of
use Rattle.kinds.specs.contracts.figure_of as kinds_figure_of
use Rattle.kinds.specs.contracts.mark_of as kinds_mark_of
use Rattle.block.specs.contracts.read_row as block_read_row
use Rattle.block.specs.contracts.read_block as block_read_block
use Rattle.program.specs.contracts.accept as program_accept
use Rattle.expression.specs.contracts.eval as expression_eval
use Rattle.rules.specs.contracts.apply as rules_apply
use Rattle.running.specs.contracts.turn as running_turn
use Rattle.turns.specs.contracts.turns as turns_turns
use Rattle.trial.specs.contracts.refused as trial_refused
use Rattle.trial.specs.contracts.try_program as trial_try_program
use Rattle.scanning.specs.contracts.run as scanning_run
use Rattle.calls.specs.contracts.refuse_after as calls_refuse_after
use Rattle.calls.specs.contracts.refuse_take as calls_refuse_take
use Rattle.console.specs.contracts.scan_in as console_scan_in
use Rattle.console.specs.contracts.take_in as console_take_in
use Rattle.states.specs.contracts.put_state as states_put_state
use Rattle.states.specs.contracts.state_in as states_state_in
use Rattle.hall.specs.contracts.scan as hall_scan
use Rattle.hall.specs.contracts.take as hall_take
use Rattle.lanwezik.specs.contracts.lanwezik_accept as lanwezik_accept
use Rattle.lanwezik.specs.contracts.lanwezik_formula as lanwezik_formula
use Rattle.lanwezik.specs.contracts.lanwezik_fresh_in as lanwezik_fresh_in
use Rattle.lanwezik.specs.contracts.lanwezik_scan_in as lanwezik_scan_in
use Rattle.lanwezik.specs.contracts.lanwezik_take_in as lanwezik_take_in
use Rattle.text.specs.contracts.put as text_put
use Rattle.text.specs.contracts.put_number as text_put_number
use Rattle.lines.specs.contracts.write_line as lines_write_line
use Rattle.lines.specs.contracts.write_refused as lines_write_refused
use Rattle.lines.specs.contracts.write_bad_scan as lines_write_bad_scan
use Rattle.lines.specs.contracts.write_bad_program as lines_write_bad_program
use Rattle.recording.specs.contracts.read_scan as recording_read_scan
use Rattle.recording.specs.contracts.read_head as recording_read_head
use Rattle.playback.specs.contracts.next_scan as playback_next_scan
use Rattle.playback.specs.contracts.open_recording as playback_open_recording
use Rattle.telling.specs.contracts.Player.fresh as telling_player_fresh
use Rattle.telling.specs.contracts.ended as telling_ended
use Rattle.telling.specs.contracts.play as telling_play
use Rattle.feeding.specs.contracts.feed as feeding_feed
use Rattle.feeding.specs.contracts.finish as feeding_finish
use Rattle.reading.specs.contracts.told_by as reading_told_by
use Rattle.reading.specs.contracts.move_down as reading_move_down
use Rattle.keeping.specs.contracts.feed_window as keeping_feed_window
use Rattle.intake.specs.contracts.go_on as intake_go_on
use Rattle.wire.proofs.Answered.{one_read}
use Rattle.nodes.proofs.Answered.{one_node, one_pass}
use Rattle.expression.proofs.Answered.{one_value}
use Rattle.block.proofs.Answered.{one_row, one_brief}
use Rattle.running.proofs.Answered.{one_turn}
use Rattle.determinacy.proofs.Same.{same_two, kept_same, went_same, listed_same, formulas_same}

module _ {M : Type 1} {𝓤 : Ura M} (𝓛 : Logic 𝓤) where
  pub terms_signed_row : ent 𝓤 (emp 𝓤) (Determined 𝓛 terms_signed.ended (terms_signed.clauses 𝓛))
  terms_signed_row = determined 𝓛 terms_signed.ended (terms_signed.clauses 𝓛) (λ κs a g x y u v. two 𝓤 _ _ _ (λ h k. cc))

  pub terms_hold_row : ent 𝓤 (emp 𝓤) (Determined 𝓛 terms_hold.ended (terms_hold.clauses 𝓛))
  terms_hold_row = determined 𝓛 terms_hold.ended (terms_hold.clauses 𝓛) (λ κs a g x y u v. two 𝓤 _ _ _ (λ h k. cc))

  pub terms_refusal_number_row : ent 𝓤 (emp 𝓤) (Determined 𝓛 terms_refusal_number.ended (terms_refusal_number.clauses 𝓛))
  terms_refusal_number_row =
      determined 𝓛 terms_refusal_number.ended (terms_refusal_number.clauses 𝓛) (λ κs a g x y u v. two 𝓤 _ _ _ (λ h k. cc))

  pub wire_number_row : ent 𝓤 (emp 𝓤) (Determined 𝓛 wire_number.ended (wire_number.clauses 𝓛))
  wire_number_row = determined 𝓛 wire_number.ended (wire_number.clauses 𝓛) (λ κs a g x y u v. two 𝓤 _ _ _ (λ h k. cc))

  pub place_fresh_row : ent 𝓤 (emp 𝓤) (Determined 𝓛 place_fresh.ended (place_fresh.clauses 𝓛))
  place_fresh_row = determined 𝓛 place_fresh.ended (place_fresh.clauses 𝓛) (λ κs a g x y u v. two 𝓤 _ _ _ (λ h k. cc))

  pub place_pin_row : ent 𝓤 (emp 𝓤) (Determined 𝓛 place_pin.ended (place_pin.clauses 𝓛))
  place_pin_row = determined 𝓛 place_pin.ended (place_pin.clauses 𝓛) (λ κs a g x y u v. two 𝓤 _ _ _ (λ h k. cc))

  pub place_first_rises_row : ent 𝓤 (emp 𝓤) (Determined 𝓛 place_first_rises.ended (place_first_rises.clauses 𝓛))
  place_first_rises_row = determined 𝓛 place_first_rises.ended (place_first_rises.clauses 𝓛) (λ κs a g x y u v. two 𝓤 _ _ _ (λ h k. cc))

  pub place_first_falls_row : ent 𝓤 (emp 𝓤) (Determined 𝓛 place_first_falls.ended (place_first_falls.clauses 𝓛))
  place_first_falls_row = determined 𝓛 place_first_falls.ended (place_first_falls.clauses 𝓛) (λ κs a g x y u v. two 𝓤 _ _ _ (λ h k. cc))

  pub place_second_rises_row : ent 𝓤 (emp 𝓤) (Determined 𝓛 place_second_rises.ended (place_second_rises.clauses 𝓛))
  place_second_rises_row = determined 𝓛 place_second_rises.ended (place_second_rises.clauses 𝓛) (λ κs a g x y u v. two 𝓤 _ _ _ (λ h k. cc))

  pub place_either_differs_row : ent 𝓤 (emp 𝓤) (Determined 𝓛 place_either_differs.ended (place_either_differs.clauses 𝓛))
  place_either_differs_row = determined 𝓛 place_either_differs.ended (place_either_differs.clauses 𝓛) (λ κs a g x y u v. two 𝓤 _ _ _ (λ h k. cc))

  pub place_pack_row : ent 𝓤 (emp 𝓤) (Determined 𝓛 place_pack.ended (place_pack.clauses 𝓛))
  place_pack_row = determined 𝓛 place_pack.ended (place_pack.clauses 𝓛) (λ κs a g x y u v. two 𝓤 _ _ _ (λ h k. cc))

  pub switches_bl_row : ent 𝓤 (emp 𝓤) (Determined 𝓛 switches_bl.ended (switches_bl.clauses 𝓛))
  switches_bl_row = determined 𝓛 switches_bl.ended (switches_bl.clauses 𝓛) (λ κs a g x y u v. two 𝓤 _ _ _ (λ h k. cc))

  pub switches_sr_row : ent 𝓤 (emp 𝓤) (Determined 𝓛 switches_sr.ended (switches_sr.clauses 𝓛))
  switches_sr_row = determined 𝓛 switches_sr.ended (switches_sr.clauses 𝓛) (λ κs a g x y u v. two 𝓤 _ _ _ (λ h k. cc))

  pub switches_pl_row : ent 𝓤 (emp 𝓤) (Determined 𝓛 switches_pl.ended (switches_pl.clauses 𝓛))
  switches_pl_row = determined 𝓛 switches_pl.ended (switches_pl.clauses 𝓛) (λ κs a g x y u v. two 𝓤 _ _ _ (λ h k. cc))

  pub switches_al_row : ent 𝓤 (emp 𝓤) (Determined 𝓛 switches_al.ended (switches_al.clauses 𝓛))
  switches_al_row = determined 𝓛 switches_al.ended (switches_al.clauses 𝓛) (λ κs a g x y u v. two 𝓤 _ _ _ (λ h k. cc))

  pub timers_dl_row : ent 𝓤 (emp 𝓤) (Determined 𝓛 timers_dl.ended (timers_dl.clauses 𝓛))
  timers_dl_row = determined 𝓛 timers_dl.ended (timers_dl.clauses 𝓛) (λ κs a g x y u v. two 𝓤 _ _ _ (λ h k. cc))

  pub timers_os_row : ent 𝓤 (emp 𝓤) (Determined 𝓛 timers_os.ended (timers_os.clauses 𝓛))
  timers_os_row = determined 𝓛 timers_os.ended (timers_os.clauses 𝓛) (λ κs a g x y u v. two 𝓤 _ _ _ (λ h k. cc))

  pub timers_fl_row : ent 𝓤 (emp 𝓤) (Determined 𝓛 timers_fl.ended (timers_fl.clauses 𝓛))
  timers_fl_row = determined 𝓛 timers_fl.ended (timers_fl.clauses 𝓛) (λ κs a g x y u v. two 𝓤 _ _ _ (λ h k. cc))

  pub counters_cn_row : ent 𝓤 (emp 𝓤) (Determined 𝓛 counters_cn.ended (counters_cn.clauses 𝓛))
  counters_cn_row = determined 𝓛 counters_cn.ended (counters_cn.clauses 𝓛) (λ κs a g x y u v. two 𝓤 _ _ _ (λ h k. cc))

  pub counters_ud_row : ent 𝓤 (emp 𝓤) (Determined 𝓛 counters_ud.ended (counters_ud.clauses 𝓛))
  counters_ud_row = determined 𝓛 counters_ud.ended (counters_ud.clauses 𝓛) (λ κs a g x y u v. two 𝓤 _ _ _ (λ h k. cc))

  pub analog_cp_row : ent 𝓤 (emp 𝓤) (Determined 𝓛 analog_cp.ended (analog_cp.clauses 𝓛))
  analog_cp_row = determined 𝓛 analog_cp.ended (analog_cp.clauses 𝓛) (λ κs a g x y u v. two 𝓤 _ _ _ (λ h k. cc))

  pub analog_og_row : ent 𝓤 (emp 𝓤) (Determined 𝓛 analog_og.ended (analog_og.clauses 𝓛))
  analog_og_row = determined 𝓛 analog_og.ended (analog_og.clauses 𝓛) (λ κs a g x y u v. two 𝓤 _ _ _ (λ h k. cc))

  pub analog_zc_row : ent 𝓤 (emp 𝓤) (Determined 𝓛 analog_zc.ended (analog_zc.clauses 𝓛))
  analog_zc_row = determined 𝓛 analog_zc.ended (analog_zc.clauses 𝓛) (λ κs a g x y u v. two 𝓤 _ _ _ (λ h k. cc))

  pub analog_st_row : ent 𝓤 (emp 𝓤) (Determined 𝓛 analog_st.ended (analog_st.clauses 𝓛))
  analog_st_row = determined 𝓛 analog_st.ended (analog_st.clauses 𝓛) (λ κs a g x y u v. two 𝓤 _ _ _ (λ h k. cc))

  pub journal_entry_zero_row : ent 𝓤 (emp 𝓤) (Determined 𝓛 journal_entry_zero.ended (journal_entry_zero.clauses 𝓛))
  journal_entry_zero_row = determined 𝓛 journal_entry_zero.ended (journal_entry_zero.clauses 𝓛) (λ κs a g x y u v. two 𝓤 _ _ _ (λ h k. cc))

  pub journal_rises_row : ent 𝓤 (emp 𝓤) (Determined 𝓛 journal_rises.ended (journal_rises.clauses 𝓛))
  journal_rises_row = determined 𝓛 journal_rises.ended (journal_rises.clauses 𝓛) (λ κs a g x y u v. two 𝓤 _ _ _ (λ h k. cc))

  pub journal_journal_fresh_row : ent 𝓤 (emp 𝓤) (Determined 𝓛 journal_journal_fresh.ended (journal_journal_fresh.clauses 𝓛))
  journal_journal_fresh_row = determined 𝓛 journal_journal_fresh.ended (journal_journal_fresh.clauses 𝓛) (λ κs a g x y u v. two 𝓤 _ _ _ (λ h k. cc))

  pub journal_journal_rise_row : ent 𝓤 (emp 𝓤) (Determined 𝓛 journal_journal_rise.ended (journal_journal_rise.clauses 𝓛))
  journal_journal_rise_row = determined 𝓛 journal_journal_rise.ended (journal_journal_rise.clauses 𝓛) (λ κs a g x y u v. two 𝓤 _ _ _ (λ h k. cc))

  pub journal_journal_take_row : ent 𝓤 (emp 𝓤) (Determined 𝓛 journal_journal_take.ended (journal_journal_take.clauses 𝓛))
  journal_journal_take_row = determined 𝓛 journal_journal_take.ended (journal_journal_take.clauses 𝓛) (λ κs a g x y u v. two 𝓤 _ _ _ (λ h k. cc))

  pub image_state_fresh_row : ent 𝓤 (emp 𝓤) (Determined 𝓛 image_state_fresh.ended (image_state_fresh.clauses 𝓛))
  image_state_fresh_row = determined 𝓛 image_state_fresh.ended (image_state_fresh.clauses 𝓛) (λ κs a g x y u v. two 𝓤 _ _ _ (λ h k. cc))

  pub image_fresh_in_row : ent 𝓤 (emp 𝓤) (DeterminedWith 𝓛 image_fresh_in.ended (image_fresh_in.clauses 𝓛) (λ κ u. image_from u))
  image_fresh_in_row = determined_with 𝓛 image_fresh_in.ended (image_fresh_in.clauses 𝓛) (λ κ u. image_from u) (λ κs a g x y u v. two 𝓤 _ _ _ (λ h k. (refl, h ∙ sym k)))

  pub image_journal_in_row : ent 𝓤 (emp 𝓤) (Determined 𝓛 image_journal_in.ended (image_journal_in.clauses 𝓛))
  image_journal_in_row = determined 𝓛 image_journal_in.ended (image_journal_in.clauses 𝓛) (λ κs a g x y u v. two 𝓤 _ _ _ (λ h k. cc))

  pub image_put_journal_row : ent 𝓤 (emp 𝓤) (DeterminedWith 𝓛 image_put_journal.ended (image_put_journal.clauses 𝓛) (λ κ u. log_from u.1))
  image_put_journal_row = determined_with 𝓛 image_put_journal.ended (image_put_journal.clauses 𝓛) (λ κ u. log_from u.1) (λ κs a g x y u v. two 𝓤 _ _ _ (λ h k. (refl, h ∙ sym k)))

  pub inspection_good_row : ent 𝓤 (emp 𝓤) (Determined 𝓛 inspection_good.ended (inspection_good.clauses 𝓛))
  inspection_good_row = determined 𝓛 inspection_good.ended (inspection_good.clauses 𝓛) (λ κs a g x y u v. two 𝓤 _ _ _ (λ h k. cc))

  pub inspection_is_late_row : ent 𝓤 (emp 𝓤) (Determined 𝓛 inspection_is_late.ended (inspection_is_late.clauses 𝓛))
  inspection_is_late_row = determined 𝓛 inspection_is_late.ended (inspection_is_late.clauses 𝓛) (λ κs a g x y u v. two 𝓤 _ _ _ (λ h k. cc))

  pub logbook_close_row : ent 𝓤 (emp 𝓤) (DeterminedWith 𝓛 logbook_close.ended (logbook_close.clauses 𝓛) (λ κ u. log_from u.1.1))
  logbook_close_row = determined_with 𝓛 logbook_close.ended (logbook_close.clauses 𝓛) (λ κ u. log_from u.1.1) (λ κs a g x y u v. four 𝓤 _ _ _ _ _ (λ h h' k k'. (h ∙ sym k, h' ∙ sym k')))

  pub logbook_hand_out_row : ent 𝓤 (emp 𝓤) (DeterminedWith 𝓛 logbook_hand_out.ended (logbook_hand_out.clauses 𝓛) (λ κ u. log_from u))
  logbook_hand_out_row = determined_with 𝓛 logbook_hand_out.ended (logbook_hand_out.clauses 𝓛) (λ κ u. log_from u) (λ κs a g x y u v. four 𝓤 _ _ _ _ _ (λ h h' k k'. (h ∙ sym k, h' ∙ sym k')))

  pub copies_copy_first_row : ent 𝓤 (emp 𝓤) (DeterminedOfAny 𝓛 {L = λ A. List A.Denot} copies_copy_first.ended (λ A g d. copies_copy_first.clauses A g d 𝓛) (λ A g d κ u. u.1.1.0.now))
  copies_copy_first_row =
      all_i 𝓤 _ (λ A. all_i 𝓤 _ (λ g. all_i 𝓤 _ (λ d.
      determined_with 𝓛 (copies_copy_first.ended A g d) (copies_copy_first.clauses A g d 𝓛) (λ κ u. u.1.1.0.now) (λ κs a r x y u v. two 𝓤 _ _ _ (λ h k. (refl, h ∙ sym k))))))

  pub loading_load_bits_row : ent 𝓤 (emp 𝓤) (DeterminedWith 𝓛 loading_load_bits.ended (loading_load_bits.clauses 𝓛) (λ κ u. u.1.1.1.0.now))
  loading_load_bits_row = determined_with 𝓛 loading_load_bits.ended (loading_load_bits.clauses 𝓛) (λ κ u. u.1.1.1.0.now) (λ κs a g x y u v. two 𝓤 _ _ _ (λ h k. (refl, h ∙ sym k)))

  pub loading_load_words_row : ent 𝓤 (emp 𝓤) (DeterminedWith 𝓛 loading_load_words.ended (loading_load_words.clauses 𝓛) (λ κ u. u.1.1.1.0.now))
  loading_load_words_row = determined_with 𝓛 loading_load_words.ended (loading_load_words.clauses 𝓛) (λ κ u. u.1.1.1.0.now) (λ κs a g x y u v. two 𝓤 _ _ _ (λ h k. (refl, h ∙ sym k)))

  pub copies_store_words_row : ent 𝓤 (emp 𝓤) (DeterminedWith 𝓛 copies_store_words.ended (copies_store_words.clauses 𝓛) (λ κ u. u.1.1.0.now))
  copies_store_words_row = determined_with 𝓛 copies_store_words.ended (copies_store_words.clauses 𝓛) (λ κ u. u.1.1.0.now) (λ κs a g x y u v. two 𝓤 _ _ _ (λ h k. (refl, h ∙ sym k)))

  pub copies_store_outputs_row : ent 𝓤 (emp 𝓤) (DeterminedWith 𝓛 copies_store_outputs.ended (copies_store_outputs.clauses 𝓛) (λ κ u. u.1.1.0.now))
  copies_store_outputs_row = determined_with 𝓛 copies_store_outputs.ended (copies_store_outputs.clauses 𝓛) (λ κ u. u.1.1.0.now) (λ κs a g x y u v. two 𝓤 _ _ _ (λ h k. (refl, h ∙ sym k)))

  pub numbers_read_number_row : ent 𝓤 (emp 𝓤) (Determined 𝓛 numbers_read_number.ended (numbers_read_number.clauses 𝓛))
  numbers_read_number_row = determined 𝓛 numbers_read_number.ended (numbers_read_number.clauses 𝓛) (λ κs a g x y u v. two 𝓤 _ _ _ (λ h k. one_read _ _ (h ∙ sym k)))

  pub nodes_head_row : ent 𝓤 (emp 𝓤) (Determined 𝓛 nodes_head.ended (nodes_head.clauses 𝓛))
  nodes_head_row = determined 𝓛 nodes_head.ended (nodes_head.clauses 𝓛) (λ κs a g x y u v. two 𝓤 _ _ _ (λ h k. one_node _ _ (h ∙ sym k)))

  pub nodes_pass_row : ent 𝓤 (emp 𝓤) (Determined 𝓛 nodes_pass.ended (nodes_pass.clauses 𝓛))
  nodes_pass_row = determined 𝓛 nodes_pass.ended (nodes_pass.clauses 𝓛) (λ κs a g x y u v. two 𝓤 _ _ _ (λ h k. one_pass _ _ (h ∙ sym k)))

  pub spelling_byte_at_row : ent 𝓤 (emp 𝓤) (Determined 𝓛 spelling_byte_at.ended (spelling_byte_at.clauses 𝓛))
  spelling_byte_at_row = determined 𝓛 spelling_byte_at.ended (spelling_byte_at.clauses 𝓛) (λ κs a g x y u v. two 𝓤 _ _ _ (λ h k. cc))

  pub spelling_skip_spaces_row : ent 𝓤 (emp 𝓤) (Determined 𝓛 spelling_skip_spaces.ended (spelling_skip_spaces.clauses 𝓛))
  spelling_skip_spaces_row = determined 𝓛 spelling_skip_spaces.ended (spelling_skip_spaces.clauses 𝓛) (λ κs a g x y u v. two 𝓤 _ _ _ (λ h k. cc))

  pub spelling_read_name_row : ent 𝓤 (emp 𝓤) (Determined 𝓛 spelling_read_name.ended (spelling_read_name.clauses 𝓛))
  spelling_read_name_row = determined 𝓛 spelling_read_name.ended (spelling_read_name.clauses 𝓛) (λ κs a g x y u v. two 𝓤 _ _ _ (λ h k. cc))

  pub spelling_read_sign_row : ent 𝓤 (emp 𝓤) (Determined 𝓛 spelling_read_sign.ended (spelling_read_sign.clauses 𝓛))
  spelling_read_sign_row = determined 𝓛 spelling_read_sign.ended (spelling_read_sign.clauses 𝓛) (λ κs a g x y u v. two 𝓤 _ _ _ (λ h k. cc))

  pub nodelist_put_row : ent 𝓤 (emp 𝓤) (DeterminedWith 𝓛 nodelist_put.ended (nodelist_put.clauses 𝓛) (λ κ u. u.0.now))
  nodelist_put_row = determined_with 𝓛 nodelist_put.ended (nodelist_put.clauses 𝓛) (λ κ u. u.0.now) (λ κs a g x y u v. two 𝓤 _ _ _ (λ h k. (refl, h ∙ sym k)))

  pub nodelist_insert_row : ent 𝓤 (emp 𝓤) (DeterminedWith 𝓛 nodelist_insert.ended (nodelist_insert.clauses 𝓛) (λ κ u. u.0.now))
  nodelist_insert_row = determined_with 𝓛 nodelist_insert.ended (nodelist_insert.clauses 𝓛) (λ κ u. u.0.now) (λ κs a g x y u v. two 𝓤 _ _ _ (λ h k. (refl, h ∙ sym k)))

  pub parsing_list_nodes_row : ent 𝓤 (emp 𝓤) (Determined 𝓛 parsing_list_nodes.ended (parsing_list_nodes.clauses 𝓛))
  parsing_list_nodes_row = determined 𝓛 parsing_list_nodes.ended (parsing_list_nodes.clauses 𝓛) (λ κs a g x y u v. two 𝓤 _ _ _ (λ h k. listed_same _ h k))

  pub formula_read_formula_row : ent 𝓤 (emp 𝓤) (Determined 𝓛 formula_read_formula.ended (formula_read_formula.clauses 𝓛))
  formula_read_formula_row = determined 𝓛 formula_read_formula.ended (formula_read_formula.clauses 𝓛) (λ κs a g x y u v. two 𝓤 _ _ _ (λ h k. one_answer _ x y h k))

  pub kinds_memory_of_row : ent 𝓤 (emp 𝓤) (Determined 𝓛 kinds_memory_of.ended (kinds_memory_of.clauses 𝓛))
  kinds_memory_of_row = determined 𝓛 kinds_memory_of.ended (kinds_memory_of.clauses 𝓛) (λ κs a g x y u v. two 𝓤 _ _ _ (λ h k. cc))

  pub kinds_figure_of_row : ent 𝓤 (emp 𝓤) (Determined 𝓛 kinds_figure_of.ended (kinds_figure_of.clauses 𝓛))
  kinds_figure_of_row = determined 𝓛 kinds_figure_of.ended (kinds_figure_of.clauses 𝓛) (λ κs a g x y u v. two 𝓤 _ _ _ (λ h k. cc))

  pub kinds_mark_of_row : ent 𝓤 (emp 𝓤) (Determined 𝓛 kinds_mark_of.ended (kinds_mark_of.clauses 𝓛))
  kinds_mark_of_row = determined 𝓛 kinds_mark_of.ended (kinds_mark_of.clauses 𝓛) (λ κs a g x y u v. two 𝓤 _ _ _ (λ h k. cc))

  pub block_read_row_row : ent 𝓤 (emp 𝓤) (Determined 𝓛 block_read_row.ended (block_read_row.clauses 𝓛))
  block_read_row_row = determined 𝓛 block_read_row.ended (block_read_row.clauses 𝓛) (λ κs a g x y u v. two 𝓤 _ _ _ (λ h k. one_row _ _ (h ∙ sym k)))

  pub block_read_block_row : ent 𝓤 (emp 𝓤) (Determined 𝓛 block_read_block.ended (block_read_block.clauses 𝓛))
  block_read_block_row = determined 𝓛 block_read_block.ended (block_read_block.clauses 𝓛) (λ κs a g x y u v. two 𝓤 _ _ _ (λ h k. one_brief _ _ (h ∙ sym k)))

  pub program_accept_row : ent 𝓤 (emp 𝓤) (Determined 𝓛 program_accept.ended (program_accept.clauses 𝓛))
  program_accept_row = determined 𝓛 program_accept.ended (program_accept.clauses 𝓛) (λ κs a g x y u v. two 𝓤 _ _ _ (λ h k. cc))

  pub expression_eval_row : ent 𝓤 (emp 𝓤) (Determined 𝓛 expression_eval.ended (expression_eval.clauses 𝓛))
  expression_eval_row = determined 𝓛 expression_eval.ended (expression_eval.clauses 𝓛) (λ κs a g x y u v. two 𝓤 _ _ _ (λ h k. one_value _ _ (h ∙ sym k)))

  pub rules_apply_row : ent 𝓤 (emp 𝓤) (Determined 𝓛 rules_apply.ended (rules_apply.clauses 𝓛))
  rules_apply_row = determined 𝓛 rules_apply.ended (rules_apply.clauses 𝓛) (λ κs a g x y u v. two 𝓤 _ _ _ (λ h k. cc))

  pub running_turn_row : ent 𝓤 (emp 𝓤) (DeterminedWith 𝓛 running_turn.ended (running_turn.clauses 𝓛) (λ κ u. u.1.1.1.1.1.1.1.0.now))
  running_turn_row = determined_with 𝓛 running_turn.ended (running_turn.clauses 𝓛) (λ κ u. u.1.1.1.1.1.1.1.0.now) (λ κs a g x y u v. four 𝓤 _ _ _ _ _ (λ h h' k k'. (one_turn _ _ (h ∙ sym k), h' ∙ sym k')))

  pub turns_turns_row : ent 𝓤 (emp 𝓤) (DeterminedWith 𝓛 turns_turns.ended (turns_turns.clauses 𝓛) (λ κ u. arrays_from u.1.1.1.1.1))
  turns_turns_row = determined_with 𝓛 turns_turns.ended (turns_turns.clauses 𝓛) (λ κ u. arrays_from u.1.1.1.1.1) (λ κs a g x y u v. four 𝓤 _ _ _ _ _ (λ h h' k k'. (h ∙ sym k, h' ∙ sym k')))

  pub trial_refused_row : ent 𝓤 (emp 𝓤) (Determined 𝓛 trial_refused.ended (trial_refused.clauses 𝓛))
  trial_refused_row = determined 𝓛 trial_refused.ended (trial_refused.clauses 𝓛) (λ κs a g x y u v. two 𝓤 _ _ _ (λ h k. cc))

  pub trial_try_program_row : ent 𝓤 (emp 𝓤) (DeterminedWith 𝓛 trial_try_program.ended (trial_try_program.clauses 𝓛) (λ κ u. arrays_from u.1.1.1.1))
  trial_try_program_row = determined_with 𝓛 trial_try_program.ended (trial_try_program.clauses 𝓛) (λ κ u. arrays_from u.1.1.1.1) (λ κs a g x y u v. four 𝓤 _ _ _ _ _ (λ h h' k k'. (h ∙ sym k, h' ∙ sym k')))

  pub scanning_run_row : ent 𝓤 (emp 𝓤) (DeterminedWith 𝓛 scanning_run.ended (scanning_run.clauses 𝓛) (λ κ u. columns_from u.1.1.1.1))
  scanning_run_row = determined_with 𝓛 scanning_run.ended (scanning_run.clauses 𝓛) (λ κ u. columns_from u.1.1.1.1) (λ κs a g x y u v. four 𝓤 _ _ _ _ _ (λ h h' k k'. (h ∙ sym k, h' ∙ sym k')))

  pub calls_refuse_after_row : ent 𝓤 (emp 𝓤) (Determined 𝓛 calls_refuse_after.ended (calls_refuse_after.clauses 𝓛))
  calls_refuse_after_row = determined 𝓛 calls_refuse_after.ended (calls_refuse_after.clauses 𝓛) (λ κs a g x y u v. two 𝓤 _ _ _ (λ h k. cc))

  pub calls_refuse_take_row : ent 𝓤 (emp 𝓤) (Determined 𝓛 calls_refuse_take.ended (calls_refuse_take.clauses 𝓛))
  calls_refuse_take_row = determined 𝓛 calls_refuse_take.ended (calls_refuse_take.clauses 𝓛) (λ κs a g x y u v. two 𝓤 _ _ _ (λ h k. cc))

  pub console_scan_in_row : ent 𝓤 (emp 𝓤) (DeterminedWith 𝓛 console_scan_in.ended (console_scan_in.clauses 𝓛) (λ κ u. image_from u.1))
  console_scan_in_row = determined_with 𝓛 console_scan_in.ended (console_scan_in.clauses 𝓛) (λ κ u. image_from u.1) (λ κs a g x y u v. four 𝓤 _ _ _ _ _ (λ h h' k k'. (h ∙ sym k, h' ∙ sym k')))

  pub console_take_in_row : ent 𝓤 (emp 𝓤) (DeterminedWith 𝓛 console_take_in.ended (console_take_in.clauses 𝓛) (λ κ u. image_read_from u))
  console_take_in_row = determined_with 𝓛 console_take_in.ended (console_take_in.clauses 𝓛) (λ κ u. image_read_from u) (λ κs a g x y u v. four 𝓤 _ _ _ _ _ (λ h h' k k'. (h ∙ sym k, h' ∙ sym k')))

  pub states_put_state_row : ent 𝓤 (emp 𝓤) (DeterminedWith 𝓛 states_put_state.ended (states_put_state.clauses 𝓛) (λ κ u. image_from u.1))
  states_put_state_row = determined_with 𝓛 states_put_state.ended (states_put_state.clauses 𝓛) (λ κ u. image_from u.1) (λ κs a g x y u v. two 𝓤 _ _ _ (λ h k. (refl, h ∙ sym k)))

  pub states_state_in_row : ent 𝓤 (emp 𝓤) (Determined 𝓛 states_state_in.ended (states_state_in.clauses 𝓛))
  states_state_in_row = determined 𝓛 states_state_in.ended (states_state_in.clauses 𝓛) (λ κs a g x y u v. two 𝓤 _ _ _ (λ h k. cc))

  pub hall_scan_row : ent 𝓤 (emp 𝓤) (Determined 𝓛 hall_scan.ended (hall_scan.clauses 𝓛))
  hall_scan_row = determined 𝓛 hall_scan.ended (hall_scan.clauses 𝓛) (λ κs a g x y u v. four 𝓤 _ _ _ _ _ (λ h h' k k'. h ∙ sym k))

  pub hall_take_row : ent 𝓤 (emp 𝓤) (Determined 𝓛 hall_take.ended (hall_take.clauses 𝓛))
  hall_take_row = determined 𝓛 hall_take.ended (hall_take.clauses 𝓛) (λ κs a g x y u v. two 𝓤 _ _ _ (λ h k. cc))

  pub lanwezik_accept_row : ent 𝓤 (emp 𝓤) (Determined 𝓛 lanwezik_accept.ended (lanwezik_accept.clauses 𝓛))
  lanwezik_accept_row = determined 𝓛 lanwezik_accept.ended (lanwezik_accept.clauses 𝓛) (λ κs a g x y u v. two 𝓤 _ _ _ (λ h k. cc))

  pub lanwezik_fresh_in_row : ent 𝓤 (emp 𝓤) (DeterminedWith 𝓛 lanwezik_fresh_in.ended (lanwezik_fresh_in.clauses 𝓛) (λ κ u. image_from u))
  lanwezik_fresh_in_row = determined_with 𝓛 lanwezik_fresh_in.ended (lanwezik_fresh_in.clauses 𝓛) (λ κ u. image_from u) (λ κs a g x y u v. two 𝓤 _ _ _ (λ h k. (refl, h ∙ sym k)))

  pub lanwezik_scan_in_row : ent 𝓤 (emp 𝓤) (DeterminedWith 𝓛 lanwezik_scan_in.ended (lanwezik_scan_in.clauses 𝓛) (λ κ u. image_from u.1))
  lanwezik_scan_in_row = determined_with 𝓛 lanwezik_scan_in.ended (lanwezik_scan_in.clauses 𝓛) (λ κ u. image_from u.1) (λ κs a g x y u v. four 𝓤 _ _ _ _ _ (λ h h' k k'. (h ∙ sym k, h' ∙ sym k')))

  pub lanwezik_take_in_row : ent 𝓤 (emp 𝓤) (DeterminedWith 𝓛 lanwezik_take_in.ended (lanwezik_take_in.clauses 𝓛) (λ κ u. image_read_from u))
  lanwezik_take_in_row = determined_with 𝓛 lanwezik_take_in.ended (lanwezik_take_in.clauses 𝓛) (λ κ u. image_read_from u) (λ κs a g x y u v. four 𝓤 _ _ _ _ _ (λ h h' k k'. (h ∙ sym k, h' ∙ sym k')))

  pub lanwezik_formula_row : ent 𝓤 (emp 𝓤) (Determined 𝓛 lanwezik_formula.ended (lanwezik_formula.clauses 𝓛))
  lanwezik_formula_row = determined 𝓛 lanwezik_formula.ended (lanwezik_formula.clauses 𝓛) (λ κs a g x y u v. two 𝓤 _ _ _ (λ h k. formulas_same _ h k))

  pub text_put_row : ent 𝓤 (emp 𝓤) (DeterminedWith 𝓛 text_put.ended (text_put.clauses 𝓛) (λ κ u. u.0.now))
  text_put_row = determined_with 𝓛 text_put.ended (text_put.clauses 𝓛) (λ κ u. u.0.now) (λ κs a g x y u v. two 𝓤 _ _ _ (λ h k. (h.place ∙ sym k.place, h.bytes ∙ sym k.bytes)))

  pub text_put_number_row : ent 𝓤 (emp 𝓤) (DeterminedWith 𝓛 text_put_number.ended (text_put_number.clauses 𝓛) (λ κ u. u.0.now))
  text_put_number_row = determined_with 𝓛 text_put_number.ended (text_put_number.clauses 𝓛) (λ κ u. u.0.now) (λ κs a g x y u v. two 𝓤 _ _ _ (λ h k. (h.place ∙ sym k.place, h.bytes ∙ sym k.bytes)))

  pub lines_write_line_row : ent 𝓤 (emp 𝓤) (DeterminedWith 𝓛 lines_write_line.ended (lines_write_line.clauses 𝓛) (λ κ u. u.0.now))
  lines_write_line_row = determined_with 𝓛 lines_write_line.ended (lines_write_line.clauses 𝓛) (λ κ u. u.0.now) (λ κs a g x y u v. two 𝓤 _ _ _ (λ h k. (h.place ∙ sym k.place, h.bytes ∙ sym k.bytes)))

  pub lines_write_refused_row : ent 𝓤 (emp 𝓤) (DeterminedWith 𝓛 lines_write_refused.ended (lines_write_refused.clauses 𝓛) (λ κ u. u.0.now))
  lines_write_refused_row = determined_with 𝓛 lines_write_refused.ended (lines_write_refused.clauses 𝓛) (λ κ u. u.0.now) (λ κs a g x y u v. two 𝓤 _ _ _ (λ h k. (h.place ∙ sym k.place, h.bytes ∙ sym k.bytes)))

  pub lines_write_bad_scan_row : ent 𝓤 (emp 𝓤) (DeterminedWith 𝓛 lines_write_bad_scan.ended (lines_write_bad_scan.clauses 𝓛) (λ κ u. u.0.now))
  lines_write_bad_scan_row = determined_with 𝓛 lines_write_bad_scan.ended (lines_write_bad_scan.clauses 𝓛) (λ κ u. u.0.now) (λ κs a g x y u v. two 𝓤 _ _ _ (λ h k. (h.place ∙ sym k.place, h.bytes ∙ sym k.bytes)))

  pub lines_write_bad_program_row : ent 𝓤 (emp 𝓤) (DeterminedWith 𝓛 lines_write_bad_program.ended (lines_write_bad_program.clauses 𝓛) (λ κ u. u.0.now))
  lines_write_bad_program_row = determined_with 𝓛 lines_write_bad_program.ended (lines_write_bad_program.clauses 𝓛) (λ κ u. u.0.now) (λ κs a g x y u v. two 𝓤 _ _ _ (λ h k. (h.place ∙ sym k.place, h.bytes ∙ sym k.bytes)))

  pub recording_read_scan_row : ent 𝓤 (emp 𝓤) (Determined 𝓛 recording_read_scan.ended (recording_read_scan.clauses 𝓛))
  recording_read_scan_row = determined 𝓛 recording_read_scan.ended (recording_read_scan.clauses 𝓛) (λ κs a g x y u v. two 𝓤 _ _ _ (λ h k. cc))

  pub recording_read_head_row : ent 𝓤 (emp 𝓤) (Determined 𝓛 recording_read_head.ended (recording_read_head.clauses 𝓛))
  recording_read_head_row = determined 𝓛 recording_read_head.ended (recording_read_head.clauses 𝓛) (λ κs a g x y u v. two 𝓤 _ _ _ (λ h k. cc))

  pub playback_next_scan_row : ent 𝓤 (emp 𝓤) (Determined 𝓛 playback_next_scan.ended (playback_next_scan.clauses 𝓛))
  playback_next_scan_row = determined 𝓛 playback_next_scan.ended (playback_next_scan.clauses 𝓛) (λ κs a g x y u v. two 𝓤 _ _ _ (λ h k. cc))

  pub playback_open_recording_row : ent 𝓤 (emp 𝓤) (DeterminedWith 𝓛 playback_open_recording.ended (playback_open_recording.clauses 𝓛) (λ κ u. u.1.0.now))
  playback_open_recording_row = determined_with 𝓛 playback_open_recording.ended (playback_open_recording.clauses 𝓛) (λ κ u. u.1.0.now) (λ κs a g x y u v. two 𝓤 _ _ _ (λ h k. (h.answer ∙ sym k.answer, h.program ∙ sym k.program)))

  pub telling_player_fresh_row : ent 𝓤 (emp 𝓤) (Determined 𝓛 telling_player_fresh.ended (telling_player_fresh.clauses 𝓛))
  telling_player_fresh_row = determined 𝓛 telling_player_fresh.ended (telling_player_fresh.clauses 𝓛) (λ κs a g x y u v. two 𝓤 _ _ _ (λ h k. cc))

  pub telling_ended_row : ent 𝓤 (emp 𝓤) (Determined 𝓛 telling_ended.ended (telling_ended.clauses 𝓛))
  telling_ended_row = determined 𝓛 telling_ended.ended (telling_ended.clauses 𝓛) (λ κs a g x y u v. two 𝓤 _ _ _ (λ h k. cc))

  pub telling_play_row : ent 𝓤 (emp 𝓤) (DeterminedWith 𝓛 telling_play.ended (telling_play.clauses 𝓛) (λ κ u. u.1.1.1.1.0.now))
  telling_play_row = determined_with 𝓛 telling_play.ended (telling_play.clauses 𝓛) (λ κ u. u.1.1.1.1.0.now) (λ κs a g x y u v. two 𝓤 _ _ _ (λ h k. (h.answer ∙ sym k.answer, h.bytes ∙ sym k.bytes)))

  pub feeding_feed_row : ent 𝓤 (emp 𝓤) (DeterminedWith 𝓛 {L = List ℕ × List ℕ} feeding_feed.ended (feeding_feed.clauses 𝓛) (λ κ u. (u.1.1.0.now, u.1.1.1.0.now)))
  feeding_feed_row = determined_with 𝓛 feeding_feed.ended (feeding_feed.clauses 𝓛) {L = List ℕ × List ℕ} (λ κ u. (u.1.1.0.now, u.1.1.1.0.now)) (λ κs a g x y u v. two 𝓤 _ _ _ (λ h k. (h.told.answer ∙ sym k.told.answer, same_two (h.program ∙ sym k.program) (h.told.bytes ∙ sym k.told.bytes))))

  pub feeding_finish_row : ent 𝓤 (emp 𝓤) (DeterminedWith 𝓛 feeding_finish.ended (feeding_finish.clauses 𝓛) (λ κ u. u.1.1.0.now))
  feeding_finish_row = determined_with 𝓛 feeding_finish.ended (feeding_finish.clauses 𝓛) (λ κ u. u.1.1.0.now) (λ κs a g x y u v. two 𝓤 _ _ _ (λ h k. (h.place ∙ sym k.place, h.bytes ∙ sym k.bytes)))

  pub reading_told_by_row : ent 𝓤 (emp 𝓤) (Determined 𝓛 reading_told_by.ended (reading_told_by.clauses 𝓛))
  reading_told_by_row = determined 𝓛 reading_told_by.ended (reading_told_by.clauses 𝓛) (λ κs a g x y u v. two 𝓤 _ _ _ (λ h k. cc))

  pub reading_move_down_row : ent 𝓤 (emp 𝓤) (DeterminedWith 𝓛 reading_move_down.ended (reading_move_down.clauses 𝓛) (λ κ u. u.0.now))
  reading_move_down_row = determined_with 𝓛 reading_move_down.ended (reading_move_down.clauses 𝓛) (λ κ u. u.0.now) (λ κs a g x y u v. two 𝓤 _ _ _ (λ h k. (h.0 ∙ sym k.0, h.1 ∙ sym k.1)))

  pub keeping_feed_window_row : ent 𝓤 (emp 𝓤) (DeterminedWith 𝓛 {L = List ℕ × (List ℕ × List ℕ)} keeping_feed_window.ended (keeping_feed_window.clauses 𝓛) (λ κ u. (u.0.now, (u.1.1.1.0.now, u.1.1.1.1.0.now))))
  keeping_feed_window_row = determined_with 𝓛 keeping_feed_window.ended (keeping_feed_window.clauses 𝓛) {L = List ℕ × (List ℕ × List ℕ)} (λ κ u. (u.0.now, (u.1.1.1.0.now, u.1.1.1.1.0.now))) (λ κs a g x y u v. two 𝓤 _ _ _ (λ h k. kept_same h k))

  pub intake_go_on_row : ent 𝓤 (emp 𝓤) (DeterminedWith 𝓛 {L = List ℕ × (List ℕ × List ℕ)} intake_go_on.ended (intake_go_on.clauses 𝓛) (λ κ u. (u.1.0.now, (u.1.1.1.0.now, u.1.1.1.1.0.now))))
  intake_go_on_row = determined_with 𝓛 intake_go_on.ended (intake_go_on.clauses 𝓛) {L = List ℕ × (List ℕ × List ℕ)} (λ κ u. (u.1.0.now, (u.1.1.1.0.now, u.1.1.1.1.0.now))) (λ κs a g x y u v. two 𝓤 _ _ _ (λ h k. went_same h k))
