-- `determinacy::one_answer` meets its contract: it does nothing, and each row holds of the contracts as they stand.
use Rattle.std.proofs.Common.{[], ◌∷◌, refl}
use Rattle.std.proofs.raw_atomic.Walks.{proved}
use seplogic.Ra.Ura.{Ura}
use base.Logic.{ent, emp}
use base.Fml.{ftrue}
use mir.Val.{vunit}
use contract.Monad.{conj_i}
use types.Kit.{‵, raw, ◌$◌, ◌∵◌, !, qed, done, drop, use1, feq_i, suffices, group}
use types.Logic.{Logic}
use types.Run.{enter, of_opd, unit_lit, returns}
use types.ByLocal.{alloc_all, pass_all, free_all, look_at, sets}
use denote.Steps.{nothing}
use denote.Triple.Entry.{on_entry}
use denote.Triple.Walked.{walk_of, ends_at}
use Rattle.determinacy.specs.Determinacy.{Determinacy}
use Rattle.determinacy.proofs.Loose.{loose}
use Rattle.determinacy.proofs.Rows.{terms_signed_row, terms_hold_row, terms_refusal_number_row, wire_number_row, place_fresh_row, place_pin_row, place_first_rises_row, place_first_falls_row, place_second_rises_row, place_either_differs_row, place_pack_row, switches_bl_row, switches_sr_row, switches_pl_row, switches_al_row, timers_dl_row, timers_os_row, timers_fl_row, counters_cn_row, counters_ud_row, analog_cp_row, analog_og_row, analog_zc_row, analog_st_row, journal_entry_zero_row, journal_rises_row, journal_journal_fresh_row, journal_journal_rise_row, journal_journal_take_row, image_state_fresh_row, image_fresh_in_row, image_journal_in_row, image_put_journal_row, inspection_good_row, inspection_is_late_row, logbook_close_row, logbook_hand_out_row, copies_copy_first_row, loading_load_bits_row, loading_load_words_row, copies_store_words_row, copies_store_outputs_row, numbers_read_number_row, nodes_head_row, nodes_pass_row, spelling_byte_at_row, spelling_skip_spaces_row, spelling_read_name_row, spelling_read_sign_row, nodelist_put_row, nodelist_insert_row, parsing_list_nodes_row, formula_read_formula_row, kinds_memory_of_row, kinds_figure_of_row, kinds_mark_of_row, block_read_row_row, block_read_block_row, program_accept_row, expression_eval_row, rules_apply_row, running_turn_row, turns_turns_row, trial_refused_row, trial_try_program_row, scanning_run_row, calls_refuse_after_row, calls_refuse_take_row, console_scan_in_row, console_take_in_row, states_put_state_row, states_state_in_row, hall_scan_row, hall_take_row, lanwezik_accept_row, lanwezik_fresh_in_row, lanwezik_scan_in_row, lanwezik_take_in_row, lanwezik_formula_row, text_put_row, text_put_number_row, lines_write_line_row, lines_write_refused_row, lines_write_bad_scan_row, lines_write_bad_program_row, recording_read_scan_row, recording_read_head_row, playback_next_scan_row, playback_open_recording_row, telling_player_fresh_row, telling_ended_row, telling_play_row, feeding_feed_row, feeding_finish_row, reading_told_by_row, reading_move_down_row, keeping_feed_window_row, intake_go_on_row}
use Rattle.determinacy.specs.contracts.one_answer as f
use Rattle.determinacy.proofs.one_answer.Statement.{statement}
use Rattle.determinacy.proofs.one_answer.Code as code

module _ {M : Type 1} {𝓤 : Ura M} (𝓛 : Logic 𝓤) where
  all : ent 𝓤 (emp 𝓤) (Determinacy 𝓛)
  all =
      conj_i 𝓤 _ _ (terms_signed_row 𝓛)
      (conj_i 𝓤 _ _ (terms_hold_row 𝓛)
      (conj_i 𝓤 _ _ (terms_refusal_number_row 𝓛)
      (conj_i 𝓤 _ _ (wire_number_row 𝓛)
      (conj_i 𝓤 _ _ (place_fresh_row 𝓛)
      (conj_i 𝓤 _ _ (place_pin_row 𝓛)
      (conj_i 𝓤 _ _ (place_first_rises_row 𝓛)
      (conj_i 𝓤 _ _ (place_first_falls_row 𝓛)
      (conj_i 𝓤 _ _ (place_second_rises_row 𝓛)
      (conj_i 𝓤 _ _ (place_either_differs_row 𝓛)
      (conj_i 𝓤 _ _ (place_pack_row 𝓛)
      (conj_i 𝓤 _ _ (switches_bl_row 𝓛)
      (conj_i 𝓤 _ _ (switches_sr_row 𝓛)
      (conj_i 𝓤 _ _ (switches_pl_row 𝓛)
      (conj_i 𝓤 _ _ (switches_al_row 𝓛)
      (conj_i 𝓤 _ _ (timers_dl_row 𝓛)
      (conj_i 𝓤 _ _ (timers_os_row 𝓛)
      (conj_i 𝓤 _ _ (timers_fl_row 𝓛)
      (conj_i 𝓤 _ _ (counters_cn_row 𝓛)
      (conj_i 𝓤 _ _ (counters_ud_row 𝓛)
      (conj_i 𝓤 _ _ (analog_cp_row 𝓛)
      (conj_i 𝓤 _ _ (analog_og_row 𝓛)
      (conj_i 𝓤 _ _ (analog_zc_row 𝓛)
      (conj_i 𝓤 _ _ (analog_st_row 𝓛)
      (conj_i 𝓤 _ _ (journal_entry_zero_row 𝓛)
      (conj_i 𝓤 _ _ (journal_rises_row 𝓛)
      (conj_i 𝓤 _ _ (journal_journal_fresh_row 𝓛)
      (conj_i 𝓤 _ _ (journal_journal_rise_row 𝓛)
      (conj_i 𝓤 _ _ (journal_journal_take_row 𝓛)
      (conj_i 𝓤 _ _ (image_state_fresh_row 𝓛)
      (conj_i 𝓤 _ _ (image_fresh_in_row 𝓛)
      (conj_i 𝓤 _ _ (image_journal_in_row 𝓛)
      (conj_i 𝓤 _ _ (image_put_journal_row 𝓛)
      (conj_i 𝓤 _ _ (inspection_good_row 𝓛)
      (conj_i 𝓤 _ _ (inspection_is_late_row 𝓛)
      (conj_i 𝓤 _ _ (logbook_close_row 𝓛)
      (conj_i 𝓤 _ _ (logbook_hand_out_row 𝓛)
      (conj_i 𝓤 _ _ (copies_copy_first_row 𝓛)
      (conj_i 𝓤 _ _ (loading_load_bits_row 𝓛)
      (conj_i 𝓤 _ _ (loading_load_words_row 𝓛)
      (conj_i 𝓤 _ _ (copies_store_words_row 𝓛)
      (conj_i 𝓤 _ _ (copies_store_outputs_row 𝓛)
      (conj_i 𝓤 _ _ (numbers_read_number_row 𝓛)
      (conj_i 𝓤 _ _ (nodes_head_row 𝓛)
      (conj_i 𝓤 _ _ (nodes_pass_row 𝓛)
      (conj_i 𝓤 _ _ (spelling_byte_at_row 𝓛)
      (conj_i 𝓤 _ _ (spelling_skip_spaces_row 𝓛)
      (conj_i 𝓤 _ _ (spelling_read_name_row 𝓛)
      (conj_i 𝓤 _ _ (spelling_read_sign_row 𝓛)
      (conj_i 𝓤 _ _ (nodelist_put_row 𝓛)
      (conj_i 𝓤 _ _ (nodelist_insert_row 𝓛)
      (conj_i 𝓤 _ _ (parsing_list_nodes_row 𝓛)
      (conj_i 𝓤 _ _ (formula_read_formula_row 𝓛)
      (conj_i 𝓤 _ _ (kinds_memory_of_row 𝓛)
      (conj_i 𝓤 _ _ (kinds_figure_of_row 𝓛)
      (conj_i 𝓤 _ _ (kinds_mark_of_row 𝓛)
      (conj_i 𝓤 _ _ (block_read_row_row 𝓛)
      (conj_i 𝓤 _ _ (block_read_block_row 𝓛)
      (conj_i 𝓤 _ _ (program_accept_row 𝓛)
      (conj_i 𝓤 _ _ (expression_eval_row 𝓛)
      (conj_i 𝓤 _ _ (rules_apply_row 𝓛)
      (conj_i 𝓤 _ _ (running_turn_row 𝓛)
      (conj_i 𝓤 _ _ (turns_turns_row 𝓛)
      (conj_i 𝓤 _ _ (trial_refused_row 𝓛)
      (conj_i 𝓤 _ _ (trial_try_program_row 𝓛)
      (conj_i 𝓤 _ _ (scanning_run_row 𝓛)
      (conj_i 𝓤 _ _ (calls_refuse_after_row 𝓛)
      (conj_i 𝓤 _ _ (calls_refuse_take_row 𝓛)
      (conj_i 𝓤 _ _ (console_scan_in_row 𝓛)
      (conj_i 𝓤 _ _ (console_take_in_row 𝓛)
      (conj_i 𝓤 _ _ (states_put_state_row 𝓛)
      (conj_i 𝓤 _ _ (states_state_in_row 𝓛)
      (conj_i 𝓤 _ _ (hall_scan_row 𝓛)
      (conj_i 𝓤 _ _ (hall_take_row 𝓛)
      (conj_i 𝓤 _ _ (lanwezik_accept_row 𝓛)
      (conj_i 𝓤 _ _ (lanwezik_fresh_in_row 𝓛)
      (conj_i 𝓤 _ _ (lanwezik_scan_in_row 𝓛)
      (conj_i 𝓤 _ _ (lanwezik_take_in_row 𝓛)
      (conj_i 𝓤 _ _ (lanwezik_formula_row 𝓛)
      (conj_i 𝓤 _ _ (text_put_row 𝓛)
      (conj_i 𝓤 _ _ (text_put_number_row 𝓛)
      (conj_i 𝓤 _ _ (lines_write_line_row 𝓛)
      (conj_i 𝓤 _ _ (lines_write_refused_row 𝓛)
      (conj_i 𝓤 _ _ (lines_write_bad_scan_row 𝓛)
      (conj_i 𝓤 _ _ (lines_write_bad_program_row 𝓛)
      (conj_i 𝓤 _ _ (recording_read_scan_row 𝓛)
      (conj_i 𝓤 _ _ (recording_read_head_row 𝓛)
      (conj_i 𝓤 _ _ (playback_next_scan_row 𝓛)
      (conj_i 𝓤 _ _ (playback_open_recording_row 𝓛)
      (conj_i 𝓤 _ _ (telling_player_fresh_row 𝓛)
      (conj_i 𝓤 _ _ (telling_ended_row 𝓛)
      (conj_i 𝓤 _ _ (telling_play_row 𝓛)
      (conj_i 𝓤 _ _ (feeding_feed_row 𝓛)
      (conj_i 𝓤 _ _ (feeding_finish_row 𝓛)
      (conj_i 𝓤 _ _ (reading_told_by_row 𝓛)
      (conj_i 𝓤 _ _ (reading_move_down_row 𝓛)
      (conj_i 𝓤 _ _ (keeping_feed_window_row 𝓛)
      (conj_i 𝓤 _ _ (intake_go_on_row 𝓛)
      (loose 𝓛))))))))))))))))))))))))))))))))))))))))))))))))))))))))))))))))))))))))))))))))))))))))))))))))))

pub one_answer_spec : {M : Type 1} → statement M
one_answer_spec 𝓤 𝓛 𝓜 𝓡 wired =
    let c = f.clauses 𝓛 𝓜.mem 𝓡.returns in let W = walk_of 𝓛 f.ended tt c in
    proved 𝓛 f.ended tt c 𝓜 𝓡 tt f.Key.name code.function (code.unfolded 𝓤 𝓛.H 𝓜 𝓡 wired)
    (λ κs. tt) (λ κs. tt) (λ κs qs bounds a n are.
    let y : W.Ghost = ((κs, qs, bounds, a, tt), tt) in
    qed 𝓛 (raw (on_entry 𝓛 f.signature κs qs a tt) ∷ ‵ ftrue ∷ []) ∵ drop ! $
    enter ! _ _ _ _ _ $ alloc_all ! (λ l. pass_all ! refl tt $
    sets ! (of_opd ! (unit_lit !)) refl (tt, tt) $
    returns ! (look_at ! 0 refl) $ free_all ! refl $
    suffices ! _ (ends_at 𝓛 f.ended tt c y vunit tt tt tt) $
    use1 𝓛 (raw (Determinacy 𝓛)) (all 𝓛) $
    feq_i ! _ (vunit ∷ []) _ refl $ nothing ! $ nothing ! $ group ! 3 $ done !))
