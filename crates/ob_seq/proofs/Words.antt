-- The words that the proofs of this crate speak, passed on from one place. Declares nothing.
pub use Rattle.std.proofs.Common.{◌≡◌, List, [], ◌∷◌, ◌++◌, sym, ap, ◌∙◌, append_assoc, append-nil, Bool, true, false}
pub use Rattle.std.proofs.Common.{◌&&◌, ◌||◌, cond, refl, ℕ, zero, suc, ◌+◌, ◌<◌, ◌≤◌, drop, eqb, arith, inl, inr, ◌-◌}
pub use Rattle.std.proofs.Common.{length, map, get_or, subst, max, take, leb, ltb, zero-add, ◌*◌, ◌^◌, ◌/◌, add-zero}
pub use Rattle.std.proofs.Common.{length-append, not, reverse, min, ◌⊎◌}
pub use Rattle.std.specs.Int.{bit_at}
pub use Rattle.std.specs.List.{AllByRecursion, range_with_len, cons_option, position_or_len}
pub use Rattle.std.specs.Prelude.{fold, Some, None, is_ok, Option, slice_set, filter, if◌then◌else◌, sum_by, is_some}
pub use Rattle.std.specs.Prelude.{◌↔◌, filter_map, slice_get, unwrap_or, count_by}
pub use Rattle.std.proofs.Math.Pow.{pow-lt}
pub use Rattle.std.proofs.Math.Seq.{get_or-append_seam, set-append_seam}
pub use Rattle.std.proofs.lemmas.Bool.Decides.{nat_tests}
pub use Rattle.std.proofs.lemmas.List.{map-append, length-map, length-take-le, take-append-drop, drop_all}
pub use Rattle.std.proofs.lemmas.List.{reverse-append, take_more, take_all, take-map}
pub use Rattle.std.proofs.lemmas.List.Elements.{filter-append, filter_map-append}
pub use Rattle.std.proofs.lemmas.List.Sums.{sum_by-append, sum_by-cons, sum_by_push, take_while-cons}
pub use Rattle.std.proofs.lemmas.Nat.Bits.{bit_at_lowest, bit_at-suc, bit_at-zero, bit_at_or, same_from_bits}
pub use Rattle.std.proofs.lemmas.Option.{slice_get_past, slice_get-map}
pub use Rattle.ob_types.specs.Marks.{change_between, Marks}
pub use Rattle.ob_types.specs.PendingSize.{counted_bytes}
pub use Rattle.ob_types.specs.Replies.{is_waiting}
pub use Rattle.ob_types.specs.Traits.{is_block, is_write}
pub use Rattle.ob_types.specs.declared.command.Command.{Command}
pub use Rattle.ob_types.specs.declared.command.Command.TheVariants.{Close, Write, RemoveBytes, Remove, RemoveWith}
pub use Rattle.ob_types.specs.declared.command.Command.TheVariants.{Progress, UserBit, Flush, FailFlushed, Cancel, SetMarks}
pub use Rattle.ob_types.specs.declared.estimate.Estimate.{Estimate}
pub use Rattle.ob_types.specs.declared.message.Message.{Message}
pub use Rattle.ob_types.specs.declared.message.Message.TheVariants.{Block}
pub use Rattle.ob_types.specs.declared.promise.Cause.{Cause}
pub use Rattle.ob_types.specs.declared.promise.Outcome.{Outcome}
pub use Rattle.ob_types.specs.declared.promise.Outcome.TheVariants.{Success, Failed, Cancelled}
pub use Rattle.ob_types.specs.declared.promise.PromiseId.{PromiseId}
pub use Rattle.ob_types.specs.declared.promise.PromiseState.{PromiseState}
pub use Rattle.ob_types.specs.declared.promise.PromiseState.TheVariants.{Settled, Waiting, Fixed}
pub use Rattle.ob_types.specs.declared.refusal.Refusal.{Refusal}
pub use Rattle.ob_types.specs.declared.refusal.Refusal.TheVariants.{Closed, TooManyBytes}
pub use Rattle.ob_types.specs.declared.reply.Answer.TheVariants.{Yes, Count}
pub use Rattle.ob_types.specs.declared.reply.Reply.{Reply}
pub use Rattle.ob_seq.specs.Answer.{accepted_among, first_refusal, refusal_of, reply_of, unless_refused, is_accepted}
pub use Rattle.ob_seq.specs.Answer.{are_accepted, answer_to, commands_after, outcome_of, settlement, settlements_from}
pub use Rattle.ob_seq.specs.Answer.{promise_at, settlements_of}
pub use Rattle.ob_seq.specs.Effect.{block_bytes, blocks_in_front, byte_run, whole_rows, bytes_left_over, effect}
pub use Rattle.ob_seq.specs.Effect.{rows_after, reached_row, cancelled, closed_row, taken_row, with_front, with_first}
pub use Rattle.ob_seq.specs.Effect.{with_skipped, progressed_row, with_first_behind, failed, flushed_row, failed_row}
pub use Rattle.ob_seq.specs.Effect.{skipped_row, with_cancelled, bytes_in, pieces_within}
pub use Rattle.ob_seq.specs.Inside.{IsSound, unsent_of, counted, none_taken_back}
pub use Rattle.ob_seq.specs.Looks.{entry_of, PendingEntry, blocks_left, messages_to_send, with_bytes, first_blocks}
pub use Rattle.ob_seq.specs.Looks.{promise_after, front_promise_after}
pub use Rattle.ob_seq.specs.Pending.{Leaves, Pending, StandsFor, settled_along, settled_by, SparesMemory}
pub use Rattle.ob_seq.specs.Rows.{is_in_line, line, unflushed, front, gone, is_gone, Row, is_cancelled, is_voided}
pub use Rattle.ob_seq.specs.Rows.{new_row, unread_part, without_skipped, is_unflushed, Gone, Unflushed, Flushed, Voided}
pub use Rattle.ob_seq.specs.Rows.{is_flushed, Settings, counted_size, total}
pub use Rattle.ob_seq.specs.State.{is_close, is_closed, writes_in, mark_after, marks_after, marks_set_by, Moment}
pub use Rattle.ob_seq.specs.State.{moments_of, moment_of, moments_along, bit_request, user_bit, bit_value, word_after}
pub use Rattle.ob_seq.specs.Steps.Commands.{reached_entry, next_flushed, flush_step, cut_of, bytes_reply}
pub use Rattle.ob_seq.specs.Steps.Commands.{entry_settlements, entry_settlement, whole_cut, front_taken, write_step}
pub use Rattle.ob_seq.specs.Steps.Commands.{progress_step, failures, closed_pending, closing_reply, failing_step}
pub use Rattle.ob_seq.specs.Steps.Commands.{bit_step, marks_step, step_of}
pub use Rattle.ob_seq.specs.Steps.Step.{pending_total, first_size, unflushed_id, times, front_id, word_after_fall}
pub use Rattle.ob_seq.specs.Steps.Step.{word_after_rise, sum_of, first_progress, first_changed, front_changed}
pub use Rattle.ob_seq.specs.Steps.Step.{promise_set, settled_by_step}
pub use Rattle.ob_seq.specs.Unsent.{pending_entry, pending_entries, unreached_entry, fixed_state, waiting_state, whole}
pub use Rattle.ob_seq.specs.Unsent.{Unsent, states_of, ended, waiting_count}
pub use Rattle.ob_seq.specs.declared.contents.Contents.TheInside.{Inside}
pub use Rattle.ob_seq.specs.declared.contents.cut.Cut.{Cut}
pub use Rattle.ob_seq.specs.declared.entry.Entry.{Entry}
