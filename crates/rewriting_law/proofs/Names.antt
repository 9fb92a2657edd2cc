-- The definitions that these proofs speak of, each from where it stands.
pub use Rattle.block_layout.specs.Layout.{IsValid, Shape, block_of, blocks, first_line, has_line, home, lines}
pub use Rattle.block_layout.specs.Update.{changed}
pub use Rattle.buf_pool.specs.Pool.{Buffer, empty_buffer}
pub use Rattle.byte_range.specs.Memory.{stored}
unfoldable pub use Rattle.byte_range.specs.Memory.{raw}
pub use Rattle.coherence.specs.Machine.{Proper, Setting, apply, local, may_want, take_in, tally_after}
pub use Rattle.coherence.specs.Table.{Effect, effect_or, row}
pub use Rattle.dsm_protocol.specs.Abstraction.{Contents, busy_of, home_in, most_waits, need_of, setting_of, wires_of}
pub use Rattle.dsm_protocol.specs.Events.{after_row, pending, sends_in}
pub use Rattle.dsm_protocol.specs.Holds.{AfterTake, AfterWant, AreByes, AreSettled, Holds, HoldsBy, NoneIs, has_message, is_done, is_for_home, wanted}
pub use Rattle.dsm_protocol.specs.Memory.{address_of, store_in}
pub use Rattle.dsm_protocol.specs.Sound.{IsLaid, size}
pub use Rattle.dsm_protocol.specs.World.{World, after_miss, local_block, messages_to, with_sends}
pub use Rattle.dsm_protocol.specs.jump_map.Image.{Cell, IsRewriting, PlacedItem, address_in, address_of_word, distance, entry_items, head_of, image_base, image_words, is_near, item_word, number_of_word, off_word, part_of_entry, placed_items, plan_items, read_cell, reload_count, words_at, words_before}
pub use Rattle.dsm_protocol.specs.jump_map.Maps.{begins_at, cell_at, fetch, is_first_of, new_of, old_of}
pub use Rattle.dsm_protocol.specs.jump_map.declared.image.ImageWord.{ImageWord}
pub use Rattle.dsm_protocol.specs.miss_handlers.Effects.{block_facts}
pub use Rattle.dsm_protocol.specs.miss_handlers.Rows.{AtHome, AtNode, Row, block_in, clears, is_bye, row_of, taker_in, takes_away}
pub use Rattle.dsm_protocol.specs.node_model.Core.{Core, Event, Exec, IsCoreRun, May, Take, after, event_step, may_execute, may_take, opening_core, printed_at, printed_by, take_first, wires_to, with_list, with_turn}
pub use Rattle.dsm_protocol.specs.node_model.Node.{Again, ByLines, Elsewhere, Ended, Enters, FalseMiss, IsLaidOver, Leaves, Memory, Move, Next, Node, NodeMemory, Nothing_counted, PastWord, Phase, ProcessorState, Region, Resume, Resumed, Running, SameWord, Spill, StateOf, Tally, To, Waiting, Waits, Want, WordOutcome, Work, batch, batch_by, both_meet, byte_at, can_execute, enter, execute, execute_at, execute_read, exit_by, fall_back, first_lane, first_local, first_state, has_all_byes, indirect, is_at_home, is_at_poll, is_fixed_state, is_mapped_state, is_readable_state, is_writable_state, lane_after, lane_after_call, lane_resumed, lane_stored, load, local_stored, make_call, meets_need, miss_r, miss_r_by, miss_w, miss_w_by, native, need_of_run, next_outcome, one_refuses, only_moves, past_next, phase_after, place_address, prepare, prepare_by, print_byte, refuses_need, region_of, reserving, standing_in, standing_of, stop_or, store, store_if, takes_messages, tally_resumed, unmet, update, word_outcome, word_step}
pub use Rattle.dsm_protocol.specs.node_model.Outcome.{AreFrugal, counts_after, write_misses}
pub use Rattle.dsm_protocol.specs.node_model.Turns.{Turn, after_message, after_wants, after_word, block_at, by_row_or, byes_to, count_want, each_block_once, handled, has_no_wait, holding, is_ended, is_same_want, journaled, resumed, silent, take_turn, want_all, want_in, wants_of, with_byes, with_bytes, with_miss, with_state, word_turn}
pub use Rattle.dsm_protocol.specs.node_model.declared.NodeCounts.{NodeCounts}
pub use Rattle.dsm_protocol.specs.node_model.declared.Standing.TheVariants.{Over}
pub use Rattle.home_directory.specs.Home.{DirectoryEntry, count_of, post}
pub use Rattle.home_directory.specs.Table.{BlockFacts, LocalBlock, Miss, NodeRow, first_wait, meets, state_in_wait, want_row}
pub use Rattle.home_directory.specs.declared.directory.Busy.{Busy}
pub use Rattle.home_directory.specs.declared.wait.Wait.{Wait}
pub use Rattle.home_directory.specs.dsm_messages.declared.messages.Message.{Message}
pub use Rattle.home_directory.specs.dsm_messages.declared.messages.Message.TheVariants.{Ack, Bye, Data, Done, FwdRead, FwdWrite, Grant, Inval}
pub use Rattle.home_directory.specs.dsm_messages.declared.messages.Need.{Need}
pub use Rattle.home_directory.specs.dsm_messages.declared.messages.Need.TheVariants.{Read, Write}
pub use Rattle.home_directory.specs.dsm_messages.declared.messages.Post.{Post}
pub use Rattle.home_directory.specs.dsm_messages.declared.messages.Wire.{Wire}
pub use Rattle.home_directory.specs.flag_memory.Copy.{bytes_from}
pub use Rattle.home_directory.specs.flag_memory.Flag.{flag_byte, flags}
pub use Rattle.llsc.specs.Reservation.{cleared, holds}
pub use Rattle.rewriting_law.specs.Ascents.{Ascend, AscendFromThird, AscendsBetweenPolls, HasNoPollWithin, committed, committed_at, pc_at}
pub use Rattle.rewriting_law.specs.Bounds.{most_events, steps_of}
pub use Rattle.rewriting_law.specs.Conditionals.{IsConditional, IsLostBy}
pub use Rattle.rewriting_law.specs.CoreRun.{Order, break_by, commits, commits_by, is_exit, is_wait, order_by, order_of, picks_at, picks_of, picks_of_take, values_at, values_of}
pub use Rattle.rewriting_law.specs.Interleaving.{EndsAs, GoesAlone, HaveRows, Interleaves, IsCoherent, SameReservations, original_after, original_by_node}
pub use Rattle.rewriting_law.specs.Licence.{AllLicensed, IsLicensed, Licensed}
pub use Rattle.rewriting_law.specs.ProtocolLists.{AreContentsOf, EndsMisses, HasProtocolList, messages_of}
pub use Rattle.runtime_words.specs.declared.RtWord.{RtWord}
pub use Rattle.runtime_words.specs.declared.RtWord.TheVariants.{Batch, Call, Far, MissR, MissW, Native, Poll, Prepare, TrapEbreak, TrapFetch, TrapIllegal, TrapOff, Xjalr}
pub use Rattle.rv32_decode.specs.Fields.{signed, unsigned}
pub use Rattle.rv32_decode.specs.Registers.{destination, sources}
pub use Rattle.rv32_decode.specs.Widths.{is_aligned, size_of, width_of}
pub use Rattle.rv32_decode.specs.declared.AmoOp.{AmoOp}
pub use Rattle.rv32_decode.specs.declared.Cond.{Cond}
pub use Rattle.rv32_decode.specs.declared.Cond.TheVariants.{Eq, Ge, Geu, Lt, Ltu, Ne}
pub use Rattle.rv32_decode.specs.declared.Instr.{Instr}
pub use Rattle.rv32_decode.specs.declared.Instr.TheVariants.{Amo, Auipc, Branch, Ebreak, Ecall, Fence, Illegal, Jal, Jalr, Load, Lr, Lui, Op, OpImm, Sc, ShiftImm, Store}
pub use Rattle.rv32_decode.specs.declared.LoadKind.{LoadKind}
pub use Rattle.rv32_decode.specs.declared.LoadKind.TheVariants.{ByteU}
pub use Rattle.rv32_decode.specs.declared.Width.{Width}
pub use Rattle.rv32_decode.specs.declared.Width.TheVariants.{Byte, Half, Word}
pub use Rattle.rv32_ops.specs.Operations.{amo, is_signed_below}
unfoldable pub use Rattle.rv32_ops.specs.Operations.{alu, extend, taken}
pub use Rattle.rv32_program.specs.Liveness.{Live, Uses, passes, uses}
pub use Rattle.rv32_program.specs.Program.{IsAccepted, Program, call_of, class_at, is_mapped, is_writable, line_of}
pub use Rattle.rv32_program.specs.Targets.{aligned, aligned_target, offset_address, target_of}
pub use Rattle.rv32_program.specs.declared.CallKind.{CallKind}
pub use Rattle.rv32_program.specs.declared.CallKind.TheVariants.{Unknown}
pub use Rattle.rv32_program.specs.declared.Class.{Class}
pub use Rattle.rv32_program.specs.declared.Class.TheVariants.{Private, ReadOnly, Shared, Unmapped}
pub use Rattle.rv32_program.specs.declared.End.{End}
pub use Rattle.rv32_program.specs.declared.End.TheVariants.{Exited, Stopped}
pub use Rattle.rv32_program.specs.declared.Exit.{Exit}
pub use Rattle.rv32_program.specs.declared.Exit.TheVariants.{Fetch, Misaligned}
pub use Rattle.rv32_step.specs.Breaks.{RunsToStore, StandFrom, accesses_by, is_in_block, is_plain, leaves, stands_at_store, stores_by, stores_in, touches}
pub use Rattle.rv32_step.specs.Demands.{branch_demand, call_step, cut_short, demand_of, operation_of, shift_of, step_of}
pub use Rattle.rv32_step.specs.Memory.{byte_by, load_value, private_after, shared_after}
pub use Rattle.rv32_step.specs.OneMemory.{Access, Becomes, Break, Exchanges, IsRun, LoadsFrom, Nothing, Original, Pick, Prints, Processor, Reads, Request, ReservesAt, State, Step, StepResult, StoresTo, StoresWhere, UpdatesAt, Writes, WritesIf, after_call, after_conditional, after_exchange, after_pick, after_print, after_store, answer, exit_of_access, exit_of_demand, first_processor, is_of, next_pc, opening, pick_step, request, request_at, request_by, request_for, request_of_call, request_unless, run, set_register, step, value_of_pick, value_read, values_read, with_conditional, with_exit}
unfoldable pub use Rattle.rv32_step.specs.Registers.{put, reg}
pub use Rattle.rv32_step.specs.Reservations.{after_other, after_store_by, with_reservation}
pub use Rattle.rv32_step.specs.declared.CallStep.{CallStep}
pub use Rattle.rv32_step.specs.declared.CallStep.TheVariants.{Ends, Puts, Returns}
pub use Rattle.rv32_step.specs.declared.Demand.{Demand}
pub use Rattle.rv32_step.specs.declared.Demand.TheVariants.{Branches, Calls, Continues, Jumps, Loads, Reserves, Sets, Stores, StoresIf, Traps, Updates}
pub use Rattle.state_table.specs.StateByte.{byte_of, can_read, can_write, state_with}
pub use Rattle.state_table.specs.declared.State.TheVariants.{Exclusive, Invalid}
pub use Rattle.state_table.specs.declared.TheConstants.{EXCLUSIVE, INVALID, PENDING, READ_ONLY, SHARED, UNMAPPED}
pub use Rattle.templates.specs.Commits.{commit_at, is_word_by, is_word_of, part_items}
pub use Rattle.templates.specs.Places.{IsPlace}
pub use Rattle.templates.specs.Plans.{AscendsFrom, HasOneScratch, HasScratches, HasScratchesAt, HasTwoScratches, IsAdmissible, IsScratch, RunsApart, Serves, StartsNoRun, StartsRun, addresses, closes_loop, closes_loop_at, is_flag_checked, may_poll, template_at}
pub use Rattle.templates.specs.Runs.{HasRunScratches, IsInRun, IsRunScratch, Span, code_from, greater, greatest, has_access, is_store, least, lesser, may_stand, reach_at, reach_by, reach_of, span_of}
pub use Rattle.templates.specs.Sequences.{GoesTo, ItemWord, Runs, SequenceItem, batch_items, batch_sequence, branch_sequence, checking, committing, conditional_sequence, constant, fallback_items, fast_items, flag_load_sequence, flag_word, head_items, instruction_items, inverse, is_multiple_of_four, items_in, items_of, jump_sequence, load_sequence, lower_part, mask_readable, own, place_items, poll_first, read_sequence, reload, reload_by, reloads, reloads_of_run, run_items, spill, spill_by, spill_offset, spills, spills_of_run, state_load_sequence, state_look, store_sequence, to_head, upper_part, with_word, write_sequence}
pub use Rattle.templates.specs.declared.commits.CommitKind.{CommitKind}
pub use Rattle.templates.specs.declared.commits.CommitKind.TheVariants.{Always, IfNoWait, IfNotFlag, Never}
pub use Rattle.templates.specs.declared.places.Part.{Part}
pub use Rattle.templates.specs.declared.places.Part.TheVariants.{Fallback, Fast, Head, Single}
pub use Rattle.templates.specs.declared.places.Place.{Place}
pub use Rattle.templates.specs.declared.plans.PlanEntry.{PlanEntry}
pub use Rattle.templates.specs.declared.plans.Scratch.{Scratch}
pub use Rattle.templates.specs.declared.plans.Scratches.{Scratches}
pub use Rattle.templates.specs.declared.reaches.Reach.{Reach}
