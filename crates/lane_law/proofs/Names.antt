-- The definitions that these proofs speak of, each from where it stands.
pub use Rattle.rewriting_law.proofs.Names.{Access, Again, Batch, Break, Call, CallStep, Class, CommitKind, Core, Demand, End, Ended, Ends, EndsAs, Enters, Exchanges, Exit, Exited, Far, Fetch, GoesTo, Instr, IsAccepted, ItemWord, Jal, Leaves, Licensed, LoadKind, Memory, Miss, MissR, MissW, Move, Native, Need, Next, Node, NodeCounts, NodeMemory, NoneIs, Nothing, Order, Original, Phase, Pick, PlanEntry, Poll, Prepare, Private, Processor, ProcessorState, Puts, Read, ReadOnly, Reads, Region, Resume, Resumed, Returns, RtWord, Running, Runs, RunsToStore, Shape, Shared, State, Stopped, To, Turn, Unmapped, Wait, Waiting, Waits, Want, Width, Wire, Word, WordOutcome, Work, Write, Writes, WritesIf, Xjalr, after_word, batch, batch_by, block_of, blocks, break_by, by_row_or, byes_to, call_step, can_execute, changed, cleared, commit_at, commits_by, count_of, demand_of, each_block_once, execute, execute_at, exit_by, first_lane, first_processor, has_all_byes, has_line, has_message, holding, holds, is_aligned, is_at_poll, is_ended, is_exit, is_fixed_state, is_for_home, is_in_block, is_mapped_state, is_readable_state, is_wait, is_writable_state, lane_after, lane_resumed, line_of, load, make_call, may_execute, may_take, messages_of, most_waits, native, need_of_run, next_outcome, offset_address, one_refuses, opening, order_by, order_of, phase_after, reg, region_of, request, run, sends_in, signed, stands_at_store, stop_or, store, store_if, takes_messages, unmet, want_in, wanted, wants_of, width_of, wires_to, with_reservation, word_outcome}
pub use Rattle.lane_law.specs.Law.{AllLicensed, AreAllOver, AreEmpty, GoesOn, HaveRows, Interleaves, IsCoherent, IsLicensed, RunsOnLanes, SameReservations, StopsAtBudget, most_lane_events, original_after, original_by_lane, phase_of}
pub use Rattle.lane_law.specs.Picks.{held_order, picks_at, picks_of, picks_of_take, values_at, values_of}
pub use Rattle.lane_model.specs.Core.{Exec, IsLaneRun, LaneCore, LaneEvent, May, Take, after, event_step, is_over, lane_lets, lowers_first, opening_core, printed_at, printed_by, standing_in, standing_of, take_first, with_list, with_turn}
pub use Rattle.lane_model.specs.Nodes.{LaneNode, LanePart, LaneWork, all_lanes, as_node, lane_of, local_of, node_of, processor_of, processors, shared_by, some_lane}
pub use Rattle.lane_model.specs.Turns.{Asked, LaneTurn, after_message, ask, ask_all, blocks_of, counted, ending, exceeds, handled_for, has_ended, have_ended, held_by, holder_after, is_beyond, journaled, lost, part_after, reserved_after, resume_part, resumed, still, take_turn, wants_at, with_byes, word_asked, word_before, word_turn}
pub use Rattle.node_model.specs.jump_map.Image.{IsRewriting, distance, head_of, is_near, item_word, number_of_word}
pub use Rattle.node_model.specs.jump_map.Maps.{fetch, old_of}
pub use Rattle.node_model.specs.miss_handlers.Rows.{Row, block_in, is_bye, row_of, taker_in}
pub use Rattle.rv32_step.specs.Registers.{first_values, registers_of}
