-- The definitions that these proofs speak of, each from where it stands.
pub use Rattle.block_layout.specs.Layout.{IsValid, Shape, block_of, blocks, first_line, has_line, home, is_shared, lines}
pub use Rattle.block_layout.specs.Update.{changed}
pub use Rattle.buf_pool.specs.Pool.{Buffer, Slots, empty_buffer}
pub use Rattle.coherence.specs.Claims.{AfterEveryList, HaveRows}
pub use Rattle.coherence.specs.Machine.{Core, Event, Store, Take, Want, after, apply, local, occupancy_after, opening, queue_after, those_to, wires}
unfoldable pub use Rattle.coherence.specs.Machine.{send_all, update2}
pub use Rattle.coherence.specs.Table.{BlockAtNode, Effect, Queueing, Stays, count, sum_below}
unfoldable pub use Rattle.coherence.specs.Table.{update}
pub use Rattle.dsm_protocol.specs.Abstraction.{Contents, StandsFor, answer_of, busy_of, contents, home_in, local_of, most_waits, need_of, requests_of, setting_of, wait_of, wire_of, wires_of}
unfoldable pub use Rattle.dsm_protocol.specs.Abstraction.{page}
pub use Rattle.dsm_protocol.specs.Buffers.{AreInOnePlace, asked_by, carrying, is_answered}
pub use Rattle.dsm_protocol.specs.Events.{Leads, after_row, holding, pending, row_of, sends_in}
pub use Rattle.dsm_protocol.specs.Holds.{AfterTake, AfterWant, AreByes, AreSettled, Holds, HoldsBy, NoneIs, Opens, SameBut, after_bye, after_byes, after_store, has_message, is_for_home, wanted}
pub use Rattle.dsm_protocol.specs.Memory.{address_of, byte_in, may_read, may_write, memory_at, reads_in, store_bytes, store_in, writes_in}
pub use Rattle.dsm_protocol.specs.Messages.{AreSent, IsMessageTaken, SameMessages}
pub use Rattle.dsm_protocol.specs.Nodes.{AreReached, HasHandled, IsNode, Nodes, alone, no_node, node_at, node_in, world_of}
pub use Rattle.dsm_protocol.specs.Opening.{IsOpening, first_bytes, first_contents}
pub use Rattle.dsm_protocol.specs.Promises.{Flagged, NeverStuck, OneWriter, ReadsMemory, RowsCome}
pub use Rattle.dsm_protocol.specs.Sound.{AreRoomy, AreSound, HasNoBye, IsFullWait, IsLaid, IsRoomy, IsSound, NoByes, Sound, size}
pub use Rattle.dsm_protocol.specs.Want.{HasWanted, posts_of}
pub use Rattle.dsm_protocol.specs.World.{World, after_home_row, after_miss, after_node_row, local_block, messages_to, with_list, with_sends}
pub use Rattle.dsm_protocol.specs.declared.nodes.BareNode.{BareNode}
pub use Rattle.home_directory.specs.Effects.{Directory, entries_of, entry_at, requests_for}
pub use Rattle.home_directory.specs.Home.{DirectoryEntry, Home, count_of, done_with, first_entry, invals, occupancy_then, others, post, waits, without_first}
pub use Rattle.home_directory.specs.Table.{BlockFacts, HomeRow, LocalBlock, Miss, NodeRow, Start, ack_row, ask_row, ask_when, bytes_by, completion, data_row, done_home, done_row, done_when, first_leaves, first_wait, fwd_read_row, fwd_write_row, grant_row, grant_start, inval_row, is_complete, is_write, meets, next_or, next_start, node_row, one_ack_more, read_start, request, start_at, start_home, start_or, start_row, state_for, state_in_wait, state_without, want_row, with_answer, write_start}
unfoldable pub use Rattle.home_directory.specs.byte_range.Memory.{raw, stored}
pub use Rattle.home_directory.specs.declared.directory.Busy.{Busy}
pub use Rattle.home_directory.specs.declared.directory.Request.{Request}
pub use Rattle.home_directory.specs.declared.wait.Answer.{Answer}
pub use Rattle.home_directory.specs.declared.wait.Answer.TheVariants.{ByData, ByGrant}
pub use Rattle.home_directory.specs.declared.wait.Wait.{Wait}
pub use Rattle.home_directory.specs.dsm_messages.declared.messages.Message.{Message}
pub use Rattle.home_directory.specs.dsm_messages.declared.messages.Message.TheVariants.{Ack, Bye, Data, Done, FwdRead, FwdWrite, Grant, Inval, Read, Write}
pub use Rattle.home_directory.specs.dsm_messages.declared.messages.Need.{Need}
pub use Rattle.home_directory.specs.dsm_messages.declared.messages.Post.{Post}
pub use Rattle.home_directory.specs.dsm_messages.declared.messages.Wire.{Wire}
pub use Rattle.home_directory.specs.flag_memory.Copy.{Copy, CopyLaws, bytes_from, bytes_of, memory}
pub use Rattle.home_directory.specs.flag_memory.FirstBytes.{FirstRange, first_byte}
pub use Rattle.home_directory.specs.flag_memory.Flag.{flag_byte, flags}
pub use Rattle.message_queues.specs.Queue.{AreQueues, IsSent, IsTaken, Queue, SameWires, list_of, message_of}
pub use Rattle.message_queues.specs.node_model.Core.{wires_to}
pub use Rattle.message_queues.specs.node_model.miss_handlers.Effects.{HasEffect, NodeBlocks, message_effect, miss_of, node_blocks, pool_after, pool_after_miss, row_effect, states_after, waits_after}
pub use Rattle.message_queues.specs.node_model.miss_handlers.Rows.{AtHome, AtNode, Row, at_home, at_node, home_of, if_home, is_bye, node_row_of, taker_in, takes_away}
pub use Rattle.message_queues.specs.node_model.miss_handlers.Waits.{AreWaits, NodeWaits, wait_in}
pub use Rattle.message_queues.specs.node_model.miss_handlers.declared.Waiting.{Waiting}
pub use Rattle.rv32_decode.specs.Widths.{is_aligned, size_of}
pub use Rattle.rv32_decode.specs.declared.Width.{Width}
pub use Rattle.rv32_decode.specs.declared.Width.TheVariants.{Byte, Half, Word}
pub use Rattle.state_table.specs.StateByte.{can_read, can_write}
pub use Rattle.state_table.specs.States.{States, state_of}
pub use Rattle.state_table.specs.declared.State.{State}
pub use Rattle.state_table.specs.declared.State.TheVariants.{Exclusive, Invalid, Pending, Shared}
