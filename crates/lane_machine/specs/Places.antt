-- Helps the code alone: what a node keeps for each of its lanes.
use Rattle.std.specs.Prelude.{ℕ, Bool, false, ◌==◌, List, map, slice_index_or, Option, None}
use Rattle.std.specs.Option.{option_map_or}
use Rattle.buf_pool.specs.Pool.{Slots}
use Rattle.home_directory.specs.declared.wait.Wait.{Wait}
use Rattle.node_machine.specs.miss_handlers.Waits.{wait_of}
use Rattle.node_machine.specs.node_words.declared.exec_state.ExecState.{ExecState}
use Rattle.node_machine.specs.node_words.declared.lane.ProcessorState as kept
use Rattle.lane_machine.specs.declared.lane_protocol.LaneProtocol.{LaneProtocol}

-- the address that a lane has reserved
abbrev pub reserved_in : List LaneProtocol → (k : ℕ) → Option ℕ
reserved_in places k = slice_index_or (map (λ p. p.reservation) places) k None

-- the wait that the node has for lane k, by block
abbrev pub wait_at : List LaneProtocol → (k : ℕ) → ℕ → Option Wait
wait_at places k = slice_index_or (map (λ p. wait_of p.waits) places) k (λ b. None)

abbrev pub pools_in : List LaneProtocol → List Slots
pools_in places = map (λ p. p.pool) places

-- lane k is the one that is spared
abbrev pub is_spared : Option ℕ → (k : ℕ) → Bool
is_spared spared k = option_map_or (λ j. k == j) spared false

-- what a lane's words see, while the lane and the reservation in its place are in use
abbrev pub in_use : ExecState → kept.ProcessorState → LaneProtocol → ExecState
in_use b l p = record b { lane = l; local = record b.local { reservation = p.reservation } }
