-- The picks of the original processors that a run of nodes of several processors stands for.
use Rattle.std.specs.Prelude.{ℕ, zero, suc, if◌then◌else◌, ◌==◌, List, [], ◌∷◌, ◌++◌, Option, Some, None}
use Rattle.rv32_step.specs.OneMemory.{Pick, Step}
use Rattle.templates.specs.declared.plans.PlanEntry.{PlanEntry}
use Rattle.home_directory.specs.dsm_messages.declared.messages.Wire.{Wire}
use Rattle.rewriting_law.specs.CoreRun.{Order, order_of, break_by, commits, value_at}
use Rattle.node_model.specs.Node.{Node}
use Rattle.lane_model.specs.Nodes.{LaneWork, processors, node_of, lane_of, processor_of, as_node}
use Rattle.lane_model.specs.Core.{LaneCore, LaneEvent, Exec, Take, event_step}

-- the node of processor p, as the processor sees it
abbrev pub seen_by : LaneWork → LaneCore → (p : ℕ) → Node
seen_by w c p = as_node (c.nodes (node_of w p)) (lane_of w p)

-- the processor that holds node i's wait for a block
abbrev pub holder_at : LaneWork → LaneCore → (i b : ℕ) → ℕ
holder_at w c i b = processor_of w i ((c.nodes i).shared.holder b)

-- an order, whose requester is the processor that holds the wait of the node that it names
abbrev pub held_order : (holder : ℕ → ℕ → ℕ) → Option Order → Option Order
held_order holder None = None
held_order holder (Some x) =
    Some (record { block = x.block; requester = holder x.requester x.block })

-- the breaks of the first processors, ascending: of those of node i, each whose reservation lies in
-- the block that is given up
abbrev pub breaks : LaneWork → LaneCore → (i : ℕ) → Option Order → ℕ → List Pick
breaks w c i order zero = []
breaks w c i order (suc p) =
    breaks w c i order p
    ++ (if node_of w p == i
    then break_by w.work.layout p order (seen_by w c p).local.reservation else [])

-- the picks of node i's taking of the first of these messages from node j
abbrev pub picks_of_take : LaneWork → LaneCore → (i j : ℕ) → List Wire → List Pick
picks_of_take w c i j [] = []
picks_of_take w c i j (wire ∷ rest) =
    breaks w c i
    (held_order (holder_at w c) (order_of w.work.layout (as_node (c.nodes i) 0) j wire.message))
    (processors w)

abbrev pub picks_at : LaneWork → List PlanEntry → LaneCore → LaneEvent → List Pick
picks_at w plan c (Exec p) = if commits w.work plan (seen_by w c p) then Step p ∷ [] else []
picks_at w plan c (Take i j) = picks_of_take w c i j (c.list j i)

-- the picks of a run: a step for each word that commits, and a break for each reservation that a
-- message clears, in the order of the events
abbrev pub picks_of : LaneWork → List PlanEntry → LaneCore → List LaneEvent → List Pick
picks_of w plan c [] = []
picks_of w plan c (e ∷ es) = picks_at w plan c e ++ picks_of w plan (event_step w c e) es

-- the values that the committing words of processor p read, in order
abbrev pub values_at : LaneWork → List PlanEntry → (p : ℕ) → LaneCore → LaneEvent → List ℕ
values_at w plan p c (Exec q) = if p == q then value_at w.work plan (seen_by w c q) else []
values_at w plan p c (Take i j) = []

abbrev pub values_of : LaneWork → List PlanEntry → (p : ℕ) → LaneCore → List LaneEvent → List ℕ
values_of w plan p c [] = []
values_of w plan p c (e ∷ es) =
    values_at w plan p c e ++ values_of w plan p (event_step w c e) es
