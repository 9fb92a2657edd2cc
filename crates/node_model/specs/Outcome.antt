-- What a run of nodes gives: the bytes printed, how each processor ended, and what each node
-- counted.
use Rattle.std.specs.Prelude.{◌≡◌, ℕ, ◌+◌, ◌*◌, ◌≤◌, List, Option, Some, map, sum_by}
use Rattle.std.specs.List.{range_with_len}
use Rattle.jump_map.specs.rv32_program.declared.End.{End}
use Rattle.node_model.specs.declared.NodeCounts.{NodeCounts}
use Rattle.node_model.specs.Node.{Work, end_of}
use Rattle.node_model.specs.Core.{Event, opening_core, after, printed_by}

pub record Outcome : Type 0 where
  pub output : List ℕ
  pub ends : List End
  pub counts : List NodeCounts

-- the ends of the nodes after the events, of which a processor that goes on has none
abbrev pub ends_after : Work → List Event → List (Option End)
ends_after work events =
    map (λ i. end_of ((after work (opening_core work) events).nodes i).phase)
    (range_with_len 0 work.layout.nodes)

abbrev pub counts_after : Work → List Event → List NodeCounts
counts_after work events =
    map (λ i. ((after work (opening_core work) events).nodes i).counts)
    (range_with_len 0 work.layout.nodes)

-- Write messages sent
abbrev pub write_misses : NodeCounts → ℕ
write_misses c = c.exclusive + c.upgrade

-- what n nodes have sent is no more than their misses may cost: four messages a read miss, and
-- 2n + 1 a write miss
abbrev pub AreFrugal : (n : ℕ) → List NodeCounts → Type 0
AreFrugal n counts = sum_by (λ c. c.messages) counts
    ≤ 4 * sum_by (λ c. c.read) counts + (2 * n + 1) * sum_by write_misses counts

-- what the events give from the start, once each processor has ended: the bytes in the order of the
-- events
pub record IsOutcomeOf (work : Work) (events : List Event) (o : Outcome) : Type 0 where
  pub output : o.output ≡ printed_by work (opening_core work) events
  pub ends : ends_after work events ≡ map (λ e. Some e) o.ends
  pub counts : o.counts ≡ counts_after work events
