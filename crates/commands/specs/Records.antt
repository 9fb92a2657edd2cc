-- The record of a run.
use Rattle.std.specs.Prelude.{Bool, List, Some, map, length}
use Rattle.std.specs.List.{range_with_len}
use Rattle.node_model.specs.Node.{Work}
use Rattle.node_model.specs.Core.{Core, opening_core, after}
use Rattle.run_order.specs.OwnRun.{Stamped, run_of}
use Rattle.run_record.specs.declared.Record.{Record}

-- what the nodes of a core run, with batches or without, and in how many words; and the messages
-- that each took
abbrev pub record_at : Bool → Work → Core → Record
record_at batches work core = record {
  nodes = work.layout.nodes;
  budget = work.budget;
  batch = batches;
  code = Some (length work.image);
  blocks = work.layout.named;
  journals = map (λ i. (core.nodes i).journal) (range_with_len 0 work.layout.nodes);
}

-- the record of the nodes after a run
abbrev pub record_of : Bool → Work → List Stamped → Record
record_of batches work own = record_at batches work (after work (opening_core work) (run_of own))
