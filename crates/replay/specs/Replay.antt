-- A record of a run, made once more.
use Rattle.std.specs.Prelude.{◌≡◌, ℕ, ◌<◌, List, map}
use Rattle.run_order.specs.node_model.Node.{Work}
use Rattle.run_order.specs.node_model.Core.{Core, IsOver, opening_core, after}
use Rattle.run_order.specs.node_model.Outcome.{Outcome, IsOutcomeOf}
use Rattle.run_order.specs.OwnRun.{StandsForOwnRun}
use Rattle.run_record.specs.declared.Record.{Record}
use Rattle.replay.specs.Told.{Told, AreToldBy, AreMadeAs, what_told, events_told, entries_of}

-- The record tells of a whole run: its events, in their order, are made as they are told of from
-- the start on, and after them each node is over.
pub record TellsWholeRun (work : Work) (r : Record) (told : List Told) : Type 0 where
  pub are_told : AreToldBy r told
  pub made : AreMadeAs work (opening_core work) (map what_told told)
  pub over : IsOver work (after work (opening_core work) (events_told told))

-- The record tells of a whole run with this outcome. The nodes that the run leads to stand for it.
pub record IsReplay (work : Work) (r : Record) (o : Outcome) : Type 0 where
  pub told : List Told
  pub whole : TellsWholeRun work r told
  pub stands : StandsForOwnRun work (after work (opening_core work) (events_told told))
      (map what_told told)
  pub outcome : IsOutcomeOf work (events_told told) o

-- the record has the nodes of the core, and their journals
pub record HasJournalsOf (work : Work) (c : Core) (r : Record) : Type 0 where
  pub nodes : r.nodes ≡ work.layout.nodes
  pub journals : (i : ℕ) → i < r.nodes → entries_of r i ≡ (c.nodes i).journal
