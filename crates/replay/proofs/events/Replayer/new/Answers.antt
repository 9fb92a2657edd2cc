-- The start of a run.
use Rattle.std.proofs.Common.{[], ap, sym, subst, ◌∙◌}
use Rattle.run_order.specs.node_model.Node.{Work}
use Rattle.run_record.specs.declared.Record.{Record}
use Rattle.run_record.specs.Record.{IsRecord}
use Rattle.dsm_core.specs.CoreParts.{work_of, core_of}
use Rattle.replay.specs.Told.{told_in, entries_of}
use Rattle.replay.proofs.Runs.{begins}
use Rattle.replay.proofs.events.Replayer.new.Goals as goal

pub returns-clause-running : goal.returns-clause-running
returns-clause-running c =
    let core = c.in_ok-core.core in
    let w = c.new-cursors.result in
    let made = c.in_ok-core.ensures in
    let first = c.new-cursors.ensures in
    let nodes = ap (λ (x : Work). x.layout.nodes) made.work ∙ c.requires.nodes
    ∙ ap (λ (r : Record). r.nodes) (sym first.rec) in
    record {
      lawful = first.lawful;
      nodes = nodes;
      way = (
        [],
        begins (work_of core) w (core_of core)
            (subst IsRecord (sym first.rec) c.requires.record)
            (λ i. first.left i ∙ ap (λ (r : Record). told_in i 1 0 (entries_of r i)) (sym first.rec))
            first.last nodes made.opening,
      );
    }

pub returns-clause-made : goal.returns-clause-made
returns-clause-made c =
    let core = c.in_ok-core.core in
    let w = c.new-cursors.result in
    let made = c.in_ok-core.ensures in
    let first = c.new-cursors.ensures in
    let nodes = ap (λ (x : Work). x.layout.nodes) made.work ∙ c.requires.nodes
    ∙ ap (λ (r : Record). r.nodes) (sym first.rec) in
    record {
      lawful = first.lawful;
      nodes = nodes;
      way = begins (work_of core) w (core_of core)
          (subst IsRecord (sym first.rec) c.requires.record)
          (λ i. first.left i ∙ ap (λ (r : Record). told_in i 1 0 (entries_of r i)) (sym first.rec))
          first.last nodes made.opening;
    }
