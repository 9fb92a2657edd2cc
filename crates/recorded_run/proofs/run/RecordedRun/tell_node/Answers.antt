-- What is told of a node.
use Rattle.std.proofs.Common.{sym, ap, ◌∙◌}
use Rattle.event_text.specs.run_trace.node_model.Node.{Work}
use Rattle.event_text.specs.replay.dsm_core.CoreParts.{CoreParts, core_of, work_of}
use Rattle.recorded_run.specs.Nodes.{node_text_if}
use Rattle.recorded_run.specs.Shown.{Recorded, work_shown}
use Rattle.recorded_run.proofs.Showing.{along_none, kept_again, last_there, looks, nodes_of}
use Rattle.recorded_run.proofs.run.RecordedRun.tell_node.Goals as goal

pub keep-requires : goal.keep-requires
keep-requires c =
    let s = c.args.self.now in
    let w = c.in_ok-walk.walk in
    let stands = c.in_ok-walk.ensures.stands in
    record {
      along = along_none s c.take_walk.new.self w c.in_ok-walk.ensures.run stands.along;
      walking = (stands.seen, stands.walked);
      there = λ e is. last_there s w stands e (sym (ap (λ (s : Recorded). s.behind) c.self.view_is) ∙ is);
    }

pub returns : goal.returns
returns c =
    let s = c.args.self.now in
    let w = c.in_ok-walk.walk in
    let i = c.args.node in
    let stands = c.in_ok-walk.ensures.stands in
    looks s _ w (λ seen c. node_text_if (work_shown s) c i) _ stands
    (c.in_ok-text.ensures ∙ ap (λ (p : CoreParts). node_text_if (work_of p) (core_of p) i) c.core.ensures
    ∙ ap (λ (k : Work). node_text_if k (nodes_of w) i) stands.along.work_is)
    (kept_again s c.take_walk.new.self _ c.self.inside.behind c.in_ok-walk.ensures.run c.keep.ensures
    (ap (λ (s : Recorded). s.behind) c.self.view_is))
