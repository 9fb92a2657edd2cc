-- What a processor's node does.
use Rattle.std.proofs.Common.{◌≡◌, sym, ap, subst, ◌∙◌}
use Rattle.event_text.specs.run_trace.node_model.Node.{Work}
use Rattle.event_text.specs.replay.dsm_core.CoreParts.{CoreParts, core_of, work_of}
use Rattle.debugged_run.specs.time_machine.Stand.{Run}
use Rattle.recorded_run.specs.Nodes.{NodeDoes}
use Rattle.recorded_run.specs.Shown.{Recorded, work_shown}
use Rattle.recorded_run.proofs.Showing.{along_none, are_shown, as_many_nodes, kept_again, last_there, node_there, nodes_of}
use Rattle.recorded_run.proofs.run.RecordedRun.doing_of_node.Goals as goal

pub doing_of-doing-requires : goal.doing_of-doing-requires
doing_of-doing-requires c =
    let s = c.args.self.now in
    let i = c.self.inside in
    let same = as_many_nodes i.debugged i.work i.plan.now i.code.now i.kept.now i.walk i.behind c.self.invariant in
    let here = ap (λ (r : Recorded). r.stand.run) c.self.view_is in
    node_there s c.in_ok-walk.walk c.args.processor c.core.result.now c.core.ensures c.in_ok-walk.ensures.stands.along
    (subst (λ (r : Run). r.nodes ≡ r.layout.nodes) here same) c.requires

pub keep-requires : goal.keep-requires
keep-requires c =
    let s = c.args.self.now in
    let w = c.in_ok-walk.walk in
    let stands = c.in_ok-walk.ensures.stands in
    record {
      along = along_none s c.take_walk.new.self w c.in_ok-walk.ensures.run stands.along;
      walking = (stands.seen, stands.walked);
      there = λ e is. last_there s w stands e (sym (ap (λ (s : Recorded). s.behind) c.self.view_is) ∙ is);
    }

pub returns-clause-does : goal.returns-clause-does
returns-clause-does c =
    let s = c.args.self.now in
    let w = c.in_ok-walk.walk in
    let p = c.args.processor in
    let d = c.doing_of-doing.result in
    let stands = c.in_ok-walk.ensures.stands in
    let does : NodeDoes (work_shown s) ((nodes_of w).nodes p) d =
    subst (λ (k : Work). NodeDoes k ((nodes_of w).nodes p) d) stands.along.work_is
    (subst (λ (x : CoreParts). NodeDoes (work_of x) ((core_of x).nodes p) d) c.core.ensures c.doing_of-doing.ensures) in
    (stands.seen, nodes_of w, are_shown s w stands, does)

pub returns-clause-same : goal.returns-clause-same
returns-clause-same c =
    kept_again c.args.self.now c.take_walk.new.self _ c.self.inside.behind c.in_ok-walk.ensures.run c.keep.ensures
    (ap (λ (s : Recorded). s.behind) c.self.view_is)
