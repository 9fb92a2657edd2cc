-- The label of a node's next word.
use Rattle.std.proofs.Common.{ap, ◌∙◌}
use Rattle.run_trace.specs.node_model.Node.{Node}
use Rattle.run_trace.specs.replay.dsm_core.CoreParts.{CoreParts, core_of}
use Rattle.run_costs.specs.Counting.{node_in, plan_in, work_in}
use Rattle.run_costs.proofs.Labels.{label_is, label_fits, some_labels}
use Rattle.run_costs.proofs.counting.Counting.next_label.Goals as goal

pub label_at-requires : goal.label_at-requires
label_at-requires c =
    let s = c.args.self.now in
    record {
      some = some_labels c.requires.counted.0 (work_in s) (plan_in s) c.deref.result.now
          (c.deref.ensures.value ∙ c.requires.counted.2.labels);
    }

pub returns-clause-label : goal.returns-clause-label
returns-clause-label c = λ symbols seen h.
    let s = c.args.self.now in
    let core = c.core.ensures.value in
    let node = c.node.ensures.value ∙ ap (λ (p : CoreParts). (core_of p).nodes c.args.node) core in
    let at = c.at.ensures.value ∙ ap (λ (n : Node). n.lane.at) node in
    label_is symbols (work_in s) (plan_in s) s.labels.items c.deref.result.now c.label_at.result c.at.result
    (node_in s c.args.node).lane.at c.deref.ensures.value h.labels at c.label_at.ensures

pub returns-clause-function : goal.returns-clause-function
returns-clause-function c =
    let s = c.args.self.now in
    let symbols = c.requires.counted.0 in
    let h = c.requires.counted.2 in
    let core = c.core.ensures.value in
    let node = c.node.ensures.value ∙ ap (λ (p : CoreParts). (core_of p).nodes c.args.node) core in
    let at = c.at.ensures.value ∙ ap (λ (n : Node). n.lane.at) node in
    label_fits symbols (work_in s) (plan_in s) (node_in s c.args.node).lane.at c.label_at.result _ _
    (label_is symbols (work_in s) (plan_in s) s.labels.items c.deref.result.now c.label_at.result c.at.result
    (node_in s c.args.node).lane.at c.deref.ensures.value h.labels at c.label_at.ensures) h.tallied
