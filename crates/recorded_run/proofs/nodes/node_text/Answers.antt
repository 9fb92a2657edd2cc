use Rattle.std.proofs.Common.{◌++◌, ap, ◌∙◌, arith}
use Rattle.block_layout.specs.Layout.{Shape}
use Rattle.event_text.specs.replay.dsm_core.CoreParts.{core_of, work_of}
use Rattle.recorded_run.specs.Nodes.{no_node_text, node_text}
use Rattle.recorded_run.proofs.Lines.{no_such_node, such_node}
use Rattle.recorded_run.proofs.nodes.node_text.Goals as goal

pub returns-then-node-nodes : goal.returns-then-node-nodes
returns-then-node-nodes c =
    let core = c.args.core.now in
    let nodes = c.nodes-nodes.ensures.nodes ∙ ap (λ (s : Shape). s.nodes) c.layout.ensures.value in
    c.in_ok-push_no_node.ensures ∙ ap (λ t. t ++ no_node_text c.args.node c.nodes-nodes.result) c.new-text.ensures.items
    ∙ no_such_node (work_of core) (core_of core) c.args.node c.nodes-nodes.result nodes c.if-node-nodes.true

pub push_node-requires : goal.push_node-requires
push_node-requires c =
    let nodes = c.nodes-nodes.ensures.nodes ∙ ap (λ (s : Shape). s.nodes) c.layout.ensures.value in
    omega (arith, nodes, c.if-node-nodes.false)

pub returns : goal.returns
returns c =
    let core = c.args.core.now in
    let nodes = c.nodes-nodes.ensures.nodes ∙ ap (λ (s : Shape). s.nodes) c.layout.ensures.value in
    c.in_ok-push_node.ensures ∙ ap (λ t. t ++ node_text (work_of core) (core_of core) c.args.node) c.new-text.ensures.items
    ∙ such_node (work_of core) (core_of core) c.args.node (omega (arith, nodes, c.if-node-nodes.false))
