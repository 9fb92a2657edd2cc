use Rattle.std.proofs.Common.{ap, ◌∙◌, arith}
use Rattle.std.specs.Prelude.{◌++◌}
use Rattle.block_layout.specs.Layout.{Shape, home}
use Rattle.home_directory.specs.Home.{DirectoryEntry}
use Rattle.node_model.specs.Turns.{block_at}
use Rattle.event_text.specs.replay.dsm_core.CoreParts.{core_of}
use Rattle.event_text.specs.node_machine.NodeState.{node_of, work_of as work_at}
use Rattle.recorded_run.specs.Nodes.{entry_in, state_line}
use Rattle.recorded_run.proofs.Lines.{kept_at_home, next_state, state_there, whole_block}
use Rattle.recorded_run.proofs.nodes.push_block.Goals as goal

pub loop-node-preserved : goal.loop-node-preserved
loop-node-preserved c =
    let core = c.args.core.now in
    let b = c.args.block in
    let i = c.loop-node.node in
    let out = c.loop-node.out.items in
    let at_home = c.node-at_home.result.now in
    let at = c.node.result.now in
    let kept = kept_at_home core b c.home-home.result c.layout-layout.result.now (node_of at_home) c.node-at_home.ensures.value
    c.home-home.ensures.home c.layout-layout.ensures.value in
    let there = state_there core (work_at at_home) (node_of at) i b c.node.ensures.value c.node-at_home.ensures.work in
    next_state core.layout (core_of core) (entry_in core.layout (core_of core) b) b i c.push_home_line.new.out.items out
    c.push_state.new.out.items c.loop-node.invariant (c.in_ok-push_state.ensures
    ∙ ap (λ (e : DirectoryEntry). out ++ state_line e i (block_at (work_at at_home).layout (node_of at) b).state) kept
    ∙ ap (λ x. out ++ state_line (entry_in core.layout (core_of core) b) i x.state) there)

pub returns : goal.returns
returns c =
    let core = c.args.core.now in
    let b = c.args.block in
    let layout = c.layout-layout.ensures.value in
    let end = c.nodes-node-end.ensures.nodes in
    let same = ap (λ (s : Shape). s.nodes) layout in
    let at_home = c.node-at_home.result.now in
    whole_block core b c.home-home.result c.loop-node.node ((node_of at_home).entry b) c.args.out.now.items
    c.push_home_line.new.out.items c.loop-node.out.items c.in_ok-push_home_line.ensures
    (c.home-home.ensures.home ∙ ap (λ (s : Shape). home s b) layout)
    (kept_at_home core b c.home-home.result c.layout-layout.result.now (node_of at_home) c.node-at_home.ensures.value
    c.home-home.ensures.home layout) c.loop-node.invariant
    (omega (arith, c.loop-node-test.false, c.loop-node.auto.node-end, end, same))
