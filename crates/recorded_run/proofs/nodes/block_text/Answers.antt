use Rattle.std.proofs.Common.{◌≡◌, ◌<◌, ◌++◌, Some, None, ap, sym, subst, ◌∙◌}
use Rattle.block_layout.specs.Layout.{Shape, blocks}
use Rattle.event_text.specs.node_machine.Wanted.{block_with}
use Rattle.event_text.specs.replay.dsm_core.CoreParts.{core_of}
use Rattle.recorded_run.specs.Nodes.{block_text, block_text_if, no_block_text}
use Rattle.recorded_run.proofs.nodes.block_text.Goals as goal

pub returns-in_default : goal.returns-in_default
returns-in_default c =
    let core = c.args.core.now in
    let a = c.args.address in
    let is : block_with core.layout a ≡ None =
    ap (λ (s : Shape). block_with s a) (sym c.layout-layout.ensures.value) ∙ sym c.block_of.ensures ∙ c.in_default.is in
    c.in_ok-push_no_block.ensures ∙ ap (λ t. t ++ no_block_text) c.new-text.ensures.items
    ∙ ap (block_text_if core.layout (core_of core)) (sym is)

pub push_block-requires : goal.push_block-requires
push_block-requires c =
    let l = c.layout-layout.result.now in
    let a = c.args.address in
    let is = sym c.block_of.ensures ∙ c.in-Some.is in
    let low = c.layout_law.ensures.found l c.in-Some.block _ c.nodes-nodes.ensures.valid is in
    subst (λ (s : Shape). c.in-Some.block < blocks s) c.layout-layout.ensures.value low.0

pub returns : goal.returns
returns c =
    let core = c.args.core.now in
    let a = c.args.address in
    let is : block_with core.layout a ≡ Some c.in-Some.block =
    ap (λ (s : Shape). block_with s a) (sym c.layout-layout.ensures.value) ∙ sym c.block_of.ensures ∙ c.in-Some.is in
    c.in_ok-push_block.ensures ∙ ap (λ t. t ++ block_text core.layout (core_of core) c.in-Some.block) c.new-text.ensures.items
    ∙ ap (block_text_if core.layout (core_of core)) (sym is)
