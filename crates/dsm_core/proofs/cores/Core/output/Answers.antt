-- The bytes of the nodes, sorted, are those of the run.
use Rattle.std.proofs.Common.{rules, ◌≤◌, map, ap, ◌∙◌, subst, arith}
use Rattle.std.proofs.lemmas.List.Sorted.{IsNonDecreasingBy-from_sort_by_key}
use Rattle.std.proofs.lemmas.Result.{IfOk-weaker}
use Rattle.block_layout.specs.Layout.{Shape}
use Rattle.dsm_core.specs.CoreParts.{work_of, core_of}
use Rattle.dsm_core.specs.Printing.{place_of, byte_of}
use Rattle.dsm_core.proofs.Printing.{sorted_is}
use Rattle.dsm_core.proofs.cores.Core.output.Goals as goal

pub returns : goal.returns
returns c =
    let p = c.args.self.now in
    let work = work_of p in
    let core = core_of p in
    let sorted = c.sort_unstable_by_key.new.self.items in
    let all = c.in_ok-printed.printed.items in
    let law = c.stamp_law.ensures in
    let nodes = c.nodes.ensures.valid.few_nodes in
    let few = subst (λ (s : Shape). s.nodes ≤ 256) c.layout.ensures.value
    (omega (arith, nodes)) in
    let up = IsNonDecreasingBy-from_sort_by_key place_of _ c.sort_unstable_by_key.ensures.sorted
    (λ a r q k. search rules) in
    IfOk-weaker c.bytes.result _ _ (λ v is events stands.
    let bytes = law.bytes work core events stands in
    is ∙ ap (map byte_of) c.deref.ensures.value
    ∙ sorted_is p.layout.nodes core.nodes all sorted bytes.0 few c.in_ok-printed.ensures
    c.sort_unstable_by_key.ensures.permutation up bytes.1
    ∙ law.merged work core events bytes.0 stands bytes.1) c.bytes.ensures
