use Rattle.std.proofs.Common.{◌≡◌, ◌<◌, ◌↔◌, ℕ, List, length, get_or, ap, ◌∙◌, subst}
use Rattle.std.specs.Prelude.{Some, slice_get}
use Rattle.rv32_decode.specs.Registers.{IsMember}
use Rattle.templates.specs.declared.code.CodeWord.{CodeWord}
use Rattle.liveness.specs.declared.node.FlowNode.{FlowNode}
use Rattle.liveness.specs.Nodes.{Live as IsLive, IsUnneeded}
use Rattle.liveness.proofs.TieLemmas.{exact_of}
use Rattle.liveness.proofs.live.Live.of.Goals as goal

pub invariant_of-result : goal.invariant_of-result
invariant_of-result c =
    let words = c.args.graph.now in
    let nodes : List FlowNode = c.in_ok-nodes.nodes.items in
    let live : List ℕ = c.in_ok-live.live.items in
    let dead : List ℕ = c.in_ok-dead.dead.items in
    let whole = c.words-words.ensures.value ∙ c.code.ensures.value in
    let Exact : List FlowNode → Type 0 = λ ns. (i r : ℕ) → r < 32 → (IsMember (get_or live i 0) r ↔ IsLive ns r i) in
    let Each : List CodeWord → List FlowNode → List ℕ → Type 0 = λ ws ns ss. (k : ℕ) (w : CodeWord) (node : FlowNode) → slice_get ws k ≡ Some w → slice_get ns k ≡ Some node → IsUnneeded w.instruction node ss (get_or dead k 0) in
    let each : Each c.words-words.result.now c.deref-2.result.now c.deref-3.result.now = c.in_ok-dead.ensures.each in
    let each_words : Each words c.deref-2.result.now c.deref-3.result.now = subst (λ ws. Each ws c.deref-2.result.now c.deref-3.result.now) whole each in
    let each_nodes : Each words nodes c.deref-3.result.now = subst (λ ns. Each words ns c.deref-3.result.now) c.deref-2.ensures.value each_words in
    let each_sets : Each words nodes live = subst (λ ss. Each words nodes ss) c.deref-3.ensures.value each_nodes in (
      c.code.ensures.ascends,
      exact_of words nodes live dead c.code.ensures.ascends c.in_ok-nodes.ensures.value
          (c.in_ok-live.ensures.count ∙ ap length c.deref.ensures.value) (c.in_ok-dead.ensures.count ∙ ap length whole)
          (subst Exact c.deref.ensures.value c.in_ok-live.ensures.each) each_sets,
    )
