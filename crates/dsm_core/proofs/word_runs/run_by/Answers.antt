-- The node's words are the core's events.
use Rattle.std.proofs.Common.{◌≡◌, ◌<◌, ◌^◌, true, refl, sym, subst}
use Rattle.run_order.specs.node_model.Node.{Node, Work, can_execute}
use Rattle.node_machine.specs.NodeState.{node_of, work_of as work_at}
use Rattle.dsm_core.specs.CoreSteps.{SameNodes}
use Rattle.dsm_core.proofs.CoreSteps.{same_node, same_work, set_same}
use Rattle.dsm_core.proofs.Words.{learned_words, passed_words}
use Rattle.dsm_core.proofs.word_runs.run_by.Goals as goal

pub run_by-requires-clause-may : goal.run_by-requires-clause-may
run_by-requires-clause-may g c =
    let ns = c.args.nodes.now.items in
    let x = c.index_mut.result.now in
    let below = subst (λ z. c.args.node < z) (sym c.requires.count) c.requires.allowed.0 in
    let same : SameNodes ns ns = record { nodes = refl; works = refl } in
    subst (λ (z : Node). can_execute z.phase ≡ true)
    (sym (same_node ns ns c.args.node x (node_of x) below same c.index_mut.ensures.value))
    (c.requires.allowed.1 (node_of x))

pub run_by-requires-clause-stamp : goal.run_by-requires-clause-stamp
run_by-requires-clause-stamp g c =
    let ns = c.args.nodes.now.items in
    let x = c.index_mut.result.now in
    let below = subst (λ z. c.args.node < z) (sym c.requires.count) c.requires.allowed.0 in
    let same : SameNodes ns ns = record { nodes = refl; works = refl } in
    subst (λ (z : Node). z.stamp < 2 ^ 56)
    (sym (same_node ns ns c.args.node x (node_of x) below same c.index_mut.ensures.value))
    (c.requires.allowed.2 (node_of x))

pub run_by-requires-clause-goes_over : goal.run_by-requires-clause-goes_over
run_by-requires-clause-goes_over g c =
    let ns = c.args.nodes.now.items in
    let x = c.index_mut.result.now in
    let h = c.requires.goes_over in
    let below = subst (λ z. c.args.node < z) (sym c.requires.count) c.requires.allowed.0 in
    let same : SameNodes ns ns = record { nodes = refl; works = refl } in
    subst (λ (w : Work). g.L.WordLoop.goes_over w.image c.args.by.now)
    (sym (same_work h.work ns ns c.args.node x below same c.index_mut.ensures.value h.runs)) h.image

pub returns-clause-works : goal.returns-clause-works
returns-clause-works g c =
    let below = subst (λ z. c.args.node < z) (sym c.requires.count) c.requires.allowed.0 in
    set_same work_at c.args.nodes.now.items c.args.node c.index_mut.result.now c.run_by.new.self below
    c.index_mut.ensures.value c.run_by.ensures.work

pub returns-clause-passed : goal.returns-clause-passed
returns-clause-passed g c =
    passed_words c.args.count c.args.node c.run_by.result c.args.nodes.now.items
    c.index_mut.result.now c.run_by.new.self c.requires.count c.requires.allowed.0
    c.index_mut.ensures.value c.run_by.ensures.goes_on c.run_by.ensures.may

pub returns-clause-learns : goal.returns-clause-learns
returns-clause-learns g c =
    learned_words (λ work k n. g.L.WordLoop.learns work k n c.args.by.now c.run_by.new.by) c.args.count c.args.node
    c.run_by.result c.args.nodes.now.items c.index_mut.result.now c.requires.count c.requires.allowed.0 c.index_mut.ensures.value
    c.run_by.ensures.learns
