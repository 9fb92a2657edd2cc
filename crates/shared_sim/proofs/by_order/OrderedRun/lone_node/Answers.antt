-- The one event that is listed is all that is allowed.
use Rattle.std.proofs.Common.{◌≡◌, ◌∷◌, [], ap, ◌∙◌, length, arith}
use Rattle.dsm_core.specs.node_model.Core.{Exec}
use Rattle.dsm_core.specs.CoreParts.{work_of, core_of, event_of}
use Rattle.dsm_core.specs.declared.cores.Event.{Event as Stored}
use Rattle.shared_sim.specs.ByOrder.{choices}
use Rattle.shared_sim.proofs.Turns.{alone_may, one_listed}
use Rattle.shared_sim.proofs.by_order.OrderedRun.lone_node.Goals as goal

pub bounds-self-node : goal.bounds-self-node
bounds-self-node c =
    let r = c.args.self.now in
    let es = choices (work_of r.core) (core_of r.core) in
    let one : length es ≡ 1 = omega (arith, c.if-self-ne1.false, c.requires.ready.lists.count) in
    let alone : es ≡ Exec c.in-Exec.node ∷ [] = one_listed es (event_of c.at.result) one c.at.ensures.picked
    ∙ ap (λ (e : Stored). event_of e ∷ []) c.in-Exec.is in
    let low = (alone_may (work_of r.core) (core_of r.core) c.in-Exec.node alone).0 in
    let few = c.requires.ready.few in
    omega (arith, low, few)

pub returns-in-Exec : goal.returns-in-Exec
returns-in-Exec c =
    let r = c.args.self.now in
    let es = choices (work_of r.core) (core_of r.core) in
    let one : length es ≡ 1 = omega (arith, c.if-self-ne1.false, c.requires.ready.lists.count) in
    let alone : es ≡ Exec c.in-Exec.node ∷ [] = one_listed es (event_of c.at.result) one c.at.ensures.picked
    ∙ ap (λ (e : Stored). event_of e ∷ []) c.in-Exec.is in
    let low = (alone_may (work_of r.core) (core_of r.core) c.in-Exec.node alone).0 in
    (alone, (c.requires.ready.lists.tells c.in-Exec.node low).mail c.if-self-node.true)
