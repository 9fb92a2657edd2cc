use Rattle.std.proofs.Common.{◌≡◌, ◌∙◌, ap, subst}
use Rattle.dsm_protocol.specs.node_model.Node.{Work}
use Rattle.dsm_core.specs.run_order.OwnRun.{OnlyAdds}
use Rattle.dsm_core.specs.CoreParts.{CoreParts, work_of, core_of}
use Rattle.node_threads.proofs.Parting.{adds_trans, own_after}
use Rattle.node_threads.proofs.racing.race_apart.Goals as goal

pub put_together-core-requires-clause-own_run : goal.put_together-core-requires-clause-own_run
put_together-core-requires-clause-own_run g c =
    (own_after _ c.in_ok-parts.parts c.stamp_law.ensures.apart c.take_apart.ensures.own_run
    c.in_ok-parts.ensures.apart).0

pub returns-clause-work : goal.returns-clause-work
returns-clause-work g c = c.finish.ensures.work ∙ ap work_of c.put_together-core.ensures.core
    ∙ c.in_ok-parts.ensures.apart.work ∙ ap work_of c.take_apart.ensures.parts

pub returns-clause-adds : goal.returns-clause-adds
returns-clause-adds g c =
    let t = c.take_apart in
    let q = c.in_ok-parts in
    let first : OnlyAdds t.result.layout.nodes (core_of t.result) (core_of q.parts) =
    (own_after t.result q.parts c.stamp_law.ensures.apart t.ensures.own_run q.ensures.apart).1 in
    let put = c.put_together-core in
    let n = t.result.layout.nodes in
    let same : put.result.layout.nodes ≡ n =
    ap (λ (p : CoreParts). p.layout.nodes) put.ensures.core
    ∙ ap (λ (w : Work). w.layout.nodes) q.ensures.apart.work in
    let next : OnlyAdds n (core_of q.parts) (core_of c.finish.new.self) =
    subst (λ (p : CoreParts). OnlyAdds n (core_of p) (core_of c.finish.new.self)) put.ensures.core
    (subst (λ m. OnlyAdds m (core_of put.result) (core_of c.finish.new.self)) same
    c.finish.ensures.adds) in
    subst (λ (p : CoreParts). OnlyAdds p.layout.nodes (core_of p) (core_of c.finish.new.self))
    t.ensures.parts
    (adds_trans n (core_of t.result) (core_of q.parts) (core_of c.finish.new.self) first next)
