-- The nodes of a core at the start, and new links.
use Rattle.std.proofs.Common.{◌≡◌, ◌+◌, ◌*◌, ◌≤◌, sym, ap, ◌∙◌, subst}
use Rattle.std.specs.Vec.{vec_capacity}
use Rattle.node_model.specs.Node.{Work, opening_node}
use Rattle.node_model.specs.Core.{Core, opening_core}
use Rattle.dsm_core.specs.CoreParts.{CoreParts, work_of, work_in, core_of}
use Rattle.lossy_sim.specs.Stored.{AreLinks, state_of}
use Rattle.lossy_sim.proofs.Running.{opened_state}
use Rattle.lossy_sim.proofs.run.LossyRun.new.Goals as goal

pub returns-clause-ready : goal.returns-clause-ready
returns-clause-ready c =
    let p = c.take_apart-parts.result in
    let parts = c.take_apart-parts.ensures.parts in
    let opening : core_of p ≡ opening_core (work_of p) =
    subst (λ (z : CoreParts). core_of z ≡ opening_core (work_of z)) (sym parts) c.in_ok-new.ensures.opening in
    let n : c.nodes-count.result ≡ p.layout.nodes =
    c.nodes-count.ensures.nodes ∙ ap (λ (z : CoreParts). z.layout.nodes) c.parts.view_is in
    record {
      parts = c.take_apart-parts.ensures.are_parts;
      empty = λ j i jn lt. ap (λ (k : Core). k.list j i) opening;
      links = subst (λ k. AreLinks c.in_ok-new_links.field-0.items k) n c.in_ok-new_links.ensures.links;
      room = subst (λ k. k * (1 + k) ≤ vec_capacity c.in_ok-with_capacity.field-0) n
          c.in_ok-with_capacity.ensures.capacity;
    }

pub returns-clause-opening : goal.returns-clause-opening
returns-clause-opening c =
    let p = c.take_apart-parts.result in
    let links = c.in_ok-new_links.field-0.items in
    let work = work_in c.args.work.now in
    let parts = c.take_apart-parts.ensures.parts in
    let opening : core_of p ≡ opening_core (work_of p) =
    subst (λ (z : CoreParts). core_of z ≡ opening_core (work_of z)) (sym parts) c.in_ok-new.ensures.opening in
    let n : c.nodes-count.result ≡ p.layout.nodes =
    c.nodes-count.ensures.nodes ∙ ap (λ (z : CoreParts). z.layout.nodes) c.parts.view_is in
    let same : work_of p ≡ work = ap work_of parts ∙ c.in_ok-new.ensures.work in
    let first = subst (λ (w : Work). (state_of w p.nodes links 0 0).nodes ≡ opening_node w) same
    (ap (λ (k : Core). k.nodes) opening) in
    opened_state work p.nodes links c.args.order c.args.loss c.order_of.result c.order_of-2.result c.nodes-count.result
    (ap (λ (w : Work). w.layout.nodes) (sym same) ∙ sym n) first c.in_ok-new_links.ensures.new c.order_of.ensures
    c.order_of-2.ensures
