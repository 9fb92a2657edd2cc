-- The first message is taken off its link, and off no other.
use Rattle.std.proofs.Common.{ap, sym, ◌∙◌, subst}
use Rattle.dsm_core.specs.node_model.Core.{Take}
use Rattle.dsm_core.specs.CoreParts.{event_of}
use Rattle.dsm_core.specs.declared.cores.Event.{Event as Stored}
use Rattle.timed_sim.specs.Clock.{behind_first, without_taken}
use Rattle.timed_sim.specs.Stored.{link_at, IsBelow}
use Rattle.timed_sim.proofs.Arrivals.{link_read, link_taken}
use Rattle.timed_sim.proofs.links.take.Goals as goal

pub returns-in-Take-clause-taken : goal.returns-in-Take-clause-taken
returns-in-Take-clause-taken c = λ j k bj bk.
    let n = c.args.count in
    let ls = c.args.links.now.items in
    let from = c.in-Take.from in
    let node = c.in-Take.node in
    let len = c.requires.links.len in
    let below : IsBelow n (Take node from) =
    subst (λ (e : Stored). IsBelow n (event_of e)) c.in-Take.is c.requires.below in
    let first = link_read ls n from node c.index_mut.result.now len below.1 below.0
    c.index_mut.ensures.value in
    link_taken ls n from node c.take.new.self j k len below.1 below.0 bj bk
    (c.take.ensures.value ∙ ap behind_first first)
    ∙ ap (λ (e : Stored). without_taken (event_of e) (link_at ls n) j k) (sym c.in-Take.is)
