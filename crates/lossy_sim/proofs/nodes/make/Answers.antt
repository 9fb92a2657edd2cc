-- By the event.
use Rattle.std.proofs.Common.{sym, subst}
use Rattle.std.specs.Prelude.{OnOk}
use Rattle.dsm_core.specs.declared.cores.Event.{Event}
use Rattle.dsm_core.specs.CoreParts.{event_of}
use Rattle.lossy_sim.specs.Stored.{HaveMade}
use Rattle.lossy_sim.proofs.nodes.make.Goals as goal

pub returns-in-Exec-clause-event : goal.returns-in-Exec-clause-event
returns-in-Exec-clause-event c =
    subst (λ (e : Event). OnOk c.execute.result (HaveMade c.args.count c.args.nodes.now.items
    c.execute.new.nodes.items c.args.links.now.items c.execute.new.links.items (event_of e)))
    (sym c.in-Exec.is) c.execute.ensures.event
