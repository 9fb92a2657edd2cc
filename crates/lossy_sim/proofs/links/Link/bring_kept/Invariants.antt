use Rattle.std.proofs.Common.{◌≡◌, length}
use Rattle.lossy_link.specs.Receiver.{Receiving}
use Rattle.dsm_messages.specs.declared.messages.Wire.{Wire}
use Rattle.lossy_sim.specs.Links.{HaveCome}
use Rattle.lossy_sim.proofs.links.Link.bring_kept.Given as goal

abbrev pub invariant-loop-self : goal.invariant-loop-self
invariant-loop-self l = record {
  come : (r : Receiving Wire) → HaveCome l.self-inside.receiver l.self-inside.kept.items r
      → HaveCome l.initial.self-inside.receiver l.initial.self-inside.kept.items r;
  sender : l.self-inside.sender ≡ l.initial.self-inside.sender;
  lost : l.self-inside.lost ≡ l.initial.self-inside.lost;
  silent : l.self-inside.silent ≡ l.initial.self-inside.silent;
}

abbrev pub decreases-loop-self : goal.decreases-loop-self
decreases-loop-self l = length l.self-inside.kept.items
