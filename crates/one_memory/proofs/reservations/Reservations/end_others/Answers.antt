use Rattle.one_memory.specs.Machine.{reserved_in}
use Rattle.one_memory.proofs.ReservedLemmas.{none_ends}
use Rattle.one_memory.proofs.reservations.Reservations.end_others.Goals as goal

pub returns-else-self : goal.returns-else-self
returns-else-self c =
    rw (← c.self.view_is) (none_ends c.args.layout.now c.args.p c.args.address (reserved_in c.self.inside.each) (c.self.invariant.1 c.if-self.false))
