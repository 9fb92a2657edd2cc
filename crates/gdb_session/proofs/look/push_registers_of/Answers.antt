use Rattle.gdb_session.specs.Sessions.{all_registers}
use Rattle.gdb_session.proofs.look.push_registers_of.Goals as goal

pub returns : goal.returns
unfolding all_registers
returns g c = c.push_registers.ensures
