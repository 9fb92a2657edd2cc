use Rattle.std.proofs.Common.{ap}
use Rattle.gdb_remote.specs.Readings.{Reading}
use Rattle.gdb_remote.proofs.PacketsRead.{packet, after_packet, damaged, pieces, goes_on}
use Rattle.gdb_remote.proofs.law.packet_law.Goals as goal

pub returns-clause-packet : goal.returns-clause-packet
returns-clause-packet c = packet

pub returns-clause-body : goal.returns-clause-body
returns-clause-body c = λ r body e h. ap (λ (s : Reading). s.body) (after_packet r body e h)

pub returns-clause-between : goal.returns-clause-between
returns-clause-between c = λ r body e h. ap (λ (s : Reading). s.phase) (after_packet r body e h)

pub returns-clause-damaged : goal.returns-clause-damaged
returns-clause-damaged c = damaged

pub returns-clause-pieces : goal.returns-clause-pieces
returns-clause-pieces c = pieces

pub returns-clause-goes_on : goal.returns-clause-goes_on
returns-clause-goes_on c = goes_on
