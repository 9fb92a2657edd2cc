use Rattle.exec_map.proofs.FirstBytes.{first_bytes-length, first_bytes-each}
use Rattle.exec_map.proofs.first_bytes_law.Goals as goal

pub returns-clause-len : goal.returns-clause-len
returns-clause-len c = first_bytes-length

pub returns-clause-each : goal.returns-clause-each
returns-clause-each c = first_bytes-each
