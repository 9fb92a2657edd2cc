use Rattle.std.proofs.Common.{rules}
use Rattle.dsm_io.proofs.memory.MemSinkSink.put.Goals as goal

pub returns-in-Err-clause-no_fault : goal.returns-in-Err-clause-no_fault
returns-in-Err-clause-no_fault c = search rules

pub returns-in-Ok-clause-takes : goal.returns-in-Ok-clause-takes
returns-in-Ok-clause-takes c = search rules
