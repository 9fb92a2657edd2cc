use Rattle.std.proofs.Common.{rules}
use Rattle.dsm_io.proofs.real.RealFilesFiles.read.Goals as goal

pub returns-in-Err-clause-fault : goal.returns-in-Err-clause-fault
returns-in-Err-clause-fault c = search rules
