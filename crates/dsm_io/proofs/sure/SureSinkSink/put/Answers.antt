use Rattle.std.proofs.Common.{rules}
use Rattle.dsm_io.proofs.sure.SureSinkSink.put.Goals as goal

pub returns-in-Err-clause-refusal : goal.returns-in-Err-clause-refusal
returns-in-Err-clause-refusal c = search rules
