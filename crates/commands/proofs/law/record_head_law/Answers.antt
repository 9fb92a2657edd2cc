use Rattle.commands.proofs.RecordHeads.{one_head}
use Rattle.commands.proofs.law.record_head_law.Goals as goal

pub returns : goal.returns
returns c = record { one = one_head }
