use Rattle.run_order.proofs.Takes.{takes}
use Rattle.run_order.proofs.journal_law.Goals as goal

pub returns : goal.returns
returns c = record { takes = λ work run i may below. takes work run i may below }
