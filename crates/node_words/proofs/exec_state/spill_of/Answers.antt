use Rattle.std.proofs.Common.{arith, refl}
use Rattle.node_memory.proofs.MemoryLemmas.{spill_region}
use Rattle.node_words.proofs.exec_state.spill_of.Goals as goal

pub returns-clause-region : goal.returns-clause-region
returns-clause-region c aligned = spill_region c.args.address _ (omega (arith, c.requires)) (omega arith) refl aligned
