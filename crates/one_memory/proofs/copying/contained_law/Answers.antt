use Rattle.one_memory.proofs.ContainedLemmas.{run_contained}
use Rattle.one_memory.proofs.copying.contained_law.Goals as goal

pub returns : goal.returns
returns c = λ original e picks is. run_contained original e picks c.ranges_law.ensures is
