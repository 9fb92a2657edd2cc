use Rattle.std.proofs.Common.{refl}
use Rattle.elf32_write.specs.Layout.{aligned}
use Rattle.elf32_write.proofs.offsets.aligned.Goals as goal

pub returns-clause-value : goal.returns-clause-value
unfolding aligned
returns-clause-value c = refl
