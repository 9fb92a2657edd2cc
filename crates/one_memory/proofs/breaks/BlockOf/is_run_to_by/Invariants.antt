use Rattle.std.proofs.Common.{◌≡◌, false}
use Rattle.exec_map.specs.Contents.{program_of}
use Rattle.one_memory.specs.Stretches.{reaches}
use Rattle.one_memory.proofs.breaks.BlockOf.is_run_to_by.Given as goal

abbrev pub invariant-loop-left : goal.invariant-loop-left
invariant-loop-left l =
    reaches (program_of l.self.program.now) l.self.layout.now l.self.block l.base l.value 16 l.pc false false
    ≡ reaches (program_of l.self.program.now) l.self.layout.now l.self.block l.base l.value l.left l.at l.stores l.accesses

abbrev pub decreases-loop-left : goal.decreases-loop-left
decreases-loop-left l = l.left
