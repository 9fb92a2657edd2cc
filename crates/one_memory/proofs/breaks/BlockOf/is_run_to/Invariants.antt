use Rattle.std.proofs.Common.{◌≡◌}
use Rattle.exec_map.specs.Contents.{program_of}
use Rattle.rv32_step.specs.Registers.{registers_of}
use Rattle.one_memory.specs.Stretches.{reaches_by_any}
use Rattle.one_memory.proofs.breaks.BlockOf.is_run_to.Given as goal

abbrev pub invariant-loop-left : goal.invariant-loop-left
invariant-loop-left l =
    reaches_by_any (program_of l.self.program.now) l.self.layout.now l.self.block (registers_of l.registers) l.pc 16 l.pc
    ≡ reaches_by_any (program_of l.self.program.now) l.self.layout.now l.self.block (registers_of l.registers) l.pc l.left l.at

abbrev pub decreases-loop-left : goal.decreases-loop-left
decreases-loop-left l = l.left
