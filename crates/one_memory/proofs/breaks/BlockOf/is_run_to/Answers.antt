use Rattle.std.proofs.Common.{◌-◌, sym, ◌∙◌, arith}
use Rattle.exec_map.specs.Contents.{program_of}
use Rattle.rv32_step.specs.Registers.{registers_of}
use Rattle.one_memory.proofs.BreakLemmas.{any_ended, any_none, any_here, any_next}
use Rattle.one_memory.proofs.breaks.BlockOf.is_run_to.Goals as goal

pub returns-in_default : goal.returns-in_default
returns-in_default c =
    let l = c.loop-left in
    sym (l.invariant ∙ any_none (program_of c.args.self.now.program.now) c.args.self.now.layout.now c.args.self.now.block (registers_of c.args.registers.now) c.args.pc l.left l.at c.in_default.ensures)

pub returns-then-is_run_to_as : goal.returns-then-is_run_to_as
returns-then-is_run_to_as c =
    let l = c.loop-left in
    sym (l.invariant ∙ any_here (program_of c.args.self.now.program.now) c.args.self.now.layout.now c.args.self.now.block (registers_of c.args.registers.now) c.args.pc l.left (l.left - 1) l.at c.in-Some.i (omega (arith, c.loop-left-test.true)) c.in-Some.ensures (sym c.is_run_to_as.ensures ∙ c.if-is_run_to_as.true))

pub loop-left-preserved : goal.loop-left-preserved
loop-left-preserved c =
    let l = c.loop-left in
    l.invariant ∙ any_next (program_of c.args.self.now.program.now) c.args.self.now.layout.now c.args.self.now.block (registers_of c.args.registers.now) c.args.pc l.left (l.left - 1) l.at c.in-Some.i (omega (arith, c.loop-left-test.true)) c.in-Some.ensures (sym c.is_run_to_as.ensures ∙ c.if-is_run_to_as.false)

pub returns : goal.returns
returns c =
    let l = c.loop-left in
    sym (l.invariant ∙ any_ended (program_of c.args.self.now.program.now) c.args.self.now.layout.now c.args.self.now.block (registers_of c.args.registers.now) c.args.pc l.left l.at (omega (arith, c.loop-left-test.false)))
