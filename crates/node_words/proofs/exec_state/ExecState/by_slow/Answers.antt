use Rattle.rv32_ops.specs.Operations.{alu}
use Rattle.node_memory.specs.rv32_step.Registers.{reg, registers_of}
use Rattle.node_memory.specs.rv32_step.declared.Demand.TheVariants.{Sets}
use Rattle.node_words.proofs.StrideLemmas.{sets, steps_next}
use Rattle.node_words.proofs.exec_state.ExecState.by_slow.Goals as goal

pub returns-clause-tried : goal.returns-clause-tried
returns-clause-tried c image =
    let b = c.args.self.now in
    let op = c.args.op.now in
    let registers = registers_of b.lane.registers in
    let v = alu c.args.o (reg registers op.rs1) (reg registers op.rs2) in
    steps_next image op (Sets op.rd v) c.args.going.now c.on.new.self b c.put_result.new.self c.requires.means
    c.on.ensures.left c.on.ensures.at c.requires.low
    (sets b c.put_result.new.self op.rd v c.put_result.ensures.lane c.put_result.ensures.local)
