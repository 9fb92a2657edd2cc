use Rattle.std.proofs.Common.{Bool, ◌∙◌, ap}
use Rattle.node_memory.specs.rv32_step.Registers.{registers_of}
use Rattle.node_memory.specs.micro_op.declared.MicroKind.{MicroKind}
use Rattle.node_memory.specs.micro_op.Micro.{meaning_by}
use Rattle.node_memory.specs.jump_map.Image.{image_base}
use Rattle.node_words.specs.Strides.{add_kind}
use Rattle.node_words.proofs.exec_state.ExecState.add.Goals as goal

pub by_registers-requires-clause-means : goal.by_registers-requires-clause-means
by_registers-requires-clause-means c =
    ap (λ (k : MicroKind). meaning_by k image_base c.args.op.now (registers_of c.args.self.now.lane.registers))
    (c.requires.is ∙ ap (λ (t : Bool). add_kind t) c.if-registers.true)

pub by_immediate-requires-clause-means : goal.by_immediate-requires-clause-means
by_immediate-requires-clause-means c =
    ap (λ (k : MicroKind). meaning_by k image_base c.args.op.now (registers_of c.args.self.now.lane.registers))
    (c.requires.is ∙ ap (λ (t : Bool). add_kind t) c.if-registers.false)
