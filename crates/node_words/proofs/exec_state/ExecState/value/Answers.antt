-- By the bytes there.
use Rattle.std.proofs.Common.{ap, ◌∙◌}
use Rattle.rv32_decode.specs.declared.Width.{Width}
use Rattle.rv32_ops.specs.Operations.{extend}
use Rattle.node_memory.specs.byte_range.Memory.{raw}
use Rattle.node_memory.specs.exec_map.Contents.{program_of}
use Rattle.node_memory.specs.node_model.Node.{byte_at}
use Rattle.node_memory.specs.Shelf.{local_of}
use Rattle.node_words.specs.Kept.{lane_of}
use Rattle.node_words.proofs.exec_state.ExecState.value.Goals as goal

pub returns : goal.returns
returns c = record {
  value = λ at.
      let b = c.args.self.now in
      c.extend.ensures ∙ ap (extend c.args.kind) (c.memory.ensures.value at
      ∙ ap (λ (x : Width). raw x (byte_at (program_of b.local.program) (lane_of b.lane at) (local_of b.local)) c.args.address)
      c.width.ensures.value);
}
