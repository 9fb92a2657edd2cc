use Rattle.std.proofs.Common.{◌∙◌, Option, ap, subst}
use Rattle.node_memory.specs.exec_map.Contents.{program_of}
use Rattle.node_memory.specs.jump_map.declared.image.ImageWord.{ImageWord}
use Rattle.node_memory.specs.jump_map.Maps.{fetch}
use Rattle.node_memory.specs.node_model.Node.{execute_at}
use Rattle.node_words.specs.Address.{word_address}
use Rattle.node_memory.specs.Shelf.{local_of}
use Rattle.node_words.specs.Kept.{StepsOr, lane_of}
use Rattle.node_words.proofs.exec_state.ExecState.silent_at.Goals as goal

pub returns-in-Some-clause-steps : goal.returns-in-Some-clause-steps
returns-in-Some-clause-steps c =
    let b = c.args.self.now in
    let image = c.args.image.now in
    subst (λ (f : Option ImageWord). StepsOr image (execute_at (program_of b.local.program) f (lane_of b.lane (word_address c.args.at)) (local_of b.local)) b.lane b.local c.silent_read.new.self.lane c.silent_read.new.self.local c.silent_read.result)
    (c.in-Some.ensures.value ∙ ap (fetch image) c.address_of.ensures) c.silent_read.ensures.steps
