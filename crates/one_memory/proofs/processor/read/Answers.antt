use Rattle.one_memory.proofs.ReadLemmas.{read_shared}
use Rattle.one_memory.proofs.processor.read.Goals as goal

pub returns-in-Some : goal.returns-in-Some
returns-in-Some c =
    read_shared c.args.memory.now c.args.body.now c.args.width c.args.address c.in-Some.number c.requires c.in-Some.ensures.found c.in-Some.ensures.value
