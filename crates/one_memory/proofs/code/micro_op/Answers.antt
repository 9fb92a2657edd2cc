use Rattle.one_memory.proofs.ServeLemmas.{serves_instruction}
use Rattle.one_memory.proofs.code.micro_op.Goals as goal

pub returns-in-Some : goal.returns-in-Some
returns-in-Some c =
    serves_instruction c.args.program.now c.args.address c.in-Some.i c.of.result c.in-Some.ensures c.of.ensures.meaning
