use Rattle.std.proofs.Common.{subst}
use Rattle.std.specs.Prelude.{IfOk}
use Rattle.rv32_step.specs.declared.CallStep.{CallStep}
use Rattle.rv32_step.specs.OneMemory.{request_of_call}
use Rattle.exec_map.specs.Contents.{program_of}
use Rattle.one_memory.specs.Machine.{processor_of, at_index, after_move, Answers}
use Rattle.one_memory.proofs.processor.call.Goals as goal

pub returns-in-Puts-clause-ok : goal.returns-in-Puts-clause-ok
returns-in-Puts-clause-ok c p =
    let m = c.args.memory.now in
    let k = at_index c.args.at c.args.body.now in
    subst (λ (s : CallStep). IfOk c.put.result (λ move. Answers p (request_of_call (program_of m.program) (processor_of k) s) m k c.put.new.memory (after_move move c.args.at c.put.new.body))) c.in-Puts.ensures.value (c.put.ensures.ok p)
