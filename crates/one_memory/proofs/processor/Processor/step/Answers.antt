use Rattle.std.proofs.Common.{◌≡◌, subst, arith}
use Rattle.std.specs.Prelude.{OnOk}
use Rattle.exec_map.specs.Contents.{program_of}
use Rattle.rv32_step.specs.OneMemory.{request}
use Rattle.one_memory.specs.declared.processor.Processor.{Processor as ProcessorParts}
use Rattle.one_memory.specs.Machine.{Answers, MemoryParts, processor_of}
use Rattle.one_memory.proofs.processor.Processor.step.Goals as goal

pub returns-clause-ok : goal.returns-clause-ok
returns-clause-ok c =
    let p = c.args.p in
    let r = c.step_apart.result in
    let m1 = c.run_served.new.memory in
    let m2 = c.step_apart.new.memory in
    let k = c.args.self.now in
    let k2 = c.step_apart.new.self in
    let none : c.run_served.result ≡ 0 = omega (arith, c.run_served.ensures.most, c.if-run_served-eq1.false) in
    subst (λ (x : MemoryParts). OnOk r (Answers p (request (program_of x.program) (processor_of k)) x k m2 k2))
    (c.run_served.ensures.none_memory none)
    (subst (λ (y : ProcessorParts). OnOk r (Answers p (request (program_of m1.program) (processor_of y)) m1 y m2 k2))
    (c.run_served.ensures.none_processor none) c.step_apart.ensures.ok)
