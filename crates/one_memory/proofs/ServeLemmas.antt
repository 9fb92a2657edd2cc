-- What a micro-op serves.
use Rattle.std.proofs.Common.{◌≡◌, ℕ, Some, sym, ap, ◌∙◌}
use Rattle.rv32_decode.specs.declared.Instr.{Instr}
use Rattle.elf32_read.specs.Elf.{Elf}
use Rattle.exec_map.specs.Contents.{program_of, code_at}
use Rattle.rv32_step.specs.Demands.{demand_of}
use Rattle.rv32_step.specs.OneMemory.{Processor, request_at, request_for}
use Rattle.micro_op.specs.Micro.{Meaning, Unserved, Demands, Enters, IsMicroOf, Meets as Does, meaning_of}
use Rattle.micro_op.specs.declared.micro_op.MicroOp.{MicroOp}
use Rattle.one_memory.specs.Machine.{Serving, IsDemandAt, Serves}

serves_by : (e : Elf) (a : ℕ) (i : Instr) (q : Processor) (m : Meaning) → Some i ≡ code_at e a → Does m (demand_of i q.registers a) → Serving m (IsDemandAt e a q)
serves_by e a i q Unserved here does = tt
serves_by e a i q (Demands d) here does = λ at.
    sym (ap (request_at (program_of e) q) (here ∙ ap (code_at e) (sym at)))
    ∙ ap (λ x. request_for (program_of e) q (demand_of i q.registers x)) at
    ∙ ap (request_for (program_of e) q) (sym does)
serves_by e a i q (Enters original) here does = absurd does

-- the micro-op of an instruction serves where that stands
pub serves_instruction : (e : Elf) (a : ℕ) (i : Instr) (op : MicroOp) → Some i ≡ code_at e a → IsMicroOf 0 a i op → Serves e a op
serves_instruction e a i op here is =
    record { serves = λ q. serves_by e a i q (meaning_of 0 op q.registers) here (is.meets q.registers) }
