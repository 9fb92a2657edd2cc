-- What a step gives.
use Rattle.std.proofs.Common.{◌≡◌, ℕ, ◌+◌, ◌%◌, true, Some, refl, sym, ap, ◌∙◌, subst}
use Rattle.rv32_decode.specs.declared.Instr.{Instr}
use Rattle.rv32_decode.specs.declared.LoadKind.{LoadKind}
use Rattle.rv32_ops.specs.Operations.{extend}
use Rattle.exec_map.specs.Contents.{program_of, code_at}
use Rattle.rv32_program.specs.declared.Class.{Class}
use Rattle.rv32_program.specs.declared.Class.TheVariants.{Shared, ReadOnly, Private, Unmapped}
use Rattle.rv32_program.specs.Program.{Program, class_at, is_mapped}
use Rattle.rv32_step.specs.declared.Demand.{Demand}
use Rattle.rv32_step.specs.declared.Demand.TheVariants.{Loads, Sets}
use Rattle.rv32_step.specs.Demands.{demand_of}
use Rattle.rv32_decode.specs.Widths.{width_of, is_aligned}
use Rattle.rv32_step.specs.OneMemory.{Processor, LoadsFrom, request_at, request_for, answer, set_register, with_processor}
use Rattle.micro_op.specs.Micro.{index_address}
use Rattle.one_memory.specs.declared.processor.OriginalState.{OriginalState}
use Rattle.one_memory.specs.declared.processor.StepTarget.{StepTarget}
use Rattle.one_memory.specs.declared.processor.StepTarget.TheVariants.{Next}
use Rattle.one_memory.specs.Machine.{MemoryParts, Answers, Meets, Steps, processor_of, at_index, after_move, original_on, state_among}
use Rattle.one_memory.proofs.ReadLemmas.{IsRead}

pub mapped : (c : Class) → (c ≡ Unmapped → ⊥) → is_mapped c ≡ true
mapped Shared n = refl
mapped ReadOnly n = refl
mapped Private n = refl
mapped Unmapped n = absurd (n refl)

asks_for_load : (program : Program) (q : Processor) (kind : LoadKind) (r a : ℕ) → is_aligned (width_of kind) a ≡ true → is_mapped (class_at program a) ≡ true → request_for program q (Loads kind r a) ≡ LoadsFrom kind r a
asks_for_load program q kind r a aligned there = rw (aligned, there) refl

-- a load of what is read
pub loaded : (p at : ℕ) (m : MemoryParts) (b b' : OriginalState) (kind : LoadKind) (r a n : ℕ) → is_aligned (width_of kind) a ≡ true → IsRead m b (width_of kind) a n → processor_of (at_index ((at + 1) % 4294967296) b') ≡ set_register (processor_of (at_index at b)) r (extend kind n) → Meets p (Loads kind r a) at m b m b' Next
loaded p at m b b' kind r a n aligned read now = λ nodes all.
    let q = processor_of (at_index at b) in
    let asks = asks_for_load (program_of m.program) q kind r a aligned (mapped _ read.0) in
    ap (λ x. (answer (original_on m nodes) (state_among all m) p q x).state) asks
    ∙ ap (λ x. with_processor (state_among all m) p x) (ap (λ v. set_register q r (extend kind v)) (sym read.1) ∙ sym now)

-- the same, where the register is set
pub loaded_set : (p at : ℕ) (m : MemoryParts) (b b' : OriginalState) (kind : LoadKind) (r a n : ℕ) (move : StepTarget) → is_aligned (width_of kind) a ≡ true → IsRead m b (width_of kind) a n → Meets p (Sets r (extend kind n)) at m b m b' move → Meets p (Loads kind r a) at m b m b' move
loaded_set p at m b b' kind r a n move aligned read set = λ nodes all.
    let q = processor_of (at_index at b) in
    let asks = asks_for_load (program_of m.program) q kind r a aligned (mapped _ read.0) in
    ap (λ x. (answer (original_on m nodes) (state_among all m) p q x).state) asks
    ∙ ap (λ v. with_processor (state_among all m) p (set_register q r (extend kind v))) (sym read.1) ∙ set nodes all

-- what the instruction demands is what the word requests
pub demanded : (p at : ℕ) (m m' : MemoryParts) (b b' : OriginalState) (i : Instr) (d : Demand) (move : StepTarget) → Some i ≡ code_at m.program (index_address 0 at) → d ≡ demand_of i (processor_of (at_index at b)).registers (index_address 0 at) → Meets p d at m b m' b' move → Steps p at m b m' b' move
demanded p at m m' b b' i d move here is met =
    let q = processor_of (at_index at b) in
    let same = ap (request_for (program_of m.program) q) is ∙ ap (request_at (program_of m.program) q) here in
    subst (λ r. Answers p r m (at_index at b) m' (after_move move at b')) same met
