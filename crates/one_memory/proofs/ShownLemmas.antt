-- The byte that a processor sees.
use Rattle.std.proofs.Common.{◌≡◌, ℕ, Option, Some, None, refl, sym, ap, subst}
use Rattle.std.specs.Prelude.{MatchOption, if◌then◌else◌, slice_get}
use Rattle.std.specs.Option.{option_map_or}
use Rattle.exec_map.specs.Contents.{program_of}
use Rattle.rv32_program.specs.declared.Class.{Class}
use Rattle.rv32_program.specs.declared.Class.TheVariants.{Shared, ReadOnly, Private, Unmapped}
use Rattle.rv32_program.specs.Program.{class_at, is_mapped}
use Rattle.rv32_step.specs.OneMemory.{first_processor, byte_at}
use Rattle.one_memory.specs.declared.processor.Processor.{Processor as ProcessorParts}
use Rattle.one_memory.specs.Machine.{Parts, original_of, state_of, processor_of, byte_seen}
use Rattle.one_memory.specs.Shown.{byte_shown}

shown : (r : Option ℕ) (c : Class) (b : ℕ) → MatchOption r (c ≡ Unmapped) (λ n. (c ≡ Unmapped → ⊥) × (n ≡ b)) → r ≡ (if is_mapped c then Some b else None)
shown None Shared b h = absurd (cc)
shown None ReadOnly b h = absurd (cc)
shown None Private b h = absurd (cc)
shown None Unmapped b h = refl
shown (Some n) Shared b h = ap Some h.1
shown (Some n) ReadOnly b h = ap Some h.1
shown (Some n) Private b h = ap Some h.1
shown (Some n) Unmapped b h = absurd (h.0 refl)

pub byte_here : (h : Parts) (p a : ℕ) (k : ProcessorParts) (r : Option ℕ) → slice_get h.processors p ≡ Some k → MatchOption r (class_at (program_of h.memory.program) a ≡ Unmapped) (λ n. (class_at (program_of h.memory.program) a ≡ Unmapped → ⊥) × (n ≡ byte_seen h.memory k.body a)) → r ≡ byte_shown (original_of h) (state_of h) p a
byte_here h p a k r get read =
    subst (λ (o : Option ProcessorParts). r ≡ (if is_mapped (class_at (program_of h.memory.program) a) then Some (byte_at (program_of h.memory.program) (state_of h) (option_map_or processor_of o (first_processor (original_of h) p)) a) else None))
    (sym get) (shown r (class_at (program_of h.memory.program) a) (byte_seen h.memory k.body a) read)
