-- What is seen of a state.
use Rattle.std.specs.Prelude.{ℕ, if◌then◌else◌, Option, Some, None}
use Rattle.rv32_program.specs.Program.{class_at, is_mapped}
use Rattle.rv32_step.specs.OneMemory.{Original, State, Pick as ModelPick, Step, Break, byte_at}
use Rattle.one_memory.specs.declared.Pick.{Pick}
use Rattle.one_memory.specs.declared.Pick.TheVariants as code

-- the byte of an address, as processor p sees it; none where the line isn't mapped
abbrev pub byte_shown : Original → State → (p a : ℕ) → Option ℕ
byte_shown original s p a =
    if is_mapped (class_at original.program a)
    then Some (byte_at original.program s (s.processors p) a)
    else None

abbrev pub pick_of : Pick → ModelPick
pick_of (code.Step p) = Step p
pick_of (code.Break p q) = Break p q
