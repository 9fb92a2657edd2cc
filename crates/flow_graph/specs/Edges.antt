-- The direct successors of an instruction
-- (RISC-V Unprivileged ISA, "Control Transfer Instructions").
use Rattle.std.specs.Prelude.{ℕ, ◌+◌, ◌==◌, Bool, true, false, if◌then◌else◌, nat_le, List, Option, Some, None, position, option_and_then}
use Rattle.std.specs.Option.{option_map_or}
use Rattle.rv32_decode.specs.declared.Instr.{Instr}
use Rattle.rv32_decode.specs.declared.Instr.TheVariants.{Jal, Jalr, Ebreak, Illegal}
use Rattle.rv32_program.specs.Targets.{aligned_target}
use Rattle.flow_graph.specs.declared.edges.Next.{Next}
use Rattle.flow_graph.specs.declared.edges.Edges.{Edges}
use Rattle.templates.specs.declared.code.CodeWord.{CodeWord}

-- the instruction never goes on to the one after it: a jump, or a trap
abbrev pub ends_flow : Instr → Bool
ends_flow (Jal rd offset) = true
ends_flow (Jalr rd rs1 imm) = true
ends_flow Ebreak = true
ends_flow (Illegal word) = true
ends_flow i = false

-- the direct successors of an instruction at a: the address after it, and where it jumps or
-- branches to, where that is a multiple of four
abbrev pub next_of : Instr → ℕ → Next
next_of i a = record {
  first = if ends_flow i then None else Some (a + 4);
  second = aligned_target i a;
}

-- the instruction at a may go to its own address or one below
abbrev pub goes_back : Instr → ℕ → Bool
goes_back i a = option_map_or (λ b. nat_le b a) (aligned_target i a) false

-- the instruction may go to any address
abbrev pub goes_anywhere : Instr → Bool
goes_anywhere (Jalr rd rs1 imm) = true
goes_anywhere i = false

-- the number of the code word at an address
abbrev pub number_at : List CodeWord → ℕ → Option ℕ
number_at words a = position (λ w. w.address == a) words

-- the numbers of a code word's direct successors, as far as they are code words
abbrev pub edges_of : List CodeWord → CodeWord → Edges
edges_of words w = record {
  first = option_and_then (number_at words) (next_of w.instruction w.address).first;
  second = option_and_then (number_at words) (next_of w.instruction w.address).second;
}
