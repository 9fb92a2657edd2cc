use Rattle.std.proofs.Common.{◌≡◌, ◌^◌, ◌<◌, subst}
use Rattle.exec_map.specs.Contents.{program_of, first_byte}
use Rattle.exec_map.specs.rv32_program.declared.Class.TheVariants.{ReadOnly}
use Rattle.exec_map.specs.rv32_program.Program.{class_at}
use Rattle.node_memory.specs.Shelf.{Shelf, copy_of}
use Rattle.node_memory.proofs.MemoryLemmas.{fixed_small}
use Rattle.node_memory.proofs.ShelfLemmas.{copy_small}
use Rattle.node_memory.proofs.memory.NodeMemory.bytes_law.Goals as goal

pub returns-clause-shared : goal.returns-clause-shared
returns-clause-shared c a =
    subst (λ (s : Shelf). copy_of s.copy a < 2 ^ 8) c.self.view_is
    (copy_small c.self.inside.copy a (c.copy_law.ensures.small a))

pub returns-clause-fixed : goal.returns-clause-fixed
returns-clause-fixed c a =
    let i = c.self.inside in
    subst (λ (s : Shelf). class_at (program_of s.program) a ≡ ReadOnly → first_byte s.program a < 2 ^ 8) c.self.view_is
    (fixed_small i.program.now i.fixed a c.self.invariant.3 c.law.ensures.small)
