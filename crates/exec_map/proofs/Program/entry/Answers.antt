use Rattle.std.proofs.Common.{map, subst}
use Rattle.elf32_read.specs.Segments.{segment_of}
use Rattle.rv32_program.specs.Program.{IsAccepted}
use Rattle.exec_map.specs.Contents.{program_of}
use Rattle.exec_map.specs.Index.{IsIndex}
use Rattle.exec_map.proofs.Accepting.{accepted}
use Rattle.exec_map.proofs.Program.entry.Goals as goal

pub returns-clause-accepted : goal.returns-clause-accepted
returns-clause-accepted c =
    let h : IsIndex c.self.inside.elf.now (map segment_of c.self.inside.segments.items) c.self.inside.code.items = c.self.invariant.0 in
    subst (λ e. IsAccepted (program_of e)) c.self.view_is (accepted c.self.inside.elf.now h.placed c.self.invariant.1 c.self.invariant.2)
