use Rattle.std.proofs.Common.{◌≡◌, ◌&&◌, ◌==◌, ◌%◌, true, map, subst}
use Rattle.std.specs.Prelude.{IfSome}
use Rattle.elf32_read.specs.Segments.{segment_of}
use Rattle.exec_map.specs.Index.{IsIndex, have}
use Rattle.exec_map.proofs.Accepting.{next_low}
use Rattle.exec_map.proofs.Program.next_code.Goals as goal

pub returns-clause-low : goal.returns-clause-low
returns-clause-low c =
    let h : IsIndex c.self.inside.elf.now (map segment_of c.self.inside.segments.items) c.self.inside.code.items = c.self.invariant.0 in
    next_low c.self.inside.elf.now c.self.inside.code.items h.placed c.self.invariant.1 h.words c.next_word.result
    (subst (λ code. IfSome c.next_word.result (λ a. ((a % 4 == 0) && have code a) ≡ true)) c.deref.ensures.value c.next_word.ensures.some)
