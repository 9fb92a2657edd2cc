use Rattle.std.proofs.Common.{map, ap, ◌∙◌}
use Rattle.elf32_read.specs.Segments.{segment_of}
use Rattle.exec_map.specs.Contents.{byte_of, first_byte}
use Rattle.exec_map.specs.Index.{IsIndex}
use Rattle.exec_map.proofs.Looking.{bytes_same}
use Rattle.exec_map.proofs.Program.byte0.Goals as goal

pub returns : goal.returns
returns c =
    let h : IsIndex c.self.inside.elf.now (map segment_of c.self.inside.segments.items) c.self.inside.code.items = c.self.invariant.0 in
    c.byte_at.ensures
    ∙ ap (λ xs. byte_of (map segment_of xs) c.args.address) c.deref.ensures.value
    ∙ ap (λ m. m c.args.address) (bytes_same c.self.inside.elf.now (map segment_of c.self.inside.segments.items) h.placed h.permutation h.searchable)
    ∙ ap (λ e. first_byte e c.args.address) c.self.view_is
