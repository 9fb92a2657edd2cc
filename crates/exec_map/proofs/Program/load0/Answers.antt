use Rattle.std.proofs.Common.{map, ap, ◌∙◌}
use Rattle.byte_range.specs.Memory.{raw}
use Rattle.elf32_read.specs.Segments.{segment_of}
use Rattle.exec_map.specs.Contents.{byte_of, first_byte}
use Rattle.exec_map.specs.Index.{IsIndex}
use Rattle.exec_map.proofs.Looking.{bytes_same}
use Rattle.exec_map.proofs.Program.load0.Goals as goal

pub returns : goal.returns
returns c =
    let h : IsIndex c.self.inside.elf.now (map segment_of c.self.inside.segments.items) c.self.inside.code.items = c.self.invariant.0 in
    c.load.ensures
    ∙ ap (λ xs. raw c.args.width (byte_of (map segment_of xs)) c.args.address) c.deref.ensures.value
    ∙ ap (λ m. raw c.args.width m c.args.address) (bytes_same c.self.inside.elf.now (map segment_of c.self.inside.segments.items) h.placed h.permutation h.searchable)
    ∙ ap (λ e. raw c.args.width (first_byte e) c.args.address) c.self.view_is
