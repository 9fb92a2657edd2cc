use Rattle.std.proofs.Common.{false, map, ap, ◌∙◌, subst}
use Rattle.std.specs.List.{list_any}
use Rattle.elf32_read.specs.Segments.{segment_of}
use Rattle.exec_map.specs.Contents.{AreReadOnlyRanges}
use Rattle.exec_map.specs.Index.{IsIndex, has_line}
use Rattle.exec_map.proofs.Sharing.{ranges_are}
use Rattle.exec_map.proofs.Program.read_only_ranges.Goals as goal

pub returns : goal.returns
returns c =
    let h : IsIndex c.self.inside.elf.now (map segment_of c.self.inside.segments.items) c.self.inside.code.items = c.self.invariant.0 in
    record {
      ranges = rw c.new.ensures
          (subst (λ e. AreReadOnlyRanges e c.in_ok-ranges_of.field-0.items) c.self.view_is
          (ranges_are false c.self.inside.elf.now (map segment_of c.self.inside.segments.items) c.in_ok-ranges_of.field-0.items h.placed h.permutation h.searchable c.self.invariant.1
          (λ line. c.in_ok-ranges_of.ensures.lines line ∙ ap (λ xs. list_any (has_line false line) (map segment_of xs)) c.deref.ensures.value) c.in_ok-ranges_of.ensures.apart));
    }
