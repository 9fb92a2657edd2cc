use Rattle.std.proofs.Common.{◌∙◌, sym}
use Rattle.std.proofs.lemmas.List.Folds.{list_all-map, list_all_at}
use Rattle.elf32_read.specs.Elf.{is_placed}
use Rattle.elf32_read.specs.Segments.{segment_of}
use Rattle.elf32_read.proofs.limits.are_placed.Goals as goal

pub returns-then-not-is_placed : goal.returns-then-not-is_placed
returns-then-not-is_placed c =
    sym (list_all-map is_placed segment_of c.args.segments.now
    ∙ list_all_at (λ s. is_placed (segment_of s)) c.args.segments.now c.loop-s.s-index _ c.loop-s-test.true
    (sym c.is_placed.ensures ∙ c.if-not-is_placed.true))
