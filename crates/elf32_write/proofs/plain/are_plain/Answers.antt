use Rattle.std.proofs.Common.{◌∙◌, sym}
use Rattle.std.proofs.lemmas.List.Folds.{list_all-map, list_all_at}
use Rattle.elf32_read.specs.Segments.{section_of}
use Rattle.elf32_write.specs.Writable.{is_plain}
use Rattle.elf32_write.proofs.plain.are_plain.Goals as goal

pub returns-then-not-is_plain : goal.returns-then-not-is_plain
returns-then-not-is_plain c =
    sym (list_all-map is_plain section_of c.args.sections.now
    ∙ list_all_at (λ s. is_plain (section_of s)) c.args.sections.now c.loop-s.s-index _ c.loop-s-test.true
    (sym c.is_plain.ensures ∙ c.if-not-is_plain.true))
