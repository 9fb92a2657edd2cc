use Rattle.std.proofs.Common.{map, false, sym, ap, ◌∙◌}
use Rattle.std.specs.Option.{option_map_or}
use Rattle.elf32_read.specs.Segments.{segment_of, section_of}
use Rattle.exec_map.specs.Refusals.{is_within}
use Rattle.exec_map.proofs.Looking.{within_one}
use Rattle.exec_map.proofs.rules.is_within_one.Goals as goal

pub returns-in-Some : goal.returns-in-Some
returns-in-Some c =
    c.is_within.ensures ∙ ap (λ o. option_map_or (is_within (section_of c.args.s.now)) o false) c.in-Some.ensures ∙ sym (within_one (section_of c.args.s.now) (map segment_of c.args.sorted.now) c.requires.searchable c.requires.some)

pub returns-in-None : goal.returns-in-None
returns-in-None c =
    ap (λ o. option_map_or (is_within (section_of c.args.s.now)) o false) c.in-None.ensures ∙ sym (within_one (section_of c.args.s.now) (map segment_of c.args.sorted.now) c.requires.searchable c.requires.some)
