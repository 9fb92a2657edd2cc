use Rattle.std.proofs.Common.{map}
use Rattle.elf32_read.specs.Segments.{segment_of, section_of}
use Rattle.exec_map.specs.Refusals.{is_broken_code}
use Rattle.exec_map.proofs.Places.{place_found, place_nowhere, one_more}
use Rattle.exec_map.proofs.rules.first_broken_section.Goals as goal

pub returns-then-is_broken_code : goal.returns-then-is_broken_code
returns-then-is_broken_code c = place_found (is_broken_code (map segment_of c.args.sorted.now)) section_of c.args.sections.now c.loop-place.place _ c.is_broken_code.result c.loop-place-test.true c.is_broken_code.ensures c.if-is_broken_code.true c.loop-place.invariant

pub loop-place-preserved : goal.loop-place-preserved
loop-place-preserved c = one_more (λ s. is_broken_code (map segment_of c.args.sorted.now) (section_of s)) c.args.sections.now c.loop-place.place _ c.is_broken_code.result c.loop-place-test.true c.is_broken_code.ensures c.if-is_broken_code.false c.loop-place.invariant

pub returns : goal.returns
returns c = place_nowhere (is_broken_code (map segment_of c.args.sorted.now)) section_of c.args.sections.now c.loop-place.place c.loop-place-test.false c.loop-place.auto.place-end c.loop-place.invariant
