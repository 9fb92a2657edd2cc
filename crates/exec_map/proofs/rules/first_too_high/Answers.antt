use Rattle.elf32_read.specs.Segments.{segment_of}
use Rattle.exec_map.specs.Refusals.{is_too_high}
use Rattle.exec_map.proofs.Places.{place_found, place_nowhere}
use Rattle.exec_map.proofs.rules.first_too_high.Goals as goal

pub returns-then-is_too_high : goal.returns-then-is_too_high
returns-then-is_too_high c = place_found is_too_high segment_of c.args.all.now c.loop-place.place _ c.is_too_high.result c.loop-place-test.true c.is_too_high.ensures c.if-is_too_high.true c.loop-place.invariant

pub returns : goal.returns
returns c = place_nowhere is_too_high segment_of c.args.all.now c.loop-place.place c.loop-place-test.false c.loop-place.auto.place-end c.loop-place.invariant
