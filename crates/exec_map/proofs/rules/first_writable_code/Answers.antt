use Rattle.elf32_read.specs.Segments.{segment_of}
use Rattle.exec_map.specs.Refusals.{is_writable_code}
use Rattle.exec_map.proofs.Places.{place_found, place_nowhere}
use Rattle.exec_map.proofs.rules.first_writable_code.Goals as goal

pub returns-then-is_writable_code : goal.returns-then-is_writable_code
returns-then-is_writable_code c = place_found is_writable_code segment_of c.args.all.now c.loop-place.place _ c.is_writable_code.result c.loop-place-test.true c.is_writable_code.ensures c.if-is_writable_code.true c.loop-place.invariant

pub returns : goal.returns
returns c = place_nowhere is_writable_code segment_of c.args.all.now c.loop-place.place c.loop-place-test.false c.loop-place.auto.place-end c.loop-place.invariant
