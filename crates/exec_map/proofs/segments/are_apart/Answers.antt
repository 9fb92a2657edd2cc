use Rattle.std.proofs.Common.{map, arith}
use Rattle.std.proofs.lemmas.List.{length-map}
use Rattle.elf32_read.specs.Segments.{segment_of}
use Rattle.exec_map.proofs.Looking.{adjacent_apart, apart_more, not_apart}
use Rattle.exec_map.proofs.segments.are_apart.Goals as goal

pub returns-then-end_line-from-clause-no : goal.returns-then-end_line-from-clause-no
returns-then-end_line-from-clause-no c = λ _ apart.
    not_apart c.args.sorted.now c.loop-place.place _ _ _ c.loop-place.auto.place c.loop-place-test.true c.from.ensures c.end_line.ensures c.if-end_line-from.true apart

pub loop-place-preserved : goal.loop-place-preserved
loop-place-preserved c = λ k d lt.
    apart_more c.args.sorted.now c.loop-place.place _ _ _ k d c.loop-place.auto.place c.loop-place-test.true c.from.ensures c.end_line.ensures c.if-end_line-from.false c.loop-place.invariant lt

pub returns-clause-yes : goal.returns-clause-yes
returns-clause-yes c = λ _. adjacent_apart (map segment_of c.args.sorted.now) (λ k d lt. c.loop-place.invariant k d (omega (arith, length-map c.args.sorted.now segment_of)))
