use Rattle.std.proofs.Common.{arith}
use Rattle.std.proofs.lemmas.Int.{ints}
use Rattle.templates.proofs.batches.high_offset.Goals as goal

pub new-requires-clause-low : goal.new-requires-clause-low
new-requires-clause-low c =
    let value = c.value.ensures.value in
    let low = c.value.ensures.low in
    let ordered = c.requires.ordered in
    omega (arith, ints, value, low, ordered)
