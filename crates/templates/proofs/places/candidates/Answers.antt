use Rattle.std.proofs.Common.{ap, arith}
use Rattle.templates.proofs.PlaceLemmas.{low_there}
use Rattle.templates.proofs.places.candidates.Goals as goal

pub push_places-requires : goal.push_places-requires
push_places-requires c =
    let low = low_there 0 c.args.words.now c.loop-word.word-index c.word-item.result c.requires.ascends c.loop-word-test.true in
    let is = ap (λ w. w.address) c.word-item.is in
    omega (arith, low, is)
