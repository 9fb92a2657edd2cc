-- The difference of two sums.
use Rattle.std.proofs.Common.{◌≡◌, ℕ, ◌-◌, ◌<◌, ap, arith}
use Rattle.node_words.specs.Runs.{numbers_from}
use Rattle.word_visits.specs.Sums.{tallies_in}
use Rattle.word_visits.specs.Tallies.{steps_among}
use Rattle.word_visits.proofs.TallyLemmas.{difference_least, difference_most, steps_difference}
use Rattle.word_visits.proofs.tallies.steps_between.Goals as goal

pub returns-then-first-end-clause-sum : goal.returns-then-first-end-clause-sum
returns-then-first-end-clause-sum c = λ words count.
    let same = c.if-first-end.true in
    let none : 0 ≡ c.args.end - c.args.first = omega (arith, same) in
    ap (λ (n : ℕ). steps_among (tallies_in words c.args.sums.now) (numbers_from c.args.first n)) none

pub overflow_sub-result : goal.overflow_sub-result
overflow_sub-result c =
    let low = c.requires.some in
    let apart = c.if-first-end.false in
    let some : c.args.first < c.args.end = omega (arith, low, apart) in
    difference_least c.args.sums.now c.args.first c.args.end _ _ c.requires.rise low (c.requires.within some)

pub returns-clause-sum : goal.returns-clause-sum
returns-clause-sum c = λ words count.
    let low = c.requires.some in
    let apart = c.if-first-end.false in
    let some : c.args.first < c.args.end = omega (arith, low, apart) in
    steps_difference words c.args.sums.now c.args.first c.args.end _ _ c.requires.rise count low (c.requires.within some)

pub returns-clause-most : goal.returns-clause-most
returns-clause-most c =
    let low = c.requires.some in
    let apart = c.if-first-end.false in
    let some : c.args.first < c.args.end = omega (arith, low, apart) in
    difference_most c.args.sums.now c.args.first c.args.end _ _ c.requires.rise low (c.requires.within some)
