-- What is learned of each node's words is that they are tallied, and how many of them count.
use Rattle.std.proofs.Common.{◌≡◌, ℕ, ◌+◌, sym, subst, arith}
use Rattle.std.specs.Prelude.{slice_index_or}
use Rattle.dsm_core.specs.CoreParts.{work_of, core_of}
use Rattle.word_visits.specs.declared.tallies.Tallies.{Tallies}
use Rattle.word_visits.specs.TallyTables.{AreTalliesIn, tallies_of}
use Rattle.timed_sim.specs.Tallied.{AreEachTallied, steps_below}
use Rattle.timed_sim.proofs.Tallying.{counted_below}
use Rattle.timed_sim.proofs.tallied.run_each_tallied.Goals as goal

pub run_each_by-requires-clause-goes_over : goal.run_each_by-requires-clause-goes_over
run_each_by-requires-clause-goes_over c =
    subst (AreTalliesIn (work_of c.args.core.now).image) (sym c.new-by.ensures.tallies) c.requires.table

pub returns-clause-tallied : goal.returns-clause-tallied
returns-clause-tallied c =
    let core = c.args.core.now in
    let words : ℕ → ℕ = λ i. slice_index_or c.args.words.now i 0 in
    let all = counted_below (work_of core) words core.layout.nodes (core_of core) c.new-by.result c.run_each_by.new.by
    c.in_ok-run_each_by.ensures.learns in
    subst (λ (t : Tallies). AreEachTallied (work_of core) words (core_of core) (tallies_of t)) c.new-by.ensures.tallies all.tallied

pub returns-clause-steps : goal.returns-clause-steps
returns-clause-steps c =
    let core = c.args.core.now in
    let words : ℕ → ℕ = λ i. slice_index_or c.args.words.now i 0 in
    let all = counted_below (work_of core) words core.layout.nodes (core_of core) c.new-by.result c.run_each_by.new.by
    c.in_ok-run_each_by.ensures.learns in
    let none = c.new-by.ensures.none in
    let count = subst (λ (t : Tallies). c.run_each_by.new.by.steps
    ≡ c.new-by.result.steps + steps_below (work_of core) words core.layout.nodes (core_of core) (tallies_of t))
    c.new-by.ensures.tallies all.count in
    let steps = c.steps.ensures in
    omega (arith, none, count, steps)
