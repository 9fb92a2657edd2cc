-- What a loop has counted.
use Rattle.std.proofs.Common.{rules, ◌+◌, refl}
use Rattle.word_visits.specs.declared.counting.TallyLoop.{TallyLoop}
use Rattle.word_visits.specs.TallyBodies.{BodyHasSteps}
use Rattle.word_visits.specs.TallyTables.{tallies_of}
use Rattle.word_visits.proofs.TallyLemmas.{steps_tell}
use Rattle.word_visits.proofs.counting.TallyLoopWordLoop.run.Goals as goal

pub returns-clause-learns : goal.returns-clause-learns
returns-clause-learns c =
    let l = c.args.self.now in
    let run = c.step_words-counted in
    let image = c.args.image.now in
    let few = c.most_counted-most.result in
    let steps = run.result.steps in
    let more : TallyLoop = record { tallies = l.tallies; steps = l.steps + steps } in
    let have : BodyHasSteps image few c.args.from c.args.body.now run.result.words (tallies_of l.tallies.now) steps =
    search rules in
    steps_tell image few c.args.most c.args.from run.result.words steps c.args.body.now l more c.most_counted-most.ensures.most refl
    refl have
