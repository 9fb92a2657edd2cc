use Rattle.std.proofs.Common.{arith}
use Rattle.std.proofs.lemmas.Option.{slice_get_within}
use Rattle.node_words.proofs.StepLemmas.{micro_step}
use Rattle.node_words.proofs.exec_state.ExecState.step_at.Goals as goal

pub step-requires : goal.step-requires
step-requires c =
    let there = c.in-Some.ensures.value in
    let below = slice_get_within c.args.image.now c.args.at there.cell there.there in
    let few = c.requires in
    omega (arith, below, few)

pub returns-in-Some-clause-steps : goal.returns-in-Some-clause-steps
returns-in-Some-clause-steps c =
    let there = c.in-Some.ensures.value in
    let b = c.args.self.now in
    let b' = c.step.new.self in
    micro_step c.args.image.now _ c.args.at b.lane b.local b'.lane b'.local c.step.result there.cell c.requires there.there
    there.micro c.step.ensures.steps
