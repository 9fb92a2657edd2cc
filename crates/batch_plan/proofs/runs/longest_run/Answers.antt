use Rattle.std.proofs.Common.{◌^◌, ◌<◌, refl, arith}
use Rattle.templates.specs.Code.{code_of}
use Rattle.batch_plan.specs.declared.runs.BatchRun.{BatchRun}
use Rattle.batch_plan.proofs.RunLemmas.{longest_ended, none_at_all, run_low}
use Rattle.batch_plan.proofs.runs.longest_run.Goals as goal

pub returns-in-None-clause-longest : goal.returns-in-None-clause-longest
returns-in-None-clause-longest c =
    let none : BatchRun = record { words = 0; base = 0 } in
    none_at_all (code_of c.args.code.now) c.args.address none c.in-None.ensures.value refl

pub returns-in-None-longer-clause-longest : goal.returns-in-None-longer-clause-longest
returns-in-None-longer-clause-longest c =
    longest_ended (code_of c.args.code.now) c.args.address c.loop-words.words c.loop-words.longest
    c.in-None-longer.ensures.value c.loop-words.invariant.longest

pub returns-in-None-longer-clause-low : goal.returns-in-None-longer-clause-low
returns-in-None-longer-clause-low c =
    let fits = c.ranges.address in
    let small : c.args.address < 2 ^ 32 = omega (arith, fits) in
    run_low c.args.code.now c.args.address c.loop-words.longest.words small c.requires.ascends
    c.loop-words.invariant.longest.run

pub returns-clause-low : goal.returns-clause-low
returns-clause-low c =
    let fits = c.ranges.address in
    let small : c.args.address < 2 ^ 32 = omega (arith, fits) in
    run_low c.args.code.now c.args.address c.loop-words.longest.words small c.requires.ascends
    c.loop-words.invariant.longest.run
