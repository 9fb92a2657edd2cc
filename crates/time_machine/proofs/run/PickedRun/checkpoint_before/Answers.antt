use Rattle.time_machine.proofs.run.PickedRun.checkpoint_before.Goals as goal

pub returns-in-Some-clause-of_run : goal.returns-in-Some-clause-of_run
returns-in-Some-clause-of_run c =
    let is = c.in-Some.ensures in
    c.of.ensures.of_run c.args.self.now (c.requires is.place _ is.there)
