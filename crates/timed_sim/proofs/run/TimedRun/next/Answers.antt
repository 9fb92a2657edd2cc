-- Where none is next, none is allowed, so every node is over.
use Rattle.std.proofs.Common.{ap, sym, ◌∙◌}
use Rattle.std.specs.Option.{option_map}
use Rattle.dsm_core.specs.CoreParts.{work_of, core_of}
use Rattle.timed_sim.specs.Stored.{due_of, times_in}
use Rattle.timed_sim.proofs.Next.{none_over}
use Rattle.timed_sim.proofs.run.TimedRun.next.Goals as goal

pub returns-clause-over : goal.returns-clause-over
returns-clause-over c = λ none.
    let r = c.args.self.now in
    none_over (work_of r.core) (times_in r) (core_of r.core) c.requires.ready.in_step
    (sym c.next.ensures ∙ ap (option_map due_of) none) c.promises.ensures.goes_on
