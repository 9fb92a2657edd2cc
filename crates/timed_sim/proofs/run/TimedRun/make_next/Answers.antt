-- Where no words can be made at once, one event is; where none is next, every node is over.
use Rattle.std.proofs.Common.{◌≡◌, Some, sym, ap, ◌∙◌, subst}
use Rattle.std.specs.Option.{option_map}
use Rattle.dsm_core.specs.node_model.Node.{Work}
use Rattle.dsm_core.specs.node_model.Core.{Core, IsOver}
use Rattle.dsm_core.specs.CoreParts.{work_of, core_of}
use Rattle.timed_sim.specs.Clock.{next}
use Rattle.timed_sim.specs.Stored.{due_of, moment_of, plan_in, times_in}
use Rattle.timed_sim.proofs.Made.{made_kept, next_kept, steps_kept}
use Rattle.timed_sim.proofs.Next.{next_is}
use Rattle.timed_sim.proofs.Stretching.{one_event}
use Rattle.timed_sim.proofs.run.TimedRun.make_next.Goals as goal

pub returns-in_ok-make-in-Some-clause-made : goal.returns-in_ok-make-in-Some-clause-made
returns-in_ok-make-in-Some-clause-made c = λ made.
    let r = c.args.self.now in
    let q = c.make_words.new.self in
    let p = c.make.new.self in
    let d = due_of c.in-Some.due in
    let kept = c.make_words.ensures.kept c.if-make_words.false in
    let here : next (work_of r.core) (times_in r) (core_of r.core) ≡ Some d =
    sym (next_kept r q kept) ∙ sym c.next.ensures.value ∙ ap (option_map due_of) c.in-Some.is in
    let is = next_is (work_of r.core) (times_in r) (core_of r.core) d c.requires.ready.in_step here in
    one_event r.costs (work_of r.core) (plan_in r) (moment_of r) (moment_of p) d
    c.requires.ready.costs is here
    (made_kept r q d (times_in p) (core_of p.core) kept c.in_ok-make-in-Some.ensures.made)
    (steps_kept r q p d.event kept c.in_ok-make-in-Some.ensures.steps)

pub returns-in-None-clause-over : goal.returns-in-None-clause-over
returns-in-None-clause-over c = λ made.
    let r = c.args.self.now in
    let q = c.make_words.new.self in
    let kept = c.make_words.ensures.kept c.if-make_words.false in
    subst (λ (z : Core). IsOver (work_of r.core) z) kept.core
    (subst (λ (w : Work). IsOver w (core_of q.core)) kept.work (c.next.ensures.over c.in-None.is))
