-- The next event is allowed. What was seen of it is what its times go by.
use Rattle.std.proofs.Common.{◌≡◌, ◌+◌, ◌<◌, ◌^◌, [], ◌∷◌, sym, ap, ◌∙◌, subst}
use Rattle.std.proofs.lemmas.Result.{on_ok_weaker}
use Rattle.block_layout.specs.Layout.{Shape}
use Rattle.dsm_core.specs.node_machine.Wanted.{wanted_in}
use Rattle.dsm_core.specs.node_model.Node.{Work, standing_of}
use Rattle.dsm_core.specs.node_model.Core.{AreAlike, event_step}
use Rattle.dsm_core.specs.run_order.OwnRun.{node_of}
use Rattle.dsm_core.specs.CoreParts.{work_of, core_of, event_of}
use Rattle.dsm_core.specs.Seen.{byte_at}
use Rattle.run_trace.specs.Steps.{steps_made}
use Rattle.timed_sim.specs.declared.run.TimedRun.{TimedRun}
use Rattle.timed_sim.specs.Counted.{IsSightAt}
use Rattle.timed_sim.specs.Stored.{AreClocks, AreInStep, IsBelow, due_of, plan_in, times_in}
use Rattle.timed_sim.proofs.Next.{next_is}
use Rattle.timed_sim.proofs.Made.{counts_here, made_here, made_in_step, may_below}
use Rattle.timed_sim.proofs.Running.{both_on_ok}
use Rattle.timed_sim.proofs.run.TimedRun.make_seen.Goals as goal

pub node-requires : goal.node-requires
node-requires c =
    let r = c.args.self.now in
    let is = next_is (work_of r.core) (times_in r) (core_of r.core) (due_of c.args.due)
    c.requires.ready.in_step c.requires.next in
    record { node = subst (λ k. k < r.core.layout.nodes) (sym c.node_of.ensures) is.low }

pub sight_of-sight-requires : goal.sight_of-sight-requires
sight_of-sight-requires c =
    let r = c.args.self.now in
    let is = next_is (work_of r.core) (times_in r) (core_of r.core) (due_of c.args.due)
    c.requires.ready.in_step c.requires.next in
    record { node = is.low }

pub steps_of_event-steps-requires : goal.steps_of_event-steps-requires
steps_of_event-steps-requires c =
    let r = c.args.self.now in
    let is = next_is (work_of r.core) (times_in r) (core_of r.core) (due_of c.args.due)
    c.requires.ready.in_step c.requires.next in
    record {
      node = subst (λ (w : Work). node_of (event_of c.args.due.event) < w.layout.nodes)
          (sym c.in_ok-seen.ensures.work) is.low;
    }

pub step_seen-requires : goal.step_seen-requires
step_seen-requires c =
    let r = c.args.self.now in
    let is = next_is (work_of r.core) (times_in r) (core_of r.core) (due_of c.args.due)
    c.requires.ready.in_step c.requires.next in
    record { enabled = is.may }

pub pass-requires-clause-below : goal.pass-requires-clause-below
pass-requires-clause-below c =
    let r = c.args.self.now in
    let is = next_is (work_of r.core) (times_in r) (core_of r.core) (due_of c.args.due)
    c.requires.ready.in_step c.requires.next in
    let here : c.layout.result.now ≡ r.core.layout =
    c.layout.ensures.value ∙ ap (λ (w : Work). w.layout) c.in_ok-seen.ensures.work in
    subst (λ (s : Shape). IsBelow s.nodes (event_of c.args.due.event)) (sym here)
    (may_below (work_of r.core) (core_of r.core) (event_of c.args.due.event) is.may)

pub pass-requires-clause-time : goal.pass-requires-clause-time
pass-requires-clause-time c =
    let r = c.args.self.now in
    let is = next_is (work_of r.core) (times_in r) (core_of r.core) (due_of c.args.due)
    c.requires.ready.in_step c.requires.next in
    is.clock

pub pass-requires-clause-few : goal.pass-requires-clause-few
pass-requires-clause-few c =
    let r = c.args.self.now in
    let is = next_is (work_of r.core) (times_in r) (core_of r.core) (due_of c.args.due)
    c.requires.ready.in_step c.requires.next in
    is.within (2 ^ 100) c.requires.within

pub returns-clause-made : goal.returns-clause-made
returns-clause-made c =
    let r = c.args.self.now in
    let q : TimedRun =
    record {
      core = c.step_seen.new.self;
      clocks = c.pass.new.self;
      costs = r.costs;
      undo_logs = r.undo_logs;
      window = r.window;
      count = c.add.new.self;
    } in
    let seen = c.in_ok-seen.ensures in
    let stood = c.standing-standing.ensures.value
    ∙ (λ t. standing_of (c.node.ensures.work t) (c.node.ensures.value t))
    ∙ ap (λ k. standing_of (work_of r.core) ((core_of r.core).nodes k)) c.node_of.ensures in
    on_ok_weaker c.pass.result
    (made_here r.costs r q c.layout.result.now (due_of c.args.due) c.standing-standing.result
    (wanted_in c.in_ok-seen.seen.wants) c.in_ok-seen.seen.sends.items c.layout.ensures.value seen.work
    seen.event stood seen.seen.wants seen.seen.sends) c.pass.ensures.times

pub returns-clause-ready : goal.returns-clause-ready
returns-clause-ready c =
    let r = c.args.self.now in
    let q : TimedRun =
    record {
      core = c.step_seen.new.self;
      clocks = c.pass.new.self;
      costs = r.costs;
      undo_logs = r.undo_logs;
      window = r.window;
      count = c.add.new.self;
    } in
    let d = due_of c.args.due in
    let work = work_of r.core in
    let is = next_is work (times_in r) (core_of r.core) d c.requires.ready.in_step c.requires.next in
    both_on_ok c.pass.result (λ clocks made. record {
      clocks = subst (λ (s : Shape). AreClocks s.nodes q.clocks) c.layout.ensures.value clocks;
      costs = c.requires.ready.costs;
      undo_logs = c.requires.ready.undo_logs
          ∙ ap (λ (w : Work). w.layout.nodes) (sym c.in_ok-seen.ensures.work);
      in_step = subst (λ (w : Work). AreInStep w.layout.nodes (times_in q) (core_of q.core))
          (sym c.in_ok-seen.ensures.work)
          (made_in_step r.costs work (times_in r) (times_in q) (core_of r.core) (core_of q.core) d is.may
          c.requires.ready.in_step made);
      counts = counts_here r q c.in_ok-seen.ensures.work (λ t. (c.add.ensures.plan t).now)
          (c.add.ensures.counts work (plan_in r) c.requires.ready.counts);
    }) c.pass.ensures.clocks (returns-clause-made c)

pub returns-clause-plan : goal.returns-clause-plan
returns-clause-plan c =
    let added = c.add.ensures in
    on_ok_weaker c.pass.result (λ clocks. λ t. (added.plan t).now) c.pass.ensures.clocks

pub returns-clause-steps : goal.returns-clause-steps
returns-clause-steps c =
    let r = c.args.self.now in
    let core = core_of r.core in
    let now = core_of c.step_seen.new.self in
    let plan = plan_in r in
    let e = event_of c.args.due.event in
    let sight = c.sight_of-sight.result in
    let printed = c.in_ok-seen.seen.printed in
    let steps = c.steps_of_event-steps.result in
    let seen = c.in_ok-seen.ensures in
    let made = subst (λ (w : Work). IsSightAt w plan core e sight → printed ≡ byte_at w core e
    → AreAlike w.layout.nodes now (event_step w core e) → steps ≡ steps_made w plan core (e ∷ []))
    seen.work (c.steps_of_event-steps.ensures plan core)
    (c.sight_of-sight.ensures plan c.requires.ready.counts) seen.seen.printed seen.event in
    on_ok_weaker c.pass.result (λ clocks. c.add.ensures.steps ∙ ap (λ k. r.count.steps + k) made)
    c.pass.ensures.clocks
