-- At the start no message is on its way, and none has a time.
use Rattle.std.proofs.Common.{◌≡◌, length, sym, ap, ◌∙◌, subst}
use Rattle.block_layout.specs.Layout.{Shape}
use Rattle.dsm_core.specs.node_model.Core.{Core}
use Rattle.dsm_core.specs.CoreParts.{work_in, work_of}
use Rattle.timed_sim.specs.Clock.{opening_times}
use Rattle.timed_sim.specs.Stored.{AreClocks, AreSameTimes, times_of}
use Rattle.timed_sim.proofs.Made.{counted_for, opening_in_step}
use Rattle.timed_sim.proofs.run.TimedRun.new.Goals as goal

pub returns-clause-ready : goal.returns-clause-ready
returns-clause-ready c =
    let core = c.in_ok-core.core in
    let clocks = c.in_ok-clocks.clocks in
    let count = c.in_ok-count.count in
    let nodes : c.nodes.result ≡ core.layout.nodes =
    c.nodes.ensures.nodes ∙ ap (λ (s : Shape). s.nodes) c.layout.ensures.value in
    let logs : c.nodes-2.result ≡ core.layout.nodes =
    c.nodes-2.ensures.nodes ∙ ap (λ (s : Shape). s.nodes) c.layout-2.ensures.value in
    let same = subst (λ n. AreSameTimes n (times_of n clocks) opening_times) nodes
    c.in_ok-clocks.ensures.opening in
    record {
      clocks = subst (λ n. AreClocks n clocks) nodes c.in_ok-clocks.ensures.clocks;
      costs = c.requires.costs;
      undo_logs = c.in_ok-undo_logs.ensures.nodes ∙ logs;
      in_step = λ j i below low. ap length (same.arrivals j i below low)
          ∙ opening_in_step core.layout.nodes (work_of core) j i below low
          ∙ sym (ap (λ (d : Core). length (d.list j i)) c.in_ok-core.ensures.opening);
      counts = counted_for (work_in c.args.work.now) (work_of core) c.args.plan.now count c.in_ok-core.ensures.work
          c.in_ok-count.ensures.counts;
    }
