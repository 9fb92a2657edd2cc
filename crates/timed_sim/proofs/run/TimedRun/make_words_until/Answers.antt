-- The words that each node has executed are a stretch.
use Rattle.std.proofs.Common.{◌≡◌, ℕ, ◌+◌, ◌<◌, refl, ap, ◌∙◌, subst, arith}
use Rattle.std.specs.Prelude.{slice_index_or}
use Rattle.block_layout.specs.Layout.{Shape}
use Rattle.word_visits.specs.TallyTables.{tallies_of}
use Rattle.dsm_core.specs.CoreParts.{work_of, core_of}
use Rattle.timed_sim.specs.declared.run.TimedRun.{TimedRun}
use Rattle.timed_sim.specs.Stored.{AreClocks, AreSameTimes, plan_in, times_in, times_of}
use Rattle.timed_sim.specs.Stretches.{with_words}
use Rattle.timed_sim.proofs.Counts.{each_tallied}
use Rattle.timed_sim.proofs.Made.{ready_kept}
use Rattle.timed_sim.proofs.Stretching.{is_stretch, stretch_by, stretch_ready}
use Rattle.timed_sim.proofs.run.TimedRun.make_words_until.Goals as goal

pub returns-in_err-steps-clause-ready : goal.returns-in_err-steps-clause-ready
returns-in_err-steps-clause-ready c =
    let r = c.args.self.now in
    let kept = c.in_err-steps.ensures in
    let q : TimedRun = record {
      core = c.run_each_tallied.new.core;
      clocks = r.clocks;
      costs = r.costs;
      undo_logs = c.run_each_tallied.new.undo_logs;
      window = r.window;
      count = r.count;
    } in
    ready_kept r q (record {
      work = kept.work;
      core = kept.kept;
      clocks = refl;
      costs = refl;
      undo_logs = kept.undo_logs;
      count = refl;
    }) c.requires.ready

pub returns-clause-ready : goal.returns-clause-ready
returns-clause-ready c =
    let r = c.args.self.now in
    let ok = c.in_ok-steps.ensures in
    let words : ℕ → ℕ = λ i. slice_index_or c.words_until-words.result i 0 in
    let nodes : c.nodes-count.result ≡ r.core.layout.nodes =
    c.nodes-count.ensures.nodes ∙ ap (λ (s : Shape). s.nodes) c.layout.ensures.value in
    let added = c.add.ensures in
    let q : TimedRun = record {
      core = c.run_each_tallied.new.core;
      clocks = c.count_words.new.self;
      costs = r.costs;
      undo_logs = c.run_each_tallied.new.undo_logs;
      window = r.window;
      count = c.add.new.self;
    } in
    stretch_ready r q words ok.work refl ok.undo_logs (λ t. (added.plan t).now)
    (added.counts (work_of r.core) (plan_in r) c.requires.ready.counts) ok.passed
    (subst (λ n. AreClocks n q.clocks) nodes c.count_words.ensures.clocks)
    (subst (λ n. AreSameTimes n (times_of n q.clocks) (with_words words (times_of n r.clocks))) nodes
    c.count_words.ensures.times)
    c.requires.ready

pub returns-clause-made : goal.returns-clause-made
returns-clause-made c = λ made.
    let r = c.args.self.now in
    let ok = c.in_ok-steps.ensures in
    let words : ℕ → ℕ = λ i. slice_index_or c.words_until-words.result i 0 in
    let nodes : c.nodes-count.result ≡ r.core.layout.nodes =
    c.nodes-count.ensures.nodes ∙ ap (λ (s : Shape). s.nodes) c.layout.ensures.value in
    let any = c.is_any.ensures c.if-not-is_any.false in
    let ready = c.requires.ready in
    let added = c.add.ensures in
    let q : TimedRun = record {
      core = c.run_each_tallied.new.core;
      clocks = c.count_words.new.self;
      costs = r.costs;
      undo_logs = c.run_each_tallied.new.undo_logs;
      window = r.window;
      count = c.add.new.self;
    } in
    let s = is_stretch (work_of r.core) (times_in r) (core_of r.core) (core_of q.core) c.args.end words
    c.words_until-words.ensures.words c.requires.free ok.passed in
    stretch_by r q c.args.end any.0 words ok.work (subst (λ n. any.0 < n) nodes any.1) any.2
    c.words_until-words.ensures.few c.words_until-words.ensures.words c.requires.free ok.passed
    (subst (λ n. AreSameTimes n (times_of n q.clocks) (with_words words (times_of n r.clocks))) nodes
    c.count_words.ensures.times)
    ready.clocks.links.few
    (added.steps ∙ ap (λ k. r.count.steps + k) (ok.steps
    ∙ each_tallied (work_of r.core) (plan_in r) r.count.kinds (tallies_of r.count.tallies) words
    (core_of r.core) (core_of q.core) r.core.layout.nodes (omega arith) ready.counts.kinds
    ready.counts.tallies (λ i low some. (low, s.may i low some)) ok.passed ok.tallied))
