-- The word wants nothing and sends nothing, so what changes is the clock of its node, and whether
-- it commits a step could be told before it.
use Rattle.std.proofs.Common.{◌≡◌, ◌+◌, ◌<◌, Bool, cond, [], ◌∷◌, refl, sym, ap, ◌∙◌, subst, add-zero}
use Rattle.block_layout.specs.Layout.{Shape}
use Rattle.dsm_core.specs.rewriting_law.CoreRun.{commits}
use Rattle.dsm_core.specs.node_machine.NodeState.{work_of as work_at}
use Rattle.dsm_core.specs.node_model.Node.{Node, Work}
use Rattle.dsm_core.specs.node_model.Core.{Event, Exec, May}
use Rattle.dsm_core.specs.CoreParts.{work_of, core_of}
use Rattle.run_trace.specs.Committing.{IsSilentNode}
use Rattle.run_trace.specs.Kinds.{AreKindsOf}
use Rattle.run_trace.specs.Steps.{steps_made}
use Rattle.run_trace.proofs.StepCounts.{steps_more}
use Rattle.timed_sim.specs.declared.run.TimedRun.{TimedRun}
use Rattle.timed_sim.specs.Stored.{AreClocks, AreSameTimes, due_of, plan_in, times_in, times_of, with_word}
use Rattle.timed_sim.proofs.Next.{next_is}
use Rattle.timed_sim.proofs.Made.{ready_made}
use Rattle.timed_sim.proofs.Words.{passed_silent, word_made}
use Rattle.timed_sim.proofs.run.TimedRun.make_silent_word.Goals as goal

pub node-requires : goal.node-requires
node-requires c =
    let r = c.args.self.now in
    let is = next_is (work_of r.core) (times_in r) (core_of r.core) (due_of c.args.due)
    c.requires.ready.in_step c.requires.next in
    let may = subst (May (work_of r.core) (core_of r.core)) c.requires.word is.may in
    record { node = may.0 }

pub exec_silent-requires : goal.exec_silent-requires
exec_silent-requires c =
    let r = c.args.self.now in
    let is = next_is (work_of r.core) (times_in r) (core_of r.core) (due_of c.args.due)
    c.requires.ready.in_step c.requires.next in
    record { enabled = subst (May (work_of r.core) (core_of r.core)) c.requires.word is.may }

pub count_word-requires : goal.count_word-requires
count_word-requires c =
    let r = c.args.self.now in
    let is = next_is (work_of r.core) (times_in r) (core_of r.core) (due_of c.args.due)
    c.requires.ready.in_step c.requires.next in
    let may = subst (May (work_of r.core) (core_of r.core)) c.requires.word is.may in
    let nodes : c.nodes-count.result ≡ r.core.layout.nodes =
    c.nodes-count.ensures.nodes ∙ ap (λ (s : Shape). s.nodes) c.layout.ensures.value in
    record {
      clocks = subst (λ n. AreClocks n r.clocks) (sym nodes) c.requires.ready.clocks;
      node = subst (λ n. c.args.node < n) (sym nodes) may.0;
      few = c.requires.within.clocks c.args.node may.0;
    }

pub returns-clause-made : goal.returns-clause-made
returns-clause-made c = λ made.
    let r = c.args.self.now in
    let q : TimedRun =
    record {
      core = c.exec_silent.new.self;
      clocks = c.count_word.new.self;
      costs = r.costs;
      undo_logs = r.undo_logs;
      window = r.window;
      count = c.add.new.self;
    } in
    let is = next_is (work_of r.core) (times_in r) (core_of r.core) (due_of c.args.due)
    c.requires.ready.in_step c.requires.next in
    let nodes : c.nodes-count.result ≡ r.core.layout.nodes =
    c.nodes-count.ensures.nodes ∙ ap (λ (s : Shape). s.nodes) c.layout.ensures.value in
    word_made r.costs r q c.args.node (due_of c.args.due) c.exec_silent.ensures.work
    (c.exec_silent.ensures.passed c.if-not-exec_silent.false) c.requires.word is
    (subst (λ n. AreSameTimes n (times_of n q.clocks) (with_word c.args.node (times_of n r.clocks))) nodes c.count_word.ensures.times)

pub returns-clause-ready : goal.returns-clause-ready
returns-clause-ready c = λ made.
    let r = c.args.self.now in
    let q : TimedRun =
    record {
      core = c.exec_silent.new.self;
      clocks = c.count_word.new.self;
      costs = r.costs;
      undo_logs = r.undo_logs;
      window = r.window;
      count = c.add.new.self;
    } in
    let is = next_is (work_of r.core) (times_in r) (core_of r.core) (due_of c.args.due)
    c.requires.ready.in_step c.requires.next in
    let nodes : c.nodes-count.result ≡ r.core.layout.nodes =
    c.nodes-count.ensures.nodes ∙ ap (λ (s : Shape). s.nodes) c.layout.ensures.value in
    let added = c.add.ensures in
    ready_made r.costs r q (due_of c.args.due) c.exec_silent.ensures.work refl refl
    (λ t. (added.plan t).now)
    (added.counts (work_of r.core) (plan_in r) c.requires.ready.counts) is.may c.requires.ready
    (subst (λ n. AreClocks n q.clocks) nodes c.count_word.ensures.clocks) (returns-clause-made c made)

pub returns-clause-steps : goal.returns-clause-steps
returns-clause-steps c = λ made.
    let r = c.args.self.now in
    let i = c.args.node in
    let work = work_of r.core in
    let core = core_of r.core in
    let plan = plan_in r in
    let is = next_is work (times_in r) core (due_of c.args.due) c.requires.ready.in_step
    c.requires.next in
    let may = subst (May work core) c.requires.word is.may in
    let silent = passed_silent work i core (core_of c.exec_silent.new.self) may.0
    (c.exec_silent.ensures.passed c.if-not-exec_silent.false) in
    let node = c.node.result.now in
    let kinds = r.count.kinds in
    let does = c.in-Some.commits in
    let told = subst (λ (w : Work). AreKindsOf w.program plan w.image kinds
    → IsSilentNode w (core.nodes i) → does ≡ commits w plan (core.nodes i)) c.node.ensures.work
    (subst (λ (n : Node). AreKindsOf (work_at node).program plan (work_at node).image kinds
    → IsSilentNode (work_at node) n → does ≡ commits (work_at node) plan n) c.node.ensures.value
    (c.in-Some.ensures plan)) c.requires.ready.counts.kinds silent in
    c.add.ensures.steps ∙ ap (λ k. r.count.steps + k)
    (c.steps_of_word.ensures ∙ ap (λ (b : Bool). cond b 1 0) told
    ∙ sym (steps_more work plan core (Exec i) [] ∙ add-zero _)
    ∙ ap (λ (e : Event). steps_made work plan core (e ∷ [])) (sym c.requires.word))
