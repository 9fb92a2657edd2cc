-- A silent word, and whether it commits.
use Rattle.std.proofs.Common.{false, refl, sym, ap, ◌∙◌, arith}
use Rattle.replay.specs.node_model.Node.{Node, word_outcome}
use Rattle.replay.specs.dsm_core.CoreParts.{CoreParts, work_of, core_of}
use Rattle.replay.specs.Way.{core_in}
use Rattle.replay.proofs.Runs.{running_of}
use Rattle.run_trace.specs.declared.tracer.Tracer.{Tracer}
use Rattle.run_trace.specs.Kinds.{kind_in}
use Rattle.run_trace.specs.Looks.{access_seen, commits_when}
use Rattle.run_trace.specs.Traced.{word_traced}
use Rattle.run_trace.specs.Tracing.{IsSame, work_traced, plan_traced}
use Rattle.run_trace.proofs.Silent.{silent_commits}
use Rattle.run_trace.proofs.Tracings.{traced_still, word_after}
use Rattle.run_trace.proofs.Passes.{left_same, same_by}
use Rattle.run_trace.proofs.tracer.Tracer.make_silent_word.Goals as goal

pub make_silent_word-requires-clause-running : goal.make_silent_word-requires-clause-running
make_silent_word-requires-clause-running c =
    running_of c.args.self.now.replayer c.requires.traced.1.before c.requires.traced.1.made

pub returns-then-make_silent_word-clause-made : goal.returns-then-make_silent_word-clause-made
returns-then-make_silent_word-clause-made c = λ seen h.
    let t = c.args.self.now in
    let i = c.args.stretch.now.node in
    let work = work_traced t in
    let plan = plan_traced t in
    let p0 = core_in t.replayer in
    let n = (core_of p0).nodes i in
    let u : Tracer = record { replayer = c.make_silent_word.new.self; plan = t.plan; kinds = t.kinds } in
    let same : IsSame t u = same_by t u c.make_silent_word.ensures.same refl refl in
    let made = c.if-make_silent_word.ensures.passed h.before h.made refl in
    let core = c.core.ensures.value in
    let node = c.node-node.ensures.value ∙ ap (λ (p : CoreParts). (core_of p).nodes i) core in
    let work0 = c.node-node.ensures.work ∙ ap work_of core in
    let at = c.at.ensures.value ∙ ap (λ (k : Node). k.lane.at) node in
    let kind = c.at-2.ensures.kind ∙ ap (kind_in t.kinds) at ∙ h.kinds n.lane.at in
    record {
      stamp = ((core_of (core_in u.replayer)).nodes i).stamp;
      word = word_traced work plan n;
      word_is = refl;
      commits_so = sym (c.in_ok-commits.ensures ∙ (λ j. commits_when (kind j) (access_seen (word_outcome (work0 j) (node j)).access) false)
          ∙ silent_commits work plan (core_of p0) i (access_seen (word_outcome work n).access) made.silent refl);
      traced = word_after t u seen i _ (word_traced work plan n) h made refl refl same;
    }

pub returns-else-make_silent_word-clause-made : goal.returns-else-make_silent_word-clause-made
returns-else-make_silent_word-clause-made c = λ seen h.
    let t = c.args.self.now in
    let u : Tracer = record { replayer = c.make_silent_word.new.self; plan = t.plan; kinds = t.kinds } in
    let same : IsSame t u = same_by t u c.make_silent_word.ensures.same refl refl in
    traced_still t u seen h (c.if-make_silent_word.ensures.kept refl h.before h.made) same

pub returns-else-make_silent_word-clause-most : goal.returns-else-make_silent_word-clause-most
returns-else-make_silent_word-clause-most c =
    let h = c.requires.traced.1 in
    let left = left_same c.args.self.now.replayer c.make_silent_word.new.self h.before h.made
    (c.if-make_silent_word.ensures.kept refl h.before h.made) c.make_silent_word.ensures.same in
    omega (arith, left)
