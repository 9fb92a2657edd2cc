-- A word, by what it touches.
use Rattle.std.proofs.Common.{◌||◌, false, [], ◌∷◌, ◌++◌, Some, refl, ap, sym, subst, ◌∙◌, append-nil, arith}
use Rattle.block_layout.specs.Layout.{Shape}
use Rattle.replay.specs.node_model.jump_map.Maps.{old_of}
use Rattle.replay.specs.node_model.Node.{Work, Node, word_outcome}
use Rattle.replay.specs.dsm_core.CoreParts.{CoreParts, work_of, core_of}
use Rattle.replay.specs.Way.{core_in}
use Rattle.run_trace.specs.declared.passed.WordPassed.{WordPassed}
use Rattle.run_trace.specs.declared.tracer.Tracer.{Tracer}
use Rattle.run_trace.specs.Kinds.{kind_in}
use Rattle.run_trace.specs.Looks.{access_seen, accessed_at, commits_when}
use Rattle.run_trace.specs.Passing.{passed_of}
use Rattle.run_trace.specs.Tracing.{HasTraced, IsSame, work_traced, plan_traced}
use Rattle.run_trace.proofs.Silent.{touch_at, word_is}
use Rattle.run_trace.proofs.Tracings.{traced_still, word_after}
use Rattle.run_trace.proofs.Passes.{left_same, same_by}
use Rattle.run_trace.proofs.tracer.Tracer.run_to_access.Goals as goal

pub reached_by_touch-requires : goal.reached_by_touch-requires
reached_by_touch-requires c =
    let i = c.args.stretch.now.node in
    let core = c.core.ensures.value in
    record {
      touch = touch_at _ _ _ _ c.args.touch (c.node-node.ensures.work ∙ ap work_of core)
          (c.node-node.ensures.value ∙ ap (λ (p : CoreParts). (core_of p).nodes i) core) c.requires.touch;
    }

pub returns-then-not-make_silent_word-clause-passed : goal.returns-then-not-make_silent_word-clause-passed
returns-then-not-make_silent_word-clause-passed c = λ seen h.
    let t = c.args.self.now in
    let u : Tracer = record {
      replayer = c.make_silent_word.new.self;
      plan = t.plan;
      kinds = t.kinds;
    } in
    let same : IsSame t u = same_by t u c.make_silent_word.ensures.same refl refl in
    subst (HasTraced u) (sym (append-nil seen))
    (traced_still t u seen h (c.if-not-make_silent_word.ensures.kept refl h.before h.made) same)

pub returns-then-not-make_silent_word-clause-most : goal.returns-then-not-make_silent_word-clause-most
returns-then-not-make_silent_word-clause-most c =
    let h = c.requires.traced.1 in
    let left = left_same c.args.self.now.replayer c.make_silent_word.new.self h.before h.made
    (c.if-not-make_silent_word.ensures.kept refl h.before h.made) c.make_silent_word.ensures.same in
    omega (arith, left)

pub returns-clause-passed : goal.returns-clause-passed
returns-clause-passed c = λ seen h.
    let t = c.args.self.now in
    let i = c.args.stretch.now.node in
    let work = work_traced t in
    let plan = plan_traced t in
    let p0 = core_in t.replayer in
    let n = (core_of p0).nodes i in
    let r = c.in_ok-reached.reached in
    let u : Tracer = record {
      replayer = c.make_silent_word.new.self;
      plan = t.plan;
      kinds = t.kinds;
    } in
    let same : IsSame t u = same_by t u c.make_silent_word.ensures.same refl refl in
    let made = c.if-not-make_silent_word.ensures.passed h.before h.made refl in
    let left = c.if-not-make_silent_word.ensures.left refl in
    let core0 = c.core.ensures.value in
    let core1 = c.core-core.ensures.value in
    let node0 = c.node-node.ensures.value ∙ ap (λ (p : CoreParts). (core_of p).nodes i) core0 in
    let work0 = c.node-node.ensures.work ∙ ap work_of core0 in
    let reads = sym c.in_ok-reached.was ∙ c.reached_by_touch.ensures
    ∙ (λ j. access_seen (word_outcome (work0 j) (node0 j)).access) in
    let place = c.place_of-place.ensures ∙ (λ j. old_of (work0 j).image (node0 j).lane.at) in
    let at = c.at.ensures.value ∙ ap (λ (k : Node). k.lane.at) node0 in
    let commits = c.commits.ensures ∙ ap (λ k. false || commits_when k (Some r) false)
    (c.at-kind.ensures.kind ∙ ap (kind_in t.kinds) at ∙ h.kinds ((core_of p0).nodes i).lane.at) in
    let layout = c.layout.ensures.value ∙ ap (λ (p : CoreParts). p.layout) core1
    ∙ ap (λ (w : Work). w.layout) same.work in
    let access = c.accessed_at.ensures ∙ ap (λ (l : Shape). accessed_at l r) layout in
    let node1 = c.node.ensures.value ∙ ap (λ (p : CoreParts). (core_of p).nodes c.make_silent_word.new.stretch.node) core1
    ∙ ap (core_of (core_in u.replayer)).nodes left.node in
    let stamp = c.stamp.ensures.value ∙ ap (λ (k : Node). k.stamp) node1 in
    let w : WordPassed = record {
      stamp = c.stamp.result;
      node = i;
      place = c.place_of-place.result;
      commits = c.commits.result;
      access = c.accessed_at.result;
    } in
    subst (λ k. HasTraced u (seen ++ passed_of (record w { node = k }) ∷ [])) (sym left.node)
    (word_after t u seen i c.stamp.result _ h made (sym stamp)
    (word_is work plan (core_of p0) i c.args.touch w r made.silent c.requires.touch reads place commits access) same)
