-- A word, by what is seen of it.
use Rattle.std.proofs.Common.{◌<◌, ap, sym, subst, ◌∙◌}
use Rattle.replay.specs.node_model.Node.{Work, Node}
use Rattle.replay.specs.node_model.Core.{Event, May}
use Rattle.replay.specs.run_order.OwnRun.{node_of as event_node}
use Rattle.replay.specs.node_machine.NodeState.{work_of as work_at}
use Rattle.replay.specs.dsm_core.CoreParts.{CoreParts, work_of, core_of}
use Rattle.replay.specs.Way.{core_in}
use Rattle.run_trace.specs.Kinds.{AreKindsOf}
use Rattle.run_trace.specs.Looks.{IsBefore, IsAfterWord}
use Rattle.run_trace.specs.Given.{word_of}
use Rattle.run_trace.specs.Tracing.{work_traced, plan_traced}
use Rattle.run_trace.proofs.Tracings.{exec_traced, exec_node}
use Rattle.run_trace.proofs.tracer.Tracer.word.Goals as goal

pub returns-clause-made : goal.returns-clause-made
returns-clause-made c = λ before h.
    let t = c.args.self.now in
    let i = c.args.node in
    let p0 = core_in t.replayer in
    let p1 = core_in c.make.new.self in
    let work = work_traced t in
    let plan = plan_traced t in
    let n = (core_of p0).nodes i in
    let m = c.in_ok-seen.ensures.made before h in
    let same = c.in_ok-seen.ensures.same in
    let bi : i < p0.layout.nodes = subst (λ k. i < k) (sym h.nodes) c.requires.next.node in
    let core = c.core-core.ensures.value in
    let node = c.node-after.ensures.value ∙ ap (λ (p : CoreParts). (core_of p).nodes i) core in
    let led = node ∙ m.leads.nodes i bi ∙ exec_node work (core_of p0) i in
    let work_is = c.node-after.ensures.work ∙ ap work_of core ∙ same.work in
    let before_core = c.core.ensures.value in
    let before_node = c.node.ensures.value ∙ ap (λ (p : CoreParts). (core_of p).nodes i) before_core in
    let before_work = c.node.ensures.work ∙ ap work_of before_core in
    let kinds = subst (λ (w : Work). AreKindsOf w.program plan w.image t.kinds) (sym before_work) c.requires.kinds in
    let look = subst (λ (w : Work). IsBefore w plan n c.before_word-before.result) before_work
    (subst (λ (k : Node). IsBefore (work_at c.node.result.now) plan k c.before_word-before.result) before_node
    (c.before_word-before.ensures plan kinds)) in
    let all : IsAfterWord work plan n c.before_word-before.result c.in_ok-seen.seen c.layout.result.now c.node-after.result.now = record {
      before = look;
      node = led;
      work_is = work_is;
      layout_is = c.layout.ensures.value ∙ ap (λ (p : CoreParts). p.layout) core ∙ ap (λ (w : Work). w.layout) same.work;
      sends = m.seen.sends;
      wants = m.seen.wants;
      printed = m.seen.printed;
    } in
    record {
      told = m.told;
      event_is = m.event_is;
      made = m.made;
      may = subst (λ e. May work (core_of p0) e) (sym m.event_is) m.may;
      is = exec_traced work plan (core_of p0) m.told.what i c.stamp.result (word_of c.word_traced.result) m.event_is
          (sym m.stamp ∙ ap (λ (e : Event). ((core_of p1).nodes (event_node e)).stamp) m.event_is
          ∙ sym (ap (λ (k : Node). k.stamp) node) ∙ sym c.stamp.ensures.value)
          (sym (c.word_traced.ensures work plan n all));
    }
