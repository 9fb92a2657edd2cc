-- A take, by what is seen of it.
use Rattle.std.proofs.Common.{◌≡◌, ◌<◌, ◌∷◌, map, ap, sym, subst, ◌∙◌}
use Rattle.block_layout.specs.Layout.{Shape}
use Rattle.replay.specs.node_model.home_directory.dsm_messages.Headers.{header_of, sent_by}
use Rattle.replay.specs.node_model.Node.{Work, Node}
use Rattle.replay.specs.node_model.Core.{Event, May}
use Rattle.replay.specs.run_order.OwnRun.{node_of as event_node}
use Rattle.replay.specs.dsm_core.declared.seen.Incoming.{Incoming}
use Rattle.replay.specs.dsm_core.CoreParts.{CoreParts, core_of}
use Rattle.replay.specs.dsm_core.Seen.{incoming_of, sends_of_take}
use Rattle.replay.specs.Way.{core_in}
use Rattle.run_trace.specs.Taking.{IsAfterTake, sight_of, block_of_first}
use Rattle.run_trace.specs.Given.{take_of}
use Rattle.run_trace.specs.Tracing.{work_traced, plan_traced}
use Rattle.run_trace.proofs.Tracings.{take_traced_at, take_node}
use Rattle.run_trace.proofs.tracer.Tracer.take.Goals as goal

pub unreachable-requires : goal.unreachable-requires
unreachable-requires c =
    let r = c.requires.running in
    let m = c.in_ok-seen.ensures.made r.way.0 (record { lawful = r.lawful; nodes = r.nodes; way = r.way.1 }) in
    m.may.3 (ap (λ (p : CoreParts). (core_of p).list c.args.from c.args.node) (sym c.core-core.ensures.value)
    ∙ c.in_default.ensures.value)

pub returns-clause-made : goal.returns-clause-made
returns-clause-made c = λ before h.
    let t = c.args.self.now in
    let i = c.args.node in
    let j = c.args.from in
    let p0 = core_in t.replayer in
    let p1 = core_in c.make.new.self in
    let work = work_traced t in
    let plan = plan_traced t in
    let layout = work.layout in
    let n = (core_of p0).nodes i in
    let m = c.in_ok-seen.ensures.made before h in
    let same = c.in_ok-seen.ensures.same in
    let bi : i < p0.layout.nodes = subst (λ k. i < k) (sym h.nodes) c.requires.next.node in
    let core0 = c.core-core.ensures.value in
    let core1 = c.core-core-2.ensures.value in
    let first = c.in-Some.ensures.value in
    let wire = first.0 in
    let rest = first.1 in
    let b = (header_of wire.message).block in
    let front : (core_of p0).list j i ≡ wire ∷ rest =
    ap (λ (p : CoreParts). (core_of p).list j i) (sym core0) ∙ first.2 in
    let incoming : c.in-Some.incoming ≡ incoming_of wire = first.3 in
    let block : c.block_in-block.result ≡ b =
    c.block_in-block.ensures ∙ ap block_of_first c.in-Some.is ∙ ap (λ (x : Incoming). x.header.block) incoming in
    let node = c.node-after.ensures.value ∙ ap (λ (p : CoreParts). (core_of p).nodes i) core1 in
    let led = node ∙ m.leads.nodes i bi ∙ take_node work (core_of p0) i j wire rest front in
    let layout1 = λ (l : Shape) (is : l ≡ c.core-core-2.result.now.layout).
    is ∙ ap (λ (p : CoreParts). p.layout) core1 ∙ ap (λ (w : Work). w.layout) same.work in
    let was = c.node.ensures.value ∙ ap (λ (p : CoreParts). (core_of p).nodes i) core0 in
    let layout0 = c.layout.ensures.value ∙ ap (λ (p : CoreParts). p.layout) core0 in
    let all : IsAfterTake work n j wire c.in-Some.incoming c.sight_of-before.result c.in_ok-seen.seen c.sight_of-now.result c.nodes-nodes.result = record {
      incoming = incoming;
      seen_before = c.sight_of-before.ensures ∙ (λ x. sight_of (layout0 x) (was x) (block x));
      sends = m.seen.sends ∙ ap (λ ws. map sent_by (sends_of_take work n j ws)) front;
      seen_after = c.sight_of-now.ensures ∙ (λ x. sight_of (layout1 _ c.layout-2.ensures.value x) (led x) (block x));
      count = c.nodes-nodes.ensures.nodes ∙ ap (λ (l : Shape). l.nodes) (layout1 _ c.layout-3.ensures.value);
    } in
    record {
      told = m.told;
      event_is = m.event_is;
      made = m.made;
      may = subst (λ e. May work (core_of p0) e) (sym m.event_is) m.may;
      is = take_traced_at work plan (core_of p0) m.told.what i j c.stamp.result wire rest (take_of c.take_traced.result) m.event_is
          (sym m.stamp ∙ ap (λ (e : Event). ((core_of p1).nodes (event_node e)).stamp) m.event_is
          ∙ sym (ap (λ (k : Node). k.stamp) node) ∙ sym c.stamp.ensures.value) front
          (sym (c.take_traced.ensures work n wire all));
    }
