use Rattle.std.proofs.Common.{rules, arith, ◌≡◌, ◌<◌, ◌++◌, [], None, map, length, append-nil, refl, sym, subst}
use Rattle.node_threads.specs.Crew.{AllIdle}
use Rattle.node_threads.specs.declared.worker.Worker.{Worker}
use Rattle.node_threads.proofs.Hiring.{moved, idle_snoc}
use Rattle.node_threads.proofs.crew.make_workers.Goals as goal

pub nodes-preserved : goal.nodes-preserved
nodes-preserved c =
    let i = c.nodes.invariant in
    let p = c.in_ok-push.ensures.items in
    let n = c.nodes.nodes.items in
    let s0 = i.same.0 in let s1 = i.same.1 in let s2 = i.same.2 in
    let some : 0 < length n = search rules in
    let w : Worker = record {
      node = c.remove.result;
      number = c.nodes.number;
      events = 0;
      sends = c.remove-in-nodes.result;
      takes = c.remove-in-nodes-2.result;
      outboxes = c.remove-in-nodes-3.result;
      undelivered = None;
      outgoing = c.new.result;
    } in
    let l0 = c.remove.ensures.len in let l1 = c.remove-in-nodes.ensures.len in
    let l2 = c.remove-in-nodes-2.ensures.len in let l3 = c.remove-in-nodes-3.ensures.len in
    record {
      same = (omega arith, omega arith, omega arith);
      idle = subst (λ l. (vs : _) → AllIdle vs → AllIdle (l ++ vs)) (sym p)
          (idle_snoc c.nodes.workers.items w i.idle refl);
      nodes = subst (λ l. map (λ (w : Worker). w.node) l ++ c.remove.new.self.items
          ≡ c.args.nodes.items) (sym p)
          (moved _ _ (λ (w : Worker). w.node) c.nodes.workers.items w n _ _ some
          c.remove.ensures.value c.remove.ensures.items i.nodes);
      sends = subst (λ l. map (λ (w : Worker). w.sends) l ++ c.remove-in-nodes.new.self.items
          ≡ c.args.sends.items) (sym p)
          (moved _ _ (λ (w : Worker). w.sends) c.nodes.workers.items w c.nodes.sends.items _ _
          (omega arith) c.remove-in-nodes.ensures.value c.remove-in-nodes.ensures.items i.sends);
      takes = subst (λ l. map (λ (w : Worker). w.takes) l ++ c.remove-in-nodes-2.new.self.items
          ≡ c.args.takes.items) (sym p)
          (moved _ _ (λ (w : Worker). w.takes) c.nodes.workers.items w c.nodes.takes.items _ _
          (omega arith) c.remove-in-nodes-2.ensures.value c.remove-in-nodes-2.ensures.items
          i.takes);
      outboxes = subst (λ l. map (λ (w : Worker). w.outboxes) l ++ c.remove-in-nodes-3.new.self.items
          ≡ c.args.outboxes.items) (sym p)
          (moved _ _ (λ (w : Worker). w.outboxes) c.nodes.workers.items w c.nodes.outboxes.items _ _
          (omega arith) c.remove-in-nodes-3.ensures.value c.remove-in-nodes-3.ensures.items
          i.outboxes);
    }

pub returns-clause-idle : goal.returns-clause-idle
returns-clause-idle c = simp append-nil at (c.nodes.invariant.idle [] tt)
