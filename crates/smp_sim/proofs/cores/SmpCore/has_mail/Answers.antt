-- The lists that are stored are those of the core.
use Rattle.std.proofs.Common.{◌≡◌, ℕ, ◌<◌, false, List, [], sym, subst}
use Rattle.lane_law.specs.dsm_protocol.Queue.{AreQueues, Queue, wires_of}
use Rattle.lane_model.specs.Nodes.{node_of, processors}
use Rattle.smp_sim.specs.CoreParts.{CoreParts, core_of, work_of}
use Rattle.smp_sim.proofs.CoreRuns.{placed}
use Rattle.smp_sim.proofs.cores.SmpCore.has_mail.Goals as goal

pub nonzero_div-node : goal.nonzero_div-node
nonzero_div-node c = c.self.invariant.work.some

pub has_mail-requires-clause-queues : goal.has_mail-requires-clause-queues
has_mail-requires-clause-queues c =
    subst (λ (qs : List Queue). AreQueues qs c.nodes-count.result) (sym c.deref.ensures.value)
    (subst (AreQueues c.self.inside.lists.items) (sym c.nodes-count.ensures.nodes) c.self.invariant.stored.queues)

pub has_mail-requires-clause-node : goal.has_mail-requires-clause-node
has_mail-requires-clause-node c =
    let p : CoreParts = record {
      program = c.self.inside.work.program.now;
      image = c.self.inside.work.image.now;
      layout = c.self.inside.work.layout.now;
      budget = c.self.inside.work.budget;
      lanes = c.self.inside.work.lanes;
      nodes = c.self.inside.nodes.items;
      lists = c.self.inside.lists.items;
      output = c.self.inside.output.items;
    } in
    let low = subst (λ (q : CoreParts). c.args.processor < processors (work_of q)) (sym c.self.view_is)
    c.requires.processor in
    subst (λ z. node_of (work_of p) c.args.processor < z) (sym c.nodes-count.ensures.nodes)
    (placed (work_of p) c.args.processor c.self.invariant.work.some low)

pub returns : goal.returns
returns c =
    let p : CoreParts = record {
      program = c.self.inside.work.program.now;
      image = c.self.inside.work.image.now;
      layout = c.self.inside.work.layout.now;
      budget = c.self.inside.work.budget;
      lanes = c.self.inside.work.lanes;
      nodes = c.self.inside.nodes.items;
      lists = c.self.inside.lists.items;
      output = c.self.inside.output.items;
    } in
    let i = node_of (work_of p) c.args.processor in
    let given = subst (λ n. c.has_mail.result ≡ false
    → (j : ℕ) → j < n → wires_of c.deref.result.now n j i ≡ []) c.nodes-count.ensures.nodes
    c.has_mail.ensures.value.0 in
    let stored = subst (λ (qs : List Queue). c.has_mail.result ≡ false
    → (j : ℕ) → j < p.layout.nodes → wires_of qs p.layout.nodes j i ≡ []) c.deref.ensures.value
    given in
    subst (λ (q : CoreParts). c.has_mail.result ≡ false
    → (j : ℕ) → j < q.layout.nodes → (core_of q).list j (node_of (work_of q) c.args.processor) ≡ [])
    c.self.view_is stored
