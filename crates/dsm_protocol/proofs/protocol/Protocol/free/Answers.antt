-- The two buffers of a node are in its pool or belong to its waits.
use Rattle.std.proofs.Common.{◌≡◌, ◌+◌, ◌<◌, length, sym, ap, ◌∙◌, subst, arith}
use Rattle.std.proofs.lemmas.List.{get_or_default}
use Rattle.dsm_protocol.proofs.Names.{BareNode, Nodes, no_node, node_at, world_of, pending}
use Rattle.dsm_protocol.proofs.Counting.{pending_count}
use Rattle.dsm_protocol.proofs.protocol.Protocol.free.Goals as goal

pub returns : goal.returns
returns c =
    let p : Nodes = record {
      layout = c.self.inside.layout;
      nodes = c.self.inside.nodes.items;
      queues = c.self.inside.queues.items;
    } in
    let i = c.args.node in
    let r = c.self.invariant in
    let node = subst (λ (q : Nodes). i < q.layout.nodes) (sym c.self.view_is) c.requires in
    let found : BareNode = c.index-node.result.now in
    let at : found ≡ node_at p i = c.index-node.ensures
    ∙ get_or_default p.nodes i found (no_node p.layout) (omega (arith, node, r.count)) in
    let both = (r.nodes i node).buffers in
    let count = pending_count p r i node found c.index-node.ensures c.pending-pending.ensures.waits
    c.pending-pending.result c.pending-pending.ensures.count in
    let free = c.free.ensures.free in
    let waits = c.pending-pending.ensures.count in
    let same_free = ap (λ (n : BareNode). n.pool.free) at in
    let same_waits = ap (λ (n : BareNode). length n.waits.waits) at in
    subst (λ (q : Nodes). c.free.result + pending q.layout (world_of q) i ≡ 2) c.self.view_is
    (omega (arith, free, same_free, same_waits, both, count, waits))
