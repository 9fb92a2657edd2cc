use Rattle.std.proofs.Common.{◌≡◌, ◌+◌, ◌*◌, length, arith}
use Rattle.std.proofs.lemmas.Option.{slice_get-get_or}
use Rattle.liveness.proofs.ChainLemmas.{leads_more}
use Rattle.liveness.proofs.SetLemmas.{blank}
use Rattle.liveness.proofs.back.Predecessors.of.Goals as goal

pub loop-node-preserved : goal.loop-node-preserved
loop-node-preserved c =
    let inv = c.loop-node.invariant in
    let e1 = c.in_ok-add.ensures in
    let e2 = c.in_ok-add-2.ensures in
    let len1 : length c.add.new.self.links.items ≡ 2 * c.loop-node.node-index + 1 = omega (arith, inv.links, e1.links) in
    let len2 : length c.add-in-loop-node.new.self.links.items ≡ 2 * (c.loop-node.node-index + 1) = omega (arith, len1, e2.links) in
    let heads1 : length c.add.new.self.heads.items ≡ length c.loop-node.back.heads.items = e1.heads in
    let heads2 : length c.add-in-loop-node.new.self.heads.items ≡ length c.loop-node.back.heads.items = omega (arith, heads1, e2.heads) in
    record {
      heads = omega (arith, heads2, inv.heads);
      links = len2;
      each = leads_more c.args.nodes.now c.loop-node.node-index _ c.loop-node.back.heads.items c.loop-node.back.links.items c.add.new.self.heads.items c.add.new.self.links.items c.add-in-loop-node.new.self.heads.items c.add-in-loop-node.new.self.links.items
          inv.each (slice_get-get_or c.args.nodes.now c.loop-node.node-index blank c.loop-node-test.true) inv.links len1 heads2 heads1 e1.kept e2.kept e1.added e2.added;
    }

pub returns-clause-each : goal.returns-clause-each
returns-clause-each c p b node l = c.loop-node.invariant.each p b node (omega (arith, l, c.loop-node-test.false))
