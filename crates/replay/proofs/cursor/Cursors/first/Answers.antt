-- All nodes are below.
use Rattle.std.proofs.Common.{◌≡◌, subst, arith}
use Rattle.replay.specs.Way.{IsFirstBelow}
use Rattle.replay.proofs.cursor.Cursors.first.Goals as goal

pub returns : goal.returns
returns c =
    let w = c.args.self.now in
    let all : c.loop-node.node ≡ w.rec.now.nodes = omega arith in
    subst (λ m. IsFirstBelow w m c.loop-node.first) all c.loop-node.invariant
