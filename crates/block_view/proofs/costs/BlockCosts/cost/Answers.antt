use Rattle.std.proofs.Common.{◌≡◌, ◌∙◌, ap, arith}
use Rattle.block_view.specs.Counts.{messages_in}
use Rattle.block_view.specs.Kept.{counts_at}
use Rattle.block_view.proofs.Costing.{same_messages}
use Rattle.block_view.proofs.costs.BlockCosts.cost.Goals as goal

pub returns : goal.returns
returns c = λ counts places h.
    let all : c.loop-node.node ≡ c.args.nodes = omega arith in
    c.loop-node.invariant ∙ ap (messages_in (counts_at c.args.self.now.nodes.items)) all
    ∙ same_messages (counts_at c.args.self.now.nodes.items) counts c.args.nodes h.counted
