use Rattle.std.proofs.Common.{arith}
use Rattle.node_threads.proofs.Outboxes.{queued}
use Rattle.node_threads.proofs.worker.queue_sends.Goals as goal

pub returns-clause-wires : goal.returns-clause-wires
returns-clause-wires c = queued c.args.outboxes.now.items c.send_all.new.channels.items c.args.stamp
    c.args.sends.now.items c.send_all.ensures.count (λ to o low.
    let nodes = c.len-nodes.ensures in
    c.in_ok-send_all.ensures.sent to o (omega (arith, low, nodes)))
