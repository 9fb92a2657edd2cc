use Rattle.arrayvec.specs.ArrayVec.{array_vec_len}
use Rattle.message_queues.proofs.Sending.{HaveSentTo}
use Rattle.message_queues.proofs.channel.send_all.Given as goal

abbrev pub invariant-loop-sends : goal.invariant-loop-sends
invariant-loop-sends g l = record {
  sent : HaveSentTo g.C.Channel.has_sent g.C.Channel.has_room l.fn.channels.items l.channels.items
      l.first l.nodes l.stamp l.fn.sends.items l.sends.items;
}

abbrev pub decreases-loop-sends : goal.decreases-loop-sends
decreases-loop-sends g l = array_vec_len l.sends
