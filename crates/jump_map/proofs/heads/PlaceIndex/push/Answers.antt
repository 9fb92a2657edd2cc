use Rattle.jump_map.proofs.HeadLemmas.{ascends_more}
use Rattle.jump_map.proofs.heads.PlaceIndex.push.Goals as goal

pub invariant_of-self-2 : goal.invariant_of-self-2
invariant_of-self-2 c =
    let q = c.requires in
    rw c.in_ok-push.ensures.items (ascends_more 0 c.self.inside.starts.items c.args.address c.args.head c.args.single c.self.invariant (rw c.self.view_is q.above) q.head q.single)
