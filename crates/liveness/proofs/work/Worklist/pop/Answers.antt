use Rattle.std.proofs.Common.{◌<◌, length, rules}
use Rattle.liveness.proofs.MarksLemmas.{popped_flag, flag_within}
use Rattle.liveness.proofs.work.Worklist.pop.Goals as goal

pub index_mut-requires : goal.index_mut-requires
index_mut-requires c =
    let h : c.in_ok-i.i < length c.args.self.now.queued.items = flag_within _ _ (popped_flag _ c.pop.new.self.items c.args.self.now.queued.items c.in_ok-i.i c.args.self.now.once c.in_ok-i.ensures.items).0 in
    search rules
