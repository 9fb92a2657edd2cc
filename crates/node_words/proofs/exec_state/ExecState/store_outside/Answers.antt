use Rattle.std.proofs.Common.{subst, refl}
use Rattle.node_memory.specs.exec_map.Contents.{program_of}
use Rattle.node_memory.specs.node_model.Node.{store, region_of}
use Rattle.node_memory.specs.Shelf.{ground_of, Shelf, local_of}
use Rattle.node_words.specs.Kept.{LeavesBehind, lane_of}
use Rattle.node_words.proofs.exec_state.ExecState.store_outside.Goals as goal

pub returns-then-not-store-clause-leaves : goal.returns-then-not-store-clause-leaves
returns-then-not-store-clause-leaves c at =
    subst
    (λ (o : Shelf). LeavesBehind (store (program_of o.program) (lane_of c.args.self.now.lane at) (local_of o) c.args.width c.args.address c.args.value (region_of c.args.address)) (ground_of o) at c.store_elsewhere.new.self.lane c.store_elsewhere.new.self.local)
    (c.if-not-store.ensures.elsewhere refl).0 (c.store_elsewhere.ensures.leaves at)
