use Rattle.std.proofs.Common.{Bool, false, ℕ, ◌≡◌, ap, refl, subst, sym, true, ◌∙◌}
use Rattle.node_memory.specs.exec_map.Contents.{program_of}
use Rattle.rv32_decode.specs.Widths.{is_aligned}
use Rattle.node_memory.specs.node_model.Node.{region_of, store as stores_at}
use Rattle.node_memory.specs.micro_op.Micro.{Demands, sum_address}
use Rattle.node_memory.specs.rv32_step.Registers.{reg, registers_of}
use Rattle.node_memory.specs.rv32_step.declared.Demand.TheVariants.{Stores}
use Rattle.node_words.specs.declared.exec_state.ExecState.{ExecState}
use Rattle.node_words.specs.declared.store_log.StoreLog.{StoreLog}
use Rattle.node_memory.specs.Shelf.{Shelf, ground_of, local_of}
use Rattle.node_words.specs.Kept.{LeavesBehind, lane_of}
use Rattle.node_words.proofs.AccessLemmas.{shared_stored}
use Rattle.node_words.proofs.StrideLemmas.{steps_next, store_leaves, stores}
use Rattle.node_words.proofs.UndoLogLemmas.{undoable_left, undoable_logged, undoable_refused, undoable_stored}
use Rattle.node_words.proofs.exec_state.ExecState.store_by.Goals as goal

pub returns-then-not-admits-clause-undoable : goal.returns-then-not-admits-clause-undoable
returns-then-not-admits-clause-undoable c =
    let b = c.args.self.now in
    let b' : ExecState = record b { log = c.admits.new.self } in
    undoable_refused b b' refl refl c.admits.ensures.on (ap (λ (x : StoreLog). x.notes.items) (c.if-not-admits.ensures.kept refl))

pub returns-then-store_near-clause-tried : goal.returns-then-store_near-clause-tried
returns-then-store_near-clause-tried c image =
    let b = c.args.self.now in
    let s = c.store_near.new.self in
    let m : ExecState = record b { local = s } in
    let b' : ExecState = record b { local = s; log = c.admits.new.self } in
    let op = c.args.op.now in
    let a = c.sum_by-address.result in
    let v = c.get-value.result in
    let w = c.args.width in
    let near = c.if-store_near.ensures in
    let means = c.requires.means
    ∙ (λ t. Demands (Stores w (sym c.sum_by-address.ensures t) (sym c.get-value.ensures t))) in
    let stored = shared_stored b w a v s (near.aligned refl) (near.shared refl).0 (near.shared refl).1 (near.local refl)
    near.ground in
    steps_next image op (Stores w a v) c.args.going.now c.on.new.self b b' means c.on.ensures.left c.on.ensures.at
    c.requires.low (stores b b' w a v stored.aligned (store_leaves b m w a v stored))

pub returns-then-store_near-clause-undoable : goal.returns-then-store_near-clause-undoable
returns-then-store_near-clause-undoable c =
    let b = c.args.self.now in
    let s = c.store_near.new.self in
    let m : ExecState = record b { local = s } in
    let b' : ExecState = record b { local = s; log = c.admits.new.self } in
    let a = c.sum_by-address.result in
    let v = c.get-value.result in
    let w = c.args.width in
    let near = c.if-store_near.ensures in
    let stored = shared_stored b w a v s (near.aligned refl) (near.shared refl).0 (near.shared refl).1 (near.local refl)
    near.ground in
    undoable_stored b b' w a v 0 c.admits.ensures.on (λ on. c.if-not-admits.ensures.noted refl on 0)
    (store_leaves b m w a v stored 0)

pub returns-then-store_far-clause-tried : goal.returns-then-store_far-clause-tried
returns-then-store_far-clause-tried c image =
    let b = c.args.self.now in
    let b' = c.store_far.new.self in
    let op = c.args.op.now in
    let f = registers_of b.lane.registers in
    let a = sum_address op f in
    let v = reg f op.rs2 in
    let w = c.args.width in
    let far = c.if-store_far.ensures in
    let leaves = λ (at : ℕ). subst (λ (s : Shelf). LeavesBehind (stores_at (program_of s.program) (lane_of b.lane at) (local_of s) w a v (region_of a)) (ground_of s) at b'.lane b'.local)
    (c.if-store_near.ensures.elsewhere refl) (far.leaves refl at) in
    steps_next image op (Stores w a v) c.args.going.now c.on-then-store_far.new.self b b' c.requires.means
    c.on-then-store_far.ensures.left c.on-then-store_far.ensures.at c.requires.low
    (stores b b' w a v (sym c.if-store_far.ensures.aligned) leaves)

pub returns-then-store_far-clause-undoable : goal.returns-then-store_far-clause-undoable
returns-then-store_far-clause-undoable c =
    let b = c.args.self.now in
    let b' = c.store_far.new.self in
    let op = c.args.op.now in
    let f = registers_of b.lane.registers in
    let a = sum_address op f in
    let v = reg f op.rs2 in
    let w = c.args.width in
    let far = c.if-store_far.ensures in
    let leaves = subst (λ (s : Shelf). LeavesBehind (stores_at (program_of s.program) (lane_of b.lane 0) (local_of s) w a v (region_of a)) (ground_of s) 0 b'.lane b'.local)
    (c.if-store_near.ensures.elsewhere refl) (far.leaves refl 0) in
    undoable_logged b b' w c.sum_by-address.result a v c.admits.new.self c.sum_by-address.ensures
    c.admits.ensures.on (λ on. c.if-not-admits.ensures.noted refl on 0) c.store_far.ensures.log leaves

pub returns-else-store_far-clause-undoable : goal.returns-else-store_far-clause-undoable
returns-else-store_far-clause-undoable c =
    let b = c.args.self.now in
    let b' = c.store_far.new.self in
    let same = c.if-store_far.ensures.same refl in
    undoable_left b b' c.args.width c.sum_by-address.result c.admits.new.self c.admits.ensures.on
    (λ on. c.if-not-admits.ensures.noted refl on 0) c.store_far.ensures.log same.0
    (same.1 ∙ c.if-store_near.ensures.elsewhere refl)

pub returns-else-store_far-clause-log : goal.returns-else-store_far-clause-log
returns-else-store_far-clause-log c is = c.store_far.ensures.log ∙ still c.args.self.now.log.on refl
  where
    still : (t : Bool) → c.args.self.now.log.on ≡ t → c.admits.new.self ≡ c.args.self.now.log
    still true on =
        let noted = c.if-not-admits.ensures.noted refl on 0 in
        let both : true ≡ false = sym noted.aligned ∙ ap (is_aligned c.args.width) c.sum_by-address.ensures
        ∙ sym c.if-store_far.ensures.aligned in
        absurd (cc)
    still false off = c.admits.ensures.off off
