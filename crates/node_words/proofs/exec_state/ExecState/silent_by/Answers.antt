use Rattle.std.proofs.Common.{◌≡◌, ◌+◌, ◌/◌, ◌*◌, ◌%◌, ◌^◌, ℕ, subst, arith}
use Rattle.node_memory.specs.rv32_step.Registers.{reg, registers_of}
use Rattle.node_memory.specs.node_model.Node.{batch, indirect, miss_w, need_of_run, prepare}
use Rattle.node_words.specs.Address.{word_address}
use Rattle.node_memory.specs.Shelf.{local_of}
use Rattle.node_words.specs.Kept.{StepsOr, lane_of}
use Rattle.node_words.proofs.exec_state.ExecState.silent_by.Goals as goal

pub returns-in-Xjalr-clause-steps : goal.returns-in-Xjalr-clause-steps
returns-in-Xjalr-clause-steps c =
    let b = c.args.self.now in
    rw c.in-Xjalr.is (subst
    (λ (x : ℕ). StepsOr c.args.image.now (indirect c.args.place (lane_of b.lane (word_address c.args.at)) (local_of b.local) c.in-Xjalr.rd (x / 2 * 2)) b.lane b.local c.enter_from.new.self.lane c.enter_from.new.self.local c.enter_from.result)
    c.sum.ensures (c.enter_from.ensures.steps c.args.at))

pub returns-in-Native-clause-steps : goal.returns-in-Native-clause-steps
returns-in-Native-clause-steps c = rw c.in-Native.is (c.silent_native.ensures.steps c.args.image.now)

pub returns-in-MissW-clause-steps : goal.returns-in-MissW-clause-steps
returns-in-MissW-clause-steps c =
    let b = c.args.self.now in
    let at = word_address c.args.at in
    let here = λ (x : ℕ). miss_w c.args.place (lane_of b.lane at) (local_of b.local) c.in-MissW.width x in
    rw c.in-MissW.is
    (subst (λ (x : ℕ). StepsOr c.args.image.now (here x) b.lane b.local b.lane b.local c.silent_check.result)
    c.sum-in-MissW.ensures
    (c.silent_check.ensures c.args.image.now (here c.sum-in-MissW.result) b.lane b.local (c.miss_w.ensures at)))

pub returns-in-Prepare-clause-steps : goal.returns-in-Prepare-clause-steps
returns-in-Prepare-clause-steps c =
    let b = c.args.self.now in
    let at = word_address c.args.at in
    let value = c.get.ensures in
    let fits = c.get.type_inv in
    let same : c.get.result ≡ (reg (registers_of b.lane.registers) c.in-Prepare.rs1 + 0) % 2 ^ 32 = omega (arith, value, fits) in
    let here = λ (x : ℕ). prepare c.args.place (lane_of b.lane at) (local_of b.local) x in
    rw c.in-Prepare.is
    (subst (λ (x : ℕ). StepsOr c.args.image.now (here x) b.lane b.local b.lane b.local c.silent_check-in-Prepare.result)
    same
    (c.silent_check-in-Prepare.ensures c.args.image.now (here c.get.result) b.lane b.local (c.prepare.ensures at)))

pub returns-in-Batch-clause-steps : goal.returns-in-Batch-clause-steps
returns-in-Batch-clause-steps c =
    let b = c.args.self.now in
    let registers = registers_of b.lane.registers in
    rw c.in-Batch.is (c.silent_check-in-Batch.ensures c.args.image.now
    (batch (lane_of b.lane (word_address c.args.at)) (local_of b.local) (need_of_run c.in-Batch.stores) (reg registers c.in-Batch.rs1) (reg registers c.in-Batch.rs2))
    b.lane b.local c.batch.ensures.does)
