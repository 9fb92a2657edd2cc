use Rattle.std.proofs.Common.{refl, ap, ◌≡◌, subst, ℕ, ◌+◌, ◌/◌, ◌*◌, ◌%◌, ◌^◌, arith}
use Rattle.node_memory.specs.exec_map.Contents.{program_of}
use Rattle.node_memory.specs.rv32_step.Demands.{demand_of}
use Rattle.node_memory.specs.rv32_step.Registers.{reg, registers_of}
use Rattle.node_memory.specs.jump_map.Image.{address_of_word}
use Rattle.node_memory.specs.node_model.Node.{To, native, indirect, miss_r, miss_w, prepare}
use Rattle.node_words.specs.Address.{word_address}
use Rattle.node_memory.specs.Shelf.{ground_of, local_of}
use Rattle.node_words.specs.Kept.{Does, lane_of}
use Rattle.node_words.proofs.exec_state.ExecState.execute.Goals as goal

pub returns-in-Native-clause-does : goal.returns-in-Native-clause-does
returns-in-Native-clause-does c =
    let b = c.args.self.now in
    rw c.in-Native.is (subst
    (λ (x : ℕ). Does (native (program_of b.local.program) c.args.place x (lane_of b.lane x) (local_of b.local) (demand_of c.in-Native.i (registers_of b.lane.registers) x)) (ground_of b.local) x c.native.new.self.lane c.native.new.self.local c.native.result)
    c.address_of.ensures c.native.ensures.does)

pub returns-in-Call-clause-does : goal.returns-in-Call-clause-does
returns-in-Call-clause-does c = rw c.in-Call.is (c.call.ensures.does (word_address c.args.at))

pub returns-in-Xjalr-clause-does : goal.returns-in-Xjalr-clause-does
returns-in-Xjalr-clause-does c =
    let b = c.args.self.now in
    let at = word_address c.args.at in
    rw c.in-Xjalr.is (subst
    (λ (x : ℕ). Does (indirect c.args.place (lane_of b.lane at) (local_of b.local) c.in-Xjalr.rd (x / 2 * 2)) (ground_of b.local) at c.indirect.new.self.lane c.indirect.new.self.local c.indirect.result)
    c.sum-in-Xjalr.ensures (c.indirect.ensures.does at))

pub returns-in-MissR-clause-does : goal.returns-in-MissR-clause-does
returns-in-MissR-clause-does c =
    let b = c.args.self.now in
    let at = word_address c.args.at in
    rw c.in-MissR.is (subst
    (λ (x : ℕ). Does (miss_r c.args.place (lane_of b.lane at) (local_of b.local) c.in-MissR.width x) (ground_of b.local) at b.lane b.local c.miss_r.result)
    c.sum.ensures (c.miss_r.ensures at))

pub returns-in-MissW-clause-does : goal.returns-in-MissW-clause-does
returns-in-MissW-clause-does c =
    let b = c.args.self.now in
    let at = word_address c.args.at in
    rw c.in-MissW.is (subst
    (λ (x : ℕ). Does (miss_w c.args.place (lane_of b.lane at) (local_of b.local) c.in-MissW.width x) (ground_of b.local) at b.lane b.local c.miss_w.result)
    c.sum-in-MissW.ensures (c.miss_w.ensures at))

pub returns-in-Batch-clause-does : goal.returns-in-Batch-clause-does
returns-in-Batch-clause-does c = rw c.in-Batch.is c.batch.ensures.does

pub returns-in-Far-clause-does : goal.returns-in-Far-clause-does
returns-in-Far-clause-does c =
    let value = c.value.ensures.value in
    let small = c.value.ensures.small in
    let same : word_address c.value.result ≡ address_of_word c.in-Far.number = omega (arith, value, small) in
    rw (c.in-Far.is, c.only_moves-in-Far.ensures) (record {
      leaves = record { lane = refl; local = refl; ground_same = refl };
      output = refl;
      tally = refl;
      move = ap (λ x. To x) same;
    })

pub returns-in-Prepare-clause-does : goal.returns-in-Prepare-clause-does
returns-in-Prepare-clause-does c =
    let b = c.args.self.now in
    let at = word_address c.args.at in
    let value = c.get.ensures in
    let fits = c.get.type_inv in
    let same : c.get.result ≡ (reg (registers_of b.lane.registers) c.in-Prepare.rs1 + 0) % 2 ^ 32 = omega (arith, value, fits) in
    rw c.in-Prepare.is (subst
    (λ (x : ℕ). Does (prepare c.args.place (lane_of b.lane at) (local_of b.local) x) (ground_of b.local) at b.lane b.local c.prepare.result)
    same (c.prepare.ensures at))
