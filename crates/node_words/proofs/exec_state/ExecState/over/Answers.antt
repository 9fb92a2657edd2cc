use Rattle.std.proofs.Common.{◌+◌, sym, ap, ◌∙◌, refl, arith}
use Rattle.rv32_ops.specs.Operations.{taken}
use Rattle.node_memory.specs.rv32_step.Registers.{reg, registers_of}
use Rattle.node_memory.specs.micro_op.declared.micro_op.MicroOp.{MicroOp}
use Rattle.node_words.proofs.ReachLemmas.{Code, code_of}
use Rattle.node_words.proofs.StrideLemmas.{as_many}
use Rattle.node_words.proofs.AlongLemmas.{strides_straight}
use Rattle.node_words.proofs.WholeLemmas.{found_at, jump_behind, over_behind, read_at, stands_low}
use Rattle.node_words.proofs.exec_state.ExecState.over.Goals as goal

pub returns-then-holds-clause-strides : goal.returns-then-holds-clause-strides
returns-then-holds-clause-strides c image few are =
    let b = c.args.self.now in
    let at = c.args.going.now.at in
    let n = c.args.behind in
    let there = c.requires.there in
    let f = registers_of b.lane.registers in
    let code : Code = code_of b image c.args.micros.now few are in
    let branch = found_at c.args.micros.now (at + n) _ there.branch c.index-micros-first.is there.there in
    let holds = sym (ap (λ (m : MicroOp). taken c.args.c (reg f m.rs1) (reg f m.rs2)) branch) ∙ sym c.holds.ensures ∙ c.if-holds.true in
    let many = as_many image c.args.micros.now are in
    let inside = there.next in
    let next = c.on.ensures.at in
    let some = c.requires.few in
    let last = stands_low code (at + n + 1) there.jump.jump there.jump.there in
    strides_straight image (n + 1) (2 + n) (n + 1) c.args.going.now c.on.new.self b b c.on.ensures.left (omega arith) (omega arith)
    (omega arith) (omega (arith, inside, many)) (omega (arith, next, some, last)) (over_behind code at c.on.new.self.at n c.args.c b refl c.requires.few c.requires.polls there holds next)

pub returns-else-holds-clause-strides : goal.returns-else-holds-clause-strides
returns-else-holds-clause-strides c image few are =
    let b = c.args.self.now in
    let at = c.args.going.now.at in
    let n = c.args.behind in
    let there = c.requires.there in
    let f = registers_of b.lane.registers in
    let code : Code = code_of b image c.args.micros.now few are in
    let branch = found_at c.args.micros.now (at + n) _ there.branch c.index-micros-first.is there.there in
    let many = as_many image c.args.micros.now are in
    let inside = there.next in
    let jump = read_at c.args.micros.now (at + n + 1) c.index-micros-first-else-holds.result there.jump.jump there.jump.there in
    let fails = sym (ap (λ (m : MicroOp). taken c.args.c (reg f m.rs1) (reg f m.rs2)) branch) ∙ sym c.holds.ensures ∙ c.if-holds.false in
    strides_straight image (n + 2) (2 + n) (n + 2) c.args.going.now c.to.new.self b b c.to.ensures.left (omega arith) (omega arith)
    (omega arith) (omega (arith, inside, many)) c.to.ensures.low (jump_behind code at c.to.new.self.at n c.args.c b refl c.requires.few c.requires.polls there fails
    (c.to.ensures.at ∙ ap (λ (m : MicroOp). m.imm) jump))

pub returns-else-holds-clause-inside : goal.returns-else-holds-clause-inside
returns-else-holds-clause-inside c =
    let there = c.requires.there.jump in
    let is = read_at c.args.micros.now (c.args.going.now.at + c.args.behind + 1) c.index-micros-first-else-holds.result there.jump
    there.there in
    let at = c.to.ensures.at ∙ ap (λ (m : MicroOp). m.imm) is in
    let inside = there.inside in
    omega (arith, at, inside)
