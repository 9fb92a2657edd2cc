use Rattle.std.proofs.Common.{ℕ, ◌+◌, ◌*◌, ap, ◌∙◌, refl, arith}
use Rattle.rv32_decode.specs.declared.Width.{Width}
use Rattle.node_memory.specs.rv32_step.Registers.{reg, registers_of}
use Rattle.node_memory.specs.micro_op.declared.micro_op.MicroOp.{MicroOp}
use Rattle.node_memory.specs.micro_op.declared.MicroKind.TheVariants as kind
use Rattle.node_memory.specs.micro_op.Micro.{sum_address}
use Rattle.node_memory.specs.jump_map.Strides.{op_of, state_look}
use Rattle.node_words.specs.declared.store_log.StoreLog.{StoreLog}
use Rattle.node_words.specs.Strides.{IsStored, checked}
use Rattle.node_words.proofs.ReachLemmas.{Code, code_of}
use Rattle.node_words.proofs.SequenceLemmas.{begins}
use Rattle.node_words.proofs.StrideLemmas.{as_many}
use Rattle.node_words.proofs.AlongLemmas.{strides_crossing}
use Rattle.node_words.proofs.WholeLemmas.{found_at, read_at, stands_low, write_goes}
use Rattle.node_words.specs.declared.exec_state.ExecState.{ExecState}
use Rattle.node_words.proofs.UndoLogLemmas.{undoable_both, undoable_left, undoable_logged, undoable_refused}
use Rattle.node_words.proofs.StrideLemmas.{store_leaves}
use Rattle.node_words.proofs.exec_state.ExecState.write.Goals as goal

-- a store that is made into a body into whose log it was noted
logged_stored : (b b' : ExecState) (log : StoreLog) (w : Width) (a v : ℕ)
    → (let m : ExecState = record b { log = log } in IsStored m w a v b') → IsStored b w a v b'
logged_stored b b' log w a v is = record { aligned = is.aligned; low = is.low; leaves = is.leaves; registers = is.registers }

pub returns-then-put_checked-clause-strides : goal.returns-then-put_checked-clause-strides
returns-then-put_checked-clause-strides c image few are =
    let b = c.args.self.now in
    let micros = c.args.micros.now in
    let at = c.args.going.now.at in
    let n = c.args.spilled in
    let there = c.requires.there in
    let x = there.x in
    let code : Code = code_of b image micros few are in
    let first = op_of kind.AddImm x.s x.base 0 x.imm in
    let look = found_at micros (at + n) _ first c.index-micros-first.is (begins micros (at + n) (state_look x.s x.t x.base x.imm) first there.look refl) in
    let table = read_at micros (at + n + 1) c.index-micros-first-then-put_checked.result (op_of kind.Constant x.t 0 0 0x80000000) (there.look 1 _ refl) in
    let access = read_at micros (at + n + 7) c.index-micros-first-2.result there.store.access there.store.there in
    let f = registers_of b.lane.registers in
    let is = c.sum_by-address.ensures ∙ ap (λ (m : MicroOp). sum_address m f) look in
    let value = c.get-value.ensures ∙ ap (λ (m : MicroOp). reg f m.rs2) access in
    let many = as_many image c.args.micros.now are in
    let inside = there.next in
    let next = c.on.ensures.at in
    let left = c.on.ensures.left in
    let some = c.requires.few in
    let last = stands_low code (at + n + 7) there.store.access there.store.there in
    strides_crossing image (checked (8 + 2 * n) (1 + n)) (6 + n) (at + n + 7) (1 + n) c.args.going.now c.on.new.self b
    c.leave.new.self (omega (arith, left)) (omega arith) refl (omega (arith, next)) (omega arith) (omega arith) (omega arith)
    (omega (arith, inside, many)) (omega (arith, next, some, last))
    (write_goes code at c.on.new.self.at n c.sum_by-address.result c.get-value.result _ _ c.args.width b c.put_checked.new.self
    c.leave.new.self refl some there (ap (λ (m : MicroOp). m.rd) look) (ap (λ (m : MicroOp). m.rd) table) is value
    (c.if-put_checked.ensures.writable refl) (logged_stored b c.put_checked.new.self c.admits.new.self c.args.width c.sum_by-address.result c.get-value.result c.if-put_checked.ensures.stores) next c.leave.ensures.lane
    c.leave.ensures.local)

pub returns-then-not-admits-clause-undoable : goal.returns-then-not-admits-clause-undoable
returns-then-not-admits-clause-undoable c =
    let b = c.args.self.now in
    let b' : ExecState = record b { log = c.admits.new.self } in
    undoable_refused b b' refl refl c.admits.ensures.on (ap (λ (x : StoreLog). x.notes.items) (c.if-not-admits.ensures.kept refl))

pub returns-then-put_checked-clause-undoable : goal.returns-then-put_checked-clause-undoable
returns-then-put_checked-clause-undoable c =
    let b = c.args.self.now in
    let m = c.put_checked.new.self in
    let a = c.sum_by-address.result in
    undoable_both b m c.leave.new.self
    (undoable_logged b m c.args.width a a c.get-value.result c.admits.new.self refl c.admits.ensures.on
    (λ on. c.if-not-admits.ensures.noted refl on 0) c.put_checked.ensures.log
    (store_leaves b m c.args.width a c.get-value.result
    (logged_stored b m c.admits.new.self c.args.width a c.get-value.result c.if-put_checked.ensures.stores) 0))
    c.leave.ensures.undoable

pub returns-else-put_checked-clause-undoable : goal.returns-else-put_checked-clause-undoable
returns-else-put_checked-clause-undoable c =
    let same = c.if-put_checked.ensures.stores in
    undoable_left c.args.self.now c.put_checked.new.self c.args.width c.sum_by-address.result c.admits.new.self
    c.admits.ensures.on (λ on. c.if-not-admits.ensures.noted refl on 0) c.put_checked.ensures.log same.0 same.1
