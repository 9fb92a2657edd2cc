use Rattle.std.proofs.Common.{◌≡◌, ◌+◌, ap, ◌∙◌, refl, arith}
use Rattle.std.specs.Prelude.{slice_index_or}
use Rattle.node_memory.specs.rv32_step.Registers.{registers_of}
use Rattle.node_memory.specs.micro_op.declared.micro_op.MicroOp.{MicroOp}
use Rattle.node_memory.specs.micro_op.declared.MicroKind.TheVariants as kind
use Rattle.node_memory.specs.micro_op.Micro.{sum_address}
use Rattle.node_memory.specs.jump_map.Strides.{flag_look, op_of}
use Rattle.node_memory.specs.node_model.Node.{ProcessorState, set_register}
use Rattle.node_words.specs.Kept.{lane_of}
use Rattle.node_words.specs.Strides.{flagged}
use Rattle.node_words.proofs.ReachLemmas.{Code, code_of}
use Rattle.node_words.proofs.SequenceLemmas.{begins}
use Rattle.node_words.proofs.StrideLemmas.{as_many}
use Rattle.node_words.proofs.AlongLemmas.{strides_crossing}
use Rattle.node_words.proofs.WholeLemmas.{flag_goes, found_at, read_at, stands_low}
use Rattle.node_words.specs.declared.exec_state.ExecState.{ExecState}
use Rattle.node_words.proofs.UndoLogLemmas.{undoable_both, undoable_mild}
use Rattle.node_words.proofs.exec_state.ExecState.flag.Goals as goal

pub returns-in-Some-clause-strides : goal.returns-in-Some-clause-strides
returns-in-Some-clause-strides c image few are =
    let b = c.args.self.now in
    let micros = c.args.micros.now in
    let at = c.args.going.now.at in
    let n = c.args.spilled in
    let there = c.requires.there in
    let code : Code = code_of b image micros few are in
    let first = op_of kind.AddImm there.s there.base 0 there.imm in
    let look = found_at micros (at + n) _ first c.index-micros-first.is
    (begins micros (at + n) (flag_look (at + n) there.s there.v there.base there.imm) first there.look refl) in
    let second = op_of kind.LoadWord there.v there.base 0 there.imm in
    let element = slice_index_or micros (at + n + 2) c.index-micros-first-in-Some.result in
    let load : element ≡ second = read_at micros (at + n + 2) c.index-micros-first-in-Some.result second (there.look 2 _ refl) in
    let is = c.sum_by.ensures ∙ ap (λ (m : MicroOp). sum_address m (registers_of b.lane.registers)) look in
    let many = as_many image c.args.micros.now are in
    let inside = there.next in
    let next = c.on.ensures.at in
    let left = c.on.ensures.left in
    let some = c.requires.few in
    let last = stands_low code (at + n + 2) second (there.look 2 _ refl) in
    strides_crossing image (flagged at n) (5 + n) (at + n + 7) n c.args.going.now c.on.new.self b _
    (omega (arith, left)) (omega arith) refl (omega (arith, next)) (omega arith) (omega arith) (omega arith)
    (omega (arith, inside, many)) (omega (arith, next, some, last))
    (flag_goes code at c.on.new.self.at n c.sum_by.result c.in-Some.value _ _ b _ refl some there
    (ap (λ (m : MicroOp). m.rd) look) (ap (λ (m : MicroOp). m.rd) load) is c.in-Some.ensures.value
    c.in-Some.ensures.unlike next
    (λ k. (λ i. record (lane_of c.leave_one.new.self.lane k) { registers = c.set.ensures i })
    ∙ ap (λ (l : ProcessorState). set_register l element.rd c.in-Some.value) (c.leave_one.ensures.lane k))
    c.leave_one.ensures.local)

pub returns-in-Some-clause-undoable : goal.returns-in-Some-clause-undoable
returns-in-Some-clause-undoable c =
    let b = c.args.self.now in
    let m = c.leave_one.new.self in
    let b' : ExecState = record m { lane = record m.lane { registers = c.set.new.self } } in
    undoable_both b m b' c.leave_one.ensures.undoable (undoable_mild m b' refl refl refl refl)
