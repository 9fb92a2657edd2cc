use Rattle.std.proofs.Common.{◌≡◌, ℕ, ◌+◌, ◌/◌, ◌<◌, ◌^◌, sym, ap, ◌∙◌, subst, refl}
use Rattle.std.specs.Prelude.{bit_and, bit_or}
use Rattle.node_memory.specs.rv32_step.Registers.{registers_of}
use Rattle.node_memory.specs.micro_op.declared.micro_op.MicroOp.{MicroOp}
use Rattle.node_memory.specs.micro_op.declared.MicroKind.TheVariants as kind
use Rattle.node_memory.specs.micro_op.Micro.{sum_address}
use Rattle.node_memory.specs.jump_map.Strides.{op_of, second_look, state_look}
use Rattle.node_memory.specs.Shelf.{local_of}
use Rattle.node_words.specs.Kept.{lane_of}
use Rattle.node_words.specs.Strides.{left_by_head, left_one, state_at}
use Rattle.node_words.proofs.SequenceLemmas.{begins}
use Rattle.node_words.proofs.WholeLemmas.{found_at, read_at}
use Rattle.node_words.proofs.UndoLogLemmas.{undoable_both}
use Rattle.node_words.proofs.exec_state.ExecState.head.Goals as goal

pub returns-in-Some-clause-lane : goal.returns-in-Some-clause-lane
returns-in-Some-clause-lane c done there k =
    let b = c.args.self.now in
    let micros = c.args.micros.now in
    let first = c.args.going.now.at + c.args.spilled in
    let n = c.args.spilled in
    let x = there.x in
    let f = registers_of b.lane.registers in
    let one = op_of kind.AddImm x.s x.base 0 x.imm in
    let other = op_of kind.AddImm there.u x.base 0 there.high in
    let low = found_at micros first _ one c.index-micros-first.is (begins micros first (state_look x.s x.t x.base x.imm) one there.looks.low_look refl) in
    let table = read_at micros (first + 1) c.index-micros-first-in-Some.result (op_of kind.Constant x.t 0 0 0x80000000) (there.looks.low_look 1 _ refl) in
    let high = found_at micros (first + 5) _ other c.index-micros-first-2.is
    (begins micros (first + 5) (second_look x.s x.t there.u x.base there.high) other there.looks.high_look refl) in
    let state : c.from.result ≡ state_at b x.base there.high =
    c.from.ensures ∙ c.in-Some.ensures.state
    ∙ ap (λ (a : ℕ). (local_of b.local).state (a / 64)) (c.sum_by-2.ensures ∙ ap (λ (m : MicroOp). sum_address m f) high) in
    c.leave_one-in-Some-2.ensures.lane k
    ∙ ap (left_one _ 2 _ c.from.result) (c.leave_one-in-Some.ensures.lane k
    ∙ ap (left_one _ 1 _ 0x80000000) (c.leave_one.ensures.lane k))
    ∙ (λ i. left_by_head n (low i).rd (table i).rd (high i).rd (state i) (lane_of b.lane k))

pub returns-in-Some-clause-clear : goal.returns-in-Some-clause-clear
returns-in-Some-clause-clear c done there =
    let b = c.args.self.now in
    let micros = c.args.micros.now in
    let first = c.args.going.now.at + c.args.spilled in
    let x = there.x in
    let f = registers_of b.lane.registers in
    let one = op_of kind.AddImm x.s x.base 0 x.imm in
    let other = op_of kind.AddImm there.u x.base 0 there.high in
    let low = found_at micros first _ one c.index-micros-first.is (begins micros first (state_look x.s x.t x.base x.imm) one there.looks.low_look refl) in
    let high = found_at micros (first + 5) _ other c.index-micros-first-2.is
    (begins micros (first + 5) (second_look x.s x.t there.u x.base there.high) other there.looks.high_look refl) in
    let s1 = ap (λ (a : ℕ). (local_of b.local).state (a / 64)) (c.sum_by.ensures ∙ ap (λ (m : MicroOp). sum_address m f) low) in
    let s2 : c.in-Some.state ≡ state_at b x.base there.high =
    c.in-Some.ensures.state
    ∙ ap (λ (a : ℕ). (local_of b.local).state (a / 64)) (c.sum_by-2.ensures ∙ ap (λ (m : MicroOp). sum_address m f) high) in
    sym (λ i. bit_and (bit_or (s1 i) (s2 i)) c.args.bits) ∙ c.in-Some.ensures.clear

pub returns-in-Some-clause-small : goal.returns-in-Some-clause-small
returns-in-Some-clause-small c done there =
    let b = c.args.self.now in
    let micros = c.args.micros.now in
    let first = c.args.going.now.at + c.args.spilled in
    let x = there.x in
    let f = registers_of b.lane.registers in
    let one = op_of kind.AddImm x.s x.base 0 x.imm in
    let other = op_of kind.AddImm there.u x.base 0 there.high in
    let low = found_at micros first _ one c.index-micros-first.is (begins micros first (state_look x.s x.t x.base x.imm) one there.looks.low_look refl) in
    let high = found_at micros (first + 5) _ other c.index-micros-first-2.is
    (begins micros (first + 5) (second_look x.s x.t there.u x.base there.high) other there.looks.high_look refl) in
    let s1 = ap (λ (a : ℕ). (local_of b.local).state (a / 64)) (c.sum_by.ensures ∙ ap (λ (m : MicroOp). sum_address m f) low) in
    let s2 : c.in-Some.state ≡ state_at b x.base there.high =
    c.in-Some.ensures.state
    ∙ ap (λ (a : ℕ). (local_of b.local).state (a / 64)) (c.sum_by-2.ensures ∙ ap (λ (m : MicroOp). sum_address m f) high) in
    subst (λ (n : ℕ). n < 2 ^ 8) (λ i. bit_or (s1 i) (s2 i)) c.in-Some.ensures.small

pub returns-in-Some-clause-undoable : goal.returns-in-Some-clause-undoable
returns-in-Some-clause-undoable c =
    let b = c.args.self.now in
    let one = c.leave_one.new.self in
    let two = c.leave_one-in-Some.new.self in
    undoable_both b two c.leave_one-in-Some-2.new.self
    (undoable_both b one two c.leave_one.ensures.undoable c.leave_one-in-Some.ensures.undoable)
    c.leave_one-in-Some-2.ensures.undoable
