use Rattle.std.proofs.Common.{◌+◌, ◌∙◌, ap}
use Rattle.node_memory.specs.micro_op.declared.micro_op.MicroOp.{MicroOp}
use Rattle.node_words.proofs.ReachLemmas.{code_of}
use Rattle.node_words.proofs.UndoLogLemmas.{undoable_both}
use Rattle.node_words.proofs.WholeLemmas.{found_at, op_then_op}
use Rattle.node_words.proofs.exec_state.ExecState.registers_then_add.Goals as goal

pub add-requires-clause-is : goal.add-requires-clause-is
add-requires-clause-is c =
    let there = c.requires.sum in
    ap (λ (m : MicroOp). m.kind)
    (found_at c.args.micros.now (c.args.going.now.at + 1) _ there.micro c.index-micros-going.is there.there) ∙ there.kind_is

pub returns-clause-strides : goal.returns-clause-strides
returns-clause-strides c image few are =
    let b = c.args.self.now in
    let micros = c.args.micros.now in
    let from = c.args.going.now in
    let there = c.requires.sum in
    op_then_op (code_of b image micros few are) c.args.op.now there.micro c.index-micros-going.result from c.by_registers.new.going
    c.add.new.going b c.by_registers.new.self c.add.new.self c.by_registers.result c.add.result c.requires.here there.there
    (found_at micros (from.at + 1) _ there.micro c.index-micros-going.is there.there) c.by_registers.ensures.next
    c.by_registers.ensures.done c.add.ensures.done (c.by_registers.ensures.tried image) (c.add.ensures.tried image)

pub returns-clause-undoable : goal.returns-clause-undoable
returns-clause-undoable c =
    undoable_both c.args.self.now c.by_registers.new.self c.add.new.self c.by_registers.ensures.undoable c.add.ensures.undoable
