use Rattle.std.proofs.Common.{refl, ◌∙◌}
use Rattle.rv32_ops.specs.Operations.{alu}
use Rattle.node_memory.specs.node_model.Node.{set_register}
use Rattle.node_words.specs.declared.exec_state.ExecState.{ExecState}
use Rattle.node_words.specs.Kept.{lane_of}
use Rattle.node_words.proofs.UndoLogLemmas.{undoable_mild}
use Rattle.node_words.proofs.exec_state.ExecState.put_result.Goals as goal

pub returns-clause-lane : goal.returns-clause-lane
returns-clause-lane c at =
    let l = lane_of c.args.self.now.lane at in
    let value = c.alu-value.ensures ∙ (λ t. alu c.args.o (c.get-a.ensures t) (c.get.ensures t)) in
    (λ t. record l { registers = c.set.ensures t }) ∙ (λ t. set_register l c.args.rd (value t))

pub returns-clause-undoable : goal.returns-clause-undoable
returns-clause-undoable c =
    let b = c.args.self.now in
    let b' : ExecState = record b { lane = record b.lane { registers = c.set.new.self } } in
    undoable_mild b b' refl refl refl refl
