use Rattle.node_words.proofs.StrideLemmas.{as_many, one_word, word_strides}
use Rattle.std.proofs.Common.{arith, refl}
use Rattle.node_words.proofs.exec_state.ExecState.stride.Goals as goal

pub op_at-op-requires-clause-few : goal.op_at-op-requires-clause-few
op_at-op-requires-clause-few c =
    let same = as_many c.args.image.now c.args.micros.now c.requires.micros in
    let few = c.requires.few in
    omega (arith, same, few)

pub returns-in-Nothing-clause-tried : goal.returns-in-Nothing-clause-tried
returns-in-Nothing-clause-tried c =
    word_strides _ _ _ _ _ _ _ _ _ (one_word _ _ _ c.in-Nothing.is refl) c.requires.few c.requires.micros c.op_at-op.ensures.there (c.nothing.ensures.tried c.args.image.now)

pub returns-in-Constant-clause-tried : goal.returns-in-Constant-clause-tried
returns-in-Constant-clause-tried c =
    word_strides _ _ _ _ _ _ _ _ _ (one_word _ _ _ c.in-Constant.is refl) c.requires.few c.requires.micros c.op_at-op.ensures.there (c.constant.ensures.tried c.args.image.now)

pub returns-in-Jump-clause-tried : goal.returns-in-Jump-clause-tried
returns-in-Jump-clause-tried c =
    word_strides _ _ _ _ _ _ _ _ _ (one_word _ _ _ c.in-Jump.is refl) c.requires.few c.requires.micros c.op_at-op.ensures.there (c.jump_by.ensures.tried c.args.image.now)

pub returns-in-Link-clause-tried : goal.returns-in-Link-clause-tried
returns-in-Link-clause-tried c =
    word_strides _ _ _ _ _ _ _ _ _ (one_word _ _ _ c.in-Link.is refl) c.requires.few c.requires.micros c.op_at-op.ensures.there (c.link.ensures.tried c.args.image.now)

pub returns-in-EnterBy-clause-tried : goal.returns-in-EnterBy-clause-tried
returns-in-EnterBy-clause-tried c =
    word_strides _ _ _ _ _ _ _ _ _ (one_word _ _ _ c.in-EnterBy.is refl) c.requires.few c.requires.micros c.op_at-op.ensures.there c.enter_by.ensures.tried

pub returns-in-BranchEq-clause-tried : goal.returns-in-BranchEq-clause-tried
returns-in-BranchEq-clause-tried c =
    word_strides _ _ _ _ _ _ _ _ _ (one_word _ _ _ c.in-BranchEq.is refl) c.requires.few c.requires.micros c.op_at-op.ensures.there (c.branch-self.ensures.tried c.args.image.now)

pub returns-in-BranchNe-clause-tried : goal.returns-in-BranchNe-clause-tried
returns-in-BranchNe-clause-tried c =
    word_strides _ _ _ _ _ _ _ _ _ (one_word _ _ _ c.in-BranchNe.is refl) c.requires.few c.requires.micros c.op_at-op.ensures.there (c.branch-self-in-BranchNe.ensures.tried c.args.image.now)

pub returns-in-BranchLt-clause-tried : goal.returns-in-BranchLt-clause-tried
returns-in-BranchLt-clause-tried c =
    word_strides _ _ _ _ _ _ _ _ _ (one_word _ _ _ c.in-BranchLt.is refl) c.requires.few c.requires.micros c.op_at-op.ensures.there (c.branch-self-in-BranchLt.ensures.tried c.args.image.now)

pub returns-in-BranchGe-clause-tried : goal.returns-in-BranchGe-clause-tried
returns-in-BranchGe-clause-tried c =
    word_strides _ _ _ _ _ _ _ _ _ (one_word _ _ _ c.in-BranchGe.is refl) c.requires.few c.requires.micros c.op_at-op.ensures.there (c.branch-self-in-BranchGe.ensures.tried c.args.image.now)

pub returns-in-BranchLtu-clause-tried : goal.returns-in-BranchLtu-clause-tried
returns-in-BranchLtu-clause-tried c =
    word_strides _ _ _ _ _ _ _ _ _ (one_word _ _ _ c.in-BranchLtu.is refl) c.requires.few c.requires.micros c.op_at-op.ensures.there (c.branch-self-in-BranchLtu.ensures.tried c.args.image.now)

pub returns-in-BranchGeu-clause-tried : goal.returns-in-BranchGeu-clause-tried
returns-in-BranchGeu-clause-tried c =
    word_strides _ _ _ _ _ _ _ _ _ (one_word _ _ _ c.in-BranchGeu.is refl) c.requires.few c.requires.micros c.op_at-op.ensures.there (c.branch-self-in-BranchGeu.ensures.tried c.args.image.now)

pub returns-in-LoadByte-clause-tried : goal.returns-in-LoadByte-clause-tried
returns-in-LoadByte-clause-tried c =
    word_strides _ _ _ _ _ _ _ _ _ (one_word _ _ _ c.in-LoadByte.is refl) c.requires.few c.requires.micros c.op_at-op.ensures.there (c.load_by.ensures.tried c.args.image.now)

pub returns-in-LoadHalf-clause-tried : goal.returns-in-LoadHalf-clause-tried
returns-in-LoadHalf-clause-tried c =
    word_strides _ _ _ _ _ _ _ _ _ (one_word _ _ _ c.in-LoadHalf.is refl) c.requires.few c.requires.micros c.op_at-op.ensures.there (c.load_by-in-LoadHalf.ensures.tried c.args.image.now)

pub returns-in-LoadWord-clause-tried : goal.returns-in-LoadWord-clause-tried
returns-in-LoadWord-clause-tried c =
    word_strides _ _ _ _ _ _ _ _ _ (one_word _ _ _ c.in-LoadWord.is refl) c.requires.few c.requires.micros c.op_at-op.ensures.there (c.load_by-in-LoadWord.ensures.tried c.args.image.now)

pub returns-in-LoadByteU-clause-tried : goal.returns-in-LoadByteU-clause-tried
returns-in-LoadByteU-clause-tried c =
    word_strides _ _ _ _ _ _ _ _ _ (one_word _ _ _ c.in-LoadByteU.is refl) c.requires.few c.requires.micros c.op_at-op.ensures.there (c.load_by-in-LoadByteU.ensures.tried c.args.image.now)

pub returns-in-LoadHalfU-clause-tried : goal.returns-in-LoadHalfU-clause-tried
returns-in-LoadHalfU-clause-tried c =
    word_strides _ _ _ _ _ _ _ _ _ (one_word _ _ _ c.in-LoadHalfU.is refl) c.requires.few c.requires.micros c.op_at-op.ensures.there (c.load_by-in-LoadHalfU.ensures.tried c.args.image.now)

pub returns-in-StoreByte-clause-tried : goal.returns-in-StoreByte-clause-tried
returns-in-StoreByte-clause-tried c =
    word_strides _ _ _ _ _ _ _ _ _ (one_word _ _ _ c.in-StoreByte.is refl) c.requires.few c.requires.micros c.op_at-op.ensures.there (c.store_by.ensures.tried c.args.image.now)

pub returns-in-StoreHalf-clause-tried : goal.returns-in-StoreHalf-clause-tried
returns-in-StoreHalf-clause-tried c =
    word_strides _ _ _ _ _ _ _ _ _ (one_word _ _ _ c.in-StoreHalf.is refl) c.requires.few c.requires.micros c.op_at-op.ensures.there (c.store_by-in-StoreHalf.ensures.tried c.args.image.now)

pub returns-in-StoreWord-clause-tried : goal.returns-in-StoreWord-clause-tried
returns-in-StoreWord-clause-tried c =
    word_strides _ _ _ _ _ _ _ _ _ (one_word _ _ _ c.in-StoreWord.is refl) c.requires.few c.requires.micros c.op_at-op.ensures.there (c.store_by-in-StoreWord.ensures.tried c.args.image.now)

pub returns-in-AddImm-clause-tried : goal.returns-in-AddImm-clause-tried
returns-in-AddImm-clause-tried c =
    word_strides _ _ _ _ _ _ _ _ _ (one_word _ _ _ c.in-AddImm.is refl) c.requires.few c.requires.micros c.op_at-op.ensures.there (c.by_immediate.ensures.tried c.args.image.now)

pub returns-in-SltImm-clause-tried : goal.returns-in-SltImm-clause-tried
returns-in-SltImm-clause-tried c =
    word_strides _ _ _ _ _ _ _ _ _ (one_word _ _ _ c.in-SltImm.is refl) c.requires.few c.requires.micros c.op_at-op.ensures.there (c.by_immediate-in-SltImm.ensures.tried c.args.image.now)

pub returns-in-SltuImm-clause-tried : goal.returns-in-SltuImm-clause-tried
returns-in-SltuImm-clause-tried c =
    word_strides _ _ _ _ _ _ _ _ _ (one_word _ _ _ c.in-SltuImm.is refl) c.requires.few c.requires.micros c.op_at-op.ensures.there (c.by_immediate-in-SltuImm.ensures.tried c.args.image.now)

pub returns-in-XorImm-clause-tried : goal.returns-in-XorImm-clause-tried
returns-in-XorImm-clause-tried c =
    word_strides _ _ _ _ _ _ _ _ _ (one_word _ _ _ c.in-XorImm.is refl) c.requires.few c.requires.micros c.op_at-op.ensures.there (c.by_immediate-in-XorImm.ensures.tried c.args.image.now)

pub returns-in-OrImm-clause-tried : goal.returns-in-OrImm-clause-tried
returns-in-OrImm-clause-tried c =
    word_strides _ _ _ _ _ _ _ _ _ (one_word _ _ _ c.in-OrImm.is refl) c.requires.few c.requires.micros c.op_at-op.ensures.there (c.by_immediate-in-OrImm.ensures.tried c.args.image.now)

pub returns-in-AndImm-clause-tried : goal.returns-in-AndImm-clause-tried
returns-in-AndImm-clause-tried c =
    word_strides _ _ _ _ _ _ _ _ _ (one_word _ _ _ c.in-AndImm.is refl) c.requires.few c.requires.micros c.op_at-op.ensures.there (c.by_immediate-in-AndImm.ensures.tried c.args.image.now)

pub returns-in-SllImm-clause-tried : goal.returns-in-SllImm-clause-tried
returns-in-SllImm-clause-tried c =
    word_strides _ _ _ _ _ _ _ _ _ (one_word _ _ _ c.in-SllImm.is refl) c.requires.few c.requires.micros c.op_at-op.ensures.there (c.by_immediate-in-SllImm.ensures.tried c.args.image.now)

pub returns-in-SrlImm-clause-tried : goal.returns-in-SrlImm-clause-tried
returns-in-SrlImm-clause-tried c =
    word_strides _ _ _ _ _ _ _ _ _ (one_word _ _ _ c.in-SrlImm.is refl) c.requires.few c.requires.micros c.op_at-op.ensures.there (c.by_immediate-in-SrlImm.ensures.tried c.args.image.now)

pub returns-in-SraImm-clause-tried : goal.returns-in-SraImm-clause-tried
returns-in-SraImm-clause-tried c =
    word_strides _ _ _ _ _ _ _ _ _ (one_word _ _ _ c.in-SraImm.is refl) c.requires.few c.requires.micros c.op_at-op.ensures.there (c.by_immediate-in-SraImm.ensures.tried c.args.image.now)

pub returns-in-Add-clause-tried : goal.returns-in-Add-clause-tried
returns-in-Add-clause-tried c =
    word_strides _ _ _ _ _ _ _ _ _ (one_word _ _ _ c.in-Add.is refl) c.requires.few c.requires.micros c.op_at-op.ensures.there (c.by_registers.ensures.tried c.args.image.now)

pub returns-in-Sub-clause-tried : goal.returns-in-Sub-clause-tried
returns-in-Sub-clause-tried c =
    word_strides _ _ _ _ _ _ _ _ _ (one_word _ _ _ c.in-Sub.is refl) c.requires.few c.requires.micros c.op_at-op.ensures.there (c.by_registers-in-Sub.ensures.tried c.args.image.now)

pub returns-in-Sll-clause-tried : goal.returns-in-Sll-clause-tried
returns-in-Sll-clause-tried c =
    word_strides _ _ _ _ _ _ _ _ _ (one_word _ _ _ c.in-Sll.is refl) c.requires.few c.requires.micros c.op_at-op.ensures.there (c.by_registers-in-Sll.ensures.tried c.args.image.now)

pub returns-in-Slt-clause-tried : goal.returns-in-Slt-clause-tried
returns-in-Slt-clause-tried c =
    word_strides _ _ _ _ _ _ _ _ _ (one_word _ _ _ c.in-Slt.is refl) c.requires.few c.requires.micros c.op_at-op.ensures.there (c.by_registers-in-Slt.ensures.tried c.args.image.now)

pub returns-in-Sltu-clause-tried : goal.returns-in-Sltu-clause-tried
returns-in-Sltu-clause-tried c =
    word_strides _ _ _ _ _ _ _ _ _ (one_word _ _ _ c.in-Sltu.is refl) c.requires.few c.requires.micros c.op_at-op.ensures.there (c.by_registers-in-Sltu.ensures.tried c.args.image.now)

pub returns-in-Xor-clause-tried : goal.returns-in-Xor-clause-tried
returns-in-Xor-clause-tried c =
    word_strides _ _ _ _ _ _ _ _ _ (one_word _ _ _ c.in-Xor.is refl) c.requires.few c.requires.micros c.op_at-op.ensures.there (c.by_registers-in-Xor.ensures.tried c.args.image.now)

pub returns-in-Srl-clause-tried : goal.returns-in-Srl-clause-tried
returns-in-Srl-clause-tried c =
    word_strides _ _ _ _ _ _ _ _ _ (one_word _ _ _ c.in-Srl.is refl) c.requires.few c.requires.micros c.op_at-op.ensures.there (c.by_registers-in-Srl.ensures.tried c.args.image.now)

pub returns-in-Sra-clause-tried : goal.returns-in-Sra-clause-tried
returns-in-Sra-clause-tried c =
    word_strides _ _ _ _ _ _ _ _ _ (one_word _ _ _ c.in-Sra.is refl) c.requires.few c.requires.micros c.op_at-op.ensures.there (c.by_registers-in-Sra.ensures.tried c.args.image.now)

pub returns-in-Or-clause-tried : goal.returns-in-Or-clause-tried
returns-in-Or-clause-tried c =
    word_strides _ _ _ _ _ _ _ _ _ (one_word _ _ _ c.in-Or.is refl) c.requires.few c.requires.micros c.op_at-op.ensures.there (c.by_registers-in-Or.ensures.tried c.args.image.now)

pub returns-in-And-clause-tried : goal.returns-in-And-clause-tried
returns-in-And-clause-tried c =
    word_strides _ _ _ _ _ _ _ _ _ (one_word _ _ _ c.in-And.is refl) c.requires.few c.requires.micros c.op_at-op.ensures.there (c.by_registers-in-And.ensures.tried c.args.image.now)

pub returns-in-Mul-clause-tried : goal.returns-in-Mul-clause-tried
returns-in-Mul-clause-tried c =
    word_strides _ _ _ _ _ _ _ _ _ (one_word _ _ _ c.in-Mul.is refl) c.requires.few c.requires.micros c.op_at-op.ensures.there (c.by_registers-in-Mul.ensures.tried c.args.image.now)

pub returns-in-Mulh-clause-tried : goal.returns-in-Mulh-clause-tried
returns-in-Mulh-clause-tried c =
    word_strides _ _ _ _ _ _ _ _ _ (one_word _ _ _ c.in-Mulh.is refl) c.requires.few c.requires.micros c.op_at-op.ensures.there (c.by_slow.ensures.tried c.args.image.now)

pub returns-in-Mulhsu-clause-tried : goal.returns-in-Mulhsu-clause-tried
returns-in-Mulhsu-clause-tried c =
    word_strides _ _ _ _ _ _ _ _ _ (one_word _ _ _ c.in-Mulhsu.is refl) c.requires.few c.requires.micros c.op_at-op.ensures.there (c.by_slow-in-Mulhsu.ensures.tried c.args.image.now)

pub returns-in-Mulhu-clause-tried : goal.returns-in-Mulhu-clause-tried
returns-in-Mulhu-clause-tried c =
    word_strides _ _ _ _ _ _ _ _ _ (one_word _ _ _ c.in-Mulhu.is refl) c.requires.few c.requires.micros c.op_at-op.ensures.there (c.by_slow-in-Mulhu.ensures.tried c.args.image.now)

pub returns-in-Div-clause-tried : goal.returns-in-Div-clause-tried
returns-in-Div-clause-tried c =
    word_strides _ _ _ _ _ _ _ _ _ (one_word _ _ _ c.in-Div.is refl) c.requires.few c.requires.micros c.op_at-op.ensures.there (c.by_slow-in-Div.ensures.tried c.args.image.now)

pub returns-in-Divu-clause-tried : goal.returns-in-Divu-clause-tried
returns-in-Divu-clause-tried c =
    word_strides _ _ _ _ _ _ _ _ _ (one_word _ _ _ c.in-Divu.is refl) c.requires.few c.requires.micros c.op_at-op.ensures.there (c.by_slow-in-Divu.ensures.tried c.args.image.now)

pub returns-in-Rem-clause-tried : goal.returns-in-Rem-clause-tried
returns-in-Rem-clause-tried c =
    word_strides _ _ _ _ _ _ _ _ _ (one_word _ _ _ c.in-Rem.is refl) c.requires.few c.requires.micros c.op_at-op.ensures.there (c.by_slow-in-Rem.ensures.tried c.args.image.now)

pub returns-in-Remu-clause-tried : goal.returns-in-Remu-clause-tried
returns-in-Remu-clause-tried c =
    word_strides _ _ _ _ _ _ _ _ _ (one_word _ _ _ c.in-Remu.is refl) c.requires.few c.requires.micros c.op_at-op.ensures.there (c.by_slow-in-Remu.ensures.tried c.args.image.now)

pub returns-in-EnterBy-clause-inside : goal.returns-in-EnterBy-clause-inside
returns-in-EnterBy-clause-inside c done =
    let same = as_many c.args.image.now c.args.micros.now c.requires.micros in
    let inside = c.enter_by.ensures.inside done in
    omega (arith, same, inside)

pub returns-in-PollEnter-clause-inside : goal.returns-in-PollEnter-clause-inside
returns-in-PollEnter-clause-inside c done =
    let same = as_many c.args.image.now c.args.micros.now c.requires.micros in
    let inside = c.poll_enter.ensures.inside done in
    omega (arith, same, inside)
