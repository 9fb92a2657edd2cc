use Rattle.one_memory.proofs.GoingLemmas.{starts}
use Rattle.one_memory.proofs.served.run_region.Goals as goal

pub loop-going-init : goal.loop-going-init
loop-going-init c = record { gone = starts _ _ c.requires.ops c.requires.count }

pub loop-going-preserved-in-Nothing : goal.loop-going-preserved-in-Nothing
loop-going-preserved-in-Nothing c = record { gone = c.nothing.ensures.goes _ _ _ _ c.op_at-op.ensures c.loop-going.invariant.gone }

pub loop-going-preserved-in-Constant : goal.loop-going-preserved-in-Constant
loop-going-preserved-in-Constant c = record { gone = c.constant.ensures.goes _ _ _ c.op_at-op.ensures c.loop-going.invariant.gone }

pub loop-going-preserved-in-Jump : goal.loop-going-preserved-in-Jump
loop-going-preserved-in-Jump c = record { gone = c.jump_by_index.ensures.goes _ _ _ c.op_at-op.ensures c.loop-going.invariant.gone }

pub returns-then-not-jump_by_register : goal.returns-then-not-jump_by_register
returns-then-not-jump_by_register c = c.jump_by_register.ensures.goes _ _ _ c.op_at-op.ensures c.loop-going.invariant.gone

pub loop-going-preserved-else-not-jump_by_register : goal.loop-going-preserved-else-not-jump_by_register
loop-going-preserved-else-not-jump_by_register c = record { gone = c.jump_by_register.ensures.goes _ _ _ c.op_at-op.ensures c.loop-going.invariant.gone }

pub loop-going-preserved-in-BranchEq : goal.loop-going-preserved-in-BranchEq
loop-going-preserved-in-BranchEq c = record { gone = c.branch-op.ensures.goes _ _ _ c.op_at-op.ensures c.loop-going.invariant.gone }

pub loop-going-preserved-in-BranchNe : goal.loop-going-preserved-in-BranchNe
loop-going-preserved-in-BranchNe c = record { gone = c.branch-op-in-BranchNe.ensures.goes _ _ _ c.op_at-op.ensures c.loop-going.invariant.gone }

pub loop-going-preserved-in-BranchLt : goal.loop-going-preserved-in-BranchLt
loop-going-preserved-in-BranchLt c = record { gone = c.branch-op-in-BranchLt.ensures.goes _ _ _ c.op_at-op.ensures c.loop-going.invariant.gone }

pub loop-going-preserved-in-BranchGe : goal.loop-going-preserved-in-BranchGe
loop-going-preserved-in-BranchGe c = record { gone = c.branch-op-in-BranchGe.ensures.goes _ _ _ c.op_at-op.ensures c.loop-going.invariant.gone }

pub loop-going-preserved-in-BranchLtu : goal.loop-going-preserved-in-BranchLtu
loop-going-preserved-in-BranchLtu c = record { gone = c.branch-op-in-BranchLtu.ensures.goes _ _ _ c.op_at-op.ensures c.loop-going.invariant.gone }

pub loop-going-preserved-in-BranchGeu : goal.loop-going-preserved-in-BranchGeu
loop-going-preserved-in-BranchGeu c = record { gone = c.branch-op-in-BranchGeu.ensures.goes _ _ _ c.op_at-op.ensures c.loop-going.invariant.gone }

pub returns-then-not-load_by : goal.returns-then-not-load_by
returns-then-not-load_by c = c.load_by.ensures.goes _ _ c.op_at-op.ensures c.loop-going.invariant.gone

pub loop-going-preserved-else-not-load_by : goal.loop-going-preserved-else-not-load_by
loop-going-preserved-else-not-load_by c = record { gone = c.load_by.ensures.goes _ _ c.op_at-op.ensures c.loop-going.invariant.gone }

pub returns-then-not-load_by-2 : goal.returns-then-not-load_by-2
returns-then-not-load_by-2 c = c.load_by-in-LoadHalf.ensures.goes _ _ c.op_at-op.ensures c.loop-going.invariant.gone

pub loop-going-preserved-else-not-load_by-2 : goal.loop-going-preserved-else-not-load_by-2
loop-going-preserved-else-not-load_by-2 c = record { gone = c.load_by-in-LoadHalf.ensures.goes _ _ c.op_at-op.ensures c.loop-going.invariant.gone }

pub returns-then-not-load_by-3 : goal.returns-then-not-load_by-3
returns-then-not-load_by-3 c = c.load_by-in-LoadWord.ensures.goes _ _ c.op_at-op.ensures c.loop-going.invariant.gone

pub loop-going-preserved-else-not-load_by-3 : goal.loop-going-preserved-else-not-load_by-3
loop-going-preserved-else-not-load_by-3 c = record { gone = c.load_by-in-LoadWord.ensures.goes _ _ c.op_at-op.ensures c.loop-going.invariant.gone }

pub returns-then-not-load_by-4 : goal.returns-then-not-load_by-4
returns-then-not-load_by-4 c = c.load_by-in-LoadByteU.ensures.goes _ _ c.op_at-op.ensures c.loop-going.invariant.gone

pub loop-going-preserved-else-not-load_by-4 : goal.loop-going-preserved-else-not-load_by-4
loop-going-preserved-else-not-load_by-4 c = record { gone = c.load_by-in-LoadByteU.ensures.goes _ _ c.op_at-op.ensures c.loop-going.invariant.gone }

pub returns-then-not-load_by-5 : goal.returns-then-not-load_by-5
returns-then-not-load_by-5 c = c.load_by-in-LoadHalfU.ensures.goes _ _ c.op_at-op.ensures c.loop-going.invariant.gone

pub loop-going-preserved-else-not-load_by-5 : goal.loop-going-preserved-else-not-load_by-5
loop-going-preserved-else-not-load_by-5 c = record { gone = c.load_by-in-LoadHalfU.ensures.goes _ _ c.op_at-op.ensures c.loop-going.invariant.gone }

pub returns-then-not-store_by : goal.returns-then-not-store_by
returns-then-not-store_by c = c.store_by.ensures.goes _ c.op_at-op.ensures c.loop-going.invariant.gone

pub loop-going-preserved-else-not-store_by : goal.loop-going-preserved-else-not-store_by
loop-going-preserved-else-not-store_by c = record { gone = c.store_by.ensures.goes _ c.op_at-op.ensures c.loop-going.invariant.gone }

pub returns-then-not-store_by-2 : goal.returns-then-not-store_by-2
returns-then-not-store_by-2 c = c.store_by-in-StoreHalf.ensures.goes _ c.op_at-op.ensures c.loop-going.invariant.gone

pub loop-going-preserved-else-not-store_by-2 : goal.loop-going-preserved-else-not-store_by-2
loop-going-preserved-else-not-store_by-2 c = record { gone = c.store_by-in-StoreHalf.ensures.goes _ c.op_at-op.ensures c.loop-going.invariant.gone }

pub returns-then-not-store_by-3 : goal.returns-then-not-store_by-3
returns-then-not-store_by-3 c = c.store_by-in-StoreWord.ensures.goes _ c.op_at-op.ensures c.loop-going.invariant.gone

pub loop-going-preserved-else-not-store_by-3 : goal.loop-going-preserved-else-not-store_by-3
loop-going-preserved-else-not-store_by-3 c = record { gone = c.store_by-in-StoreWord.ensures.goes _ c.op_at-op.ensures c.loop-going.invariant.gone }

pub loop-going-preserved-in-AddImm : goal.loop-going-preserved-in-AddImm
loop-going-preserved-in-AddImm c = record { gone = c.by_immediate.ensures.goes _ _ _ c.op_at-op.ensures c.loop-going.invariant.gone }

pub loop-going-preserved-in-SltImm : goal.loop-going-preserved-in-SltImm
loop-going-preserved-in-SltImm c = record { gone = c.by_immediate-in-SltImm.ensures.goes _ _ _ c.op_at-op.ensures c.loop-going.invariant.gone }

pub loop-going-preserved-in-SltuImm : goal.loop-going-preserved-in-SltuImm
loop-going-preserved-in-SltuImm c = record { gone = c.by_immediate-in-SltuImm.ensures.goes _ _ _ c.op_at-op.ensures c.loop-going.invariant.gone }

pub loop-going-preserved-in-XorImm : goal.loop-going-preserved-in-XorImm
loop-going-preserved-in-XorImm c = record { gone = c.by_immediate-in-XorImm.ensures.goes _ _ _ c.op_at-op.ensures c.loop-going.invariant.gone }

pub loop-going-preserved-in-OrImm : goal.loop-going-preserved-in-OrImm
loop-going-preserved-in-OrImm c = record { gone = c.by_immediate-in-OrImm.ensures.goes _ _ _ c.op_at-op.ensures c.loop-going.invariant.gone }

pub loop-going-preserved-in-AndImm : goal.loop-going-preserved-in-AndImm
loop-going-preserved-in-AndImm c = record { gone = c.by_immediate-in-AndImm.ensures.goes _ _ _ c.op_at-op.ensures c.loop-going.invariant.gone }

pub loop-going-preserved-in-SllImm : goal.loop-going-preserved-in-SllImm
loop-going-preserved-in-SllImm c = record { gone = c.by_immediate-in-SllImm.ensures.goes _ _ _ c.op_at-op.ensures c.loop-going.invariant.gone }

pub loop-going-preserved-in-SrlImm : goal.loop-going-preserved-in-SrlImm
loop-going-preserved-in-SrlImm c = record { gone = c.by_immediate-in-SrlImm.ensures.goes _ _ _ c.op_at-op.ensures c.loop-going.invariant.gone }

pub loop-going-preserved-in-SraImm : goal.loop-going-preserved-in-SraImm
loop-going-preserved-in-SraImm c = record { gone = c.by_immediate-in-SraImm.ensures.goes _ _ _ c.op_at-op.ensures c.loop-going.invariant.gone }

pub loop-going-preserved-in-Add : goal.loop-going-preserved-in-Add
loop-going-preserved-in-Add c = record { gone = c.by_registers.ensures.goes _ _ _ c.op_at-op.ensures c.loop-going.invariant.gone }

pub loop-going-preserved-in-Sub : goal.loop-going-preserved-in-Sub
loop-going-preserved-in-Sub c = record { gone = c.by_registers-in-Sub.ensures.goes _ _ _ c.op_at-op.ensures c.loop-going.invariant.gone }

pub loop-going-preserved-in-Sll : goal.loop-going-preserved-in-Sll
loop-going-preserved-in-Sll c = record { gone = c.by_registers-in-Sll.ensures.goes _ _ _ c.op_at-op.ensures c.loop-going.invariant.gone }

pub loop-going-preserved-in-Slt : goal.loop-going-preserved-in-Slt
loop-going-preserved-in-Slt c = record { gone = c.by_registers-in-Slt.ensures.goes _ _ _ c.op_at-op.ensures c.loop-going.invariant.gone }

pub loop-going-preserved-in-Sltu : goal.loop-going-preserved-in-Sltu
loop-going-preserved-in-Sltu c = record { gone = c.by_registers-in-Sltu.ensures.goes _ _ _ c.op_at-op.ensures c.loop-going.invariant.gone }

pub loop-going-preserved-in-Xor : goal.loop-going-preserved-in-Xor
loop-going-preserved-in-Xor c = record { gone = c.by_registers-in-Xor.ensures.goes _ _ _ c.op_at-op.ensures c.loop-going.invariant.gone }

pub loop-going-preserved-in-Srl : goal.loop-going-preserved-in-Srl
loop-going-preserved-in-Srl c = record { gone = c.by_registers-in-Srl.ensures.goes _ _ _ c.op_at-op.ensures c.loop-going.invariant.gone }

pub loop-going-preserved-in-Sra : goal.loop-going-preserved-in-Sra
loop-going-preserved-in-Sra c = record { gone = c.by_registers-in-Sra.ensures.goes _ _ _ c.op_at-op.ensures c.loop-going.invariant.gone }

pub loop-going-preserved-in-Or : goal.loop-going-preserved-in-Or
loop-going-preserved-in-Or c = record { gone = c.by_registers-in-Or.ensures.goes _ _ _ c.op_at-op.ensures c.loop-going.invariant.gone }

pub loop-going-preserved-in-And : goal.loop-going-preserved-in-And
loop-going-preserved-in-And c = record { gone = c.by_registers-in-And.ensures.goes _ _ _ c.op_at-op.ensures c.loop-going.invariant.gone }

pub loop-going-preserved-in-Mul : goal.loop-going-preserved-in-Mul
loop-going-preserved-in-Mul c = record { gone = c.by_registers-in-Mul.ensures.goes _ _ _ c.op_at-op.ensures c.loop-going.invariant.gone }

pub loop-going-preserved-in-Mulh : goal.loop-going-preserved-in-Mulh
loop-going-preserved-in-Mulh c = record { gone = c.by_registers-in-Mulh.ensures.goes _ _ _ c.op_at-op.ensures c.loop-going.invariant.gone }

pub loop-going-preserved-in-Mulhsu : goal.loop-going-preserved-in-Mulhsu
loop-going-preserved-in-Mulhsu c = record { gone = c.by_registers-in-Mulhsu.ensures.goes _ _ _ c.op_at-op.ensures c.loop-going.invariant.gone }

pub loop-going-preserved-in-Mulhu : goal.loop-going-preserved-in-Mulhu
loop-going-preserved-in-Mulhu c = record { gone = c.by_registers-in-Mulhu.ensures.goes _ _ _ c.op_at-op.ensures c.loop-going.invariant.gone }

pub loop-going-preserved-in-Div : goal.loop-going-preserved-in-Div
loop-going-preserved-in-Div c = record { gone = c.by_registers-in-Div.ensures.goes _ _ _ c.op_at-op.ensures c.loop-going.invariant.gone }

pub loop-going-preserved-in-Divu : goal.loop-going-preserved-in-Divu
loop-going-preserved-in-Divu c = record { gone = c.by_registers-in-Divu.ensures.goes _ _ _ c.op_at-op.ensures c.loop-going.invariant.gone }

pub loop-going-preserved-in-Rem : goal.loop-going-preserved-in-Rem
loop-going-preserved-in-Rem c = record { gone = c.by_registers-in-Rem.ensures.goes _ _ _ c.op_at-op.ensures c.loop-going.invariant.gone }

pub loop-going-preserved : goal.loop-going-preserved
loop-going-preserved c = record { gone = c.by_registers-in-Remu.ensures.goes _ _ _ c.op_at-op.ensures c.loop-going.invariant.gone }
