-- Helps the code alone: the kind of micro-op of each operation.
use Rattle.rv32_decode.specs.declared.Op.{Op as Operation}
use Rattle.rv32_decode.specs.declared.Op.TheVariants as op
use Rattle.rv32_decode.specs.declared.ImmOp.{ImmOp}
use Rattle.rv32_decode.specs.declared.ImmOp.TheVariants as imm_op
use Rattle.rv32_decode.specs.declared.ShiftOp.{ShiftOp}
use Rattle.rv32_decode.specs.declared.ShiftOp.TheVariants as shift_op
use Rattle.rv32_decode.specs.declared.Cond.{Cond}
use Rattle.rv32_decode.specs.declared.Cond.TheVariants.{Eq, Ne, Lt, Ge, Ltu, Geu}
use Rattle.rv32_decode.specs.declared.LoadKind.{LoadKind}
use Rattle.rv32_decode.specs.declared.LoadKind.TheVariants as load_kind
use Rattle.rv32_decode.specs.declared.Width.{Width}
use Rattle.rv32_decode.specs.declared.Width.TheVariants as width
use Rattle.micro_op.specs.declared.MicroKind.{MicroKind}
use Rattle.micro_op.specs.declared.MicroKind.TheVariants as kind

abbrev pub branch_kind : Cond → MicroKind
branch_kind Eq = kind.BranchEq
branch_kind Ne = kind.BranchNe
branch_kind Lt = kind.BranchLt
branch_kind Ge = kind.BranchGe
branch_kind Ltu = kind.BranchLtu
branch_kind Geu = kind.BranchGeu

abbrev pub kind_of_load : LoadKind → MicroKind
kind_of_load load_kind.Byte = kind.LoadByte
kind_of_load load_kind.Half = kind.LoadHalf
kind_of_load load_kind.Word = kind.LoadWord
kind_of_load load_kind.ByteU = kind.LoadByteU
kind_of_load load_kind.HalfU = kind.LoadHalfU

abbrev pub store_kind : Width → MicroKind
store_kind width.Byte = kind.StoreByte
store_kind width.Half = kind.StoreHalf
store_kind width.Word = kind.StoreWord

abbrev pub immediate_kind : ImmOp → MicroKind
immediate_kind imm_op.Add = kind.AddImm
immediate_kind imm_op.Slt = kind.SltImm
immediate_kind imm_op.Sltu = kind.SltuImm
immediate_kind imm_op.Xor = kind.XorImm
immediate_kind imm_op.Or = kind.OrImm
immediate_kind imm_op.And = kind.AndImm

abbrev pub shift_kind : ShiftOp → MicroKind
shift_kind shift_op.Sll = kind.SllImm
shift_kind shift_op.Srl = kind.SrlImm
shift_kind shift_op.Sra = kind.SraImm

abbrev pub operation_kind : Operation → MicroKind
operation_kind op.Add = kind.Add
operation_kind op.Sub = kind.Sub
operation_kind op.Sll = kind.Sll
operation_kind op.Slt = kind.Slt
operation_kind op.Sltu = kind.Sltu
operation_kind op.Xor = kind.Xor
operation_kind op.Srl = kind.Srl
operation_kind op.Sra = kind.Sra
operation_kind op.Or = kind.Or
operation_kind op.And = kind.And
operation_kind op.Mul = kind.Mul
operation_kind op.Mulh = kind.Mulh
operation_kind op.Mulhsu = kind.Mulhsu
operation_kind op.Mulhu = kind.Mulhu
operation_kind op.Div = kind.Div
operation_kind op.Divu = kind.Divu
operation_kind op.Rem = kind.Rem
operation_kind op.Remu = kind.Remu
