-- The mnemonic of a text tells the kind of its instruction.
use Rattle.std.proofs.Common.{◌≡◌, ℕ, Bool, true, false, cond, eqb, map, ◌++◌, List, [], ◌∷◌, refl, ℤ, pos}
use Rattle.std.specs.Prelude.{Option, Some, None, find}
use Rattle.std.specs.Str.{bytes_eq}
use Rattle.rv32_text.specs.Listing.{text_of, text_of_decoded}
use Rattle.rv32_decode.specs.declared.Cond.{Cond}
use Rattle.rv32_decode.specs.declared.Cond.TheVariants.{Eq, Ne, Lt, Ge, Ltu, Geu}
use Rattle.rv32_decode.specs.declared.LoadKind.{LoadKind}
use Rattle.rv32_decode.specs.declared.LoadKind.TheVariants as load_kind
use Rattle.rv32_decode.specs.declared.Width.{Width}
use Rattle.rv32_decode.specs.declared.Width.TheVariants as width
use Rattle.rv32_decode.specs.declared.Op.{Op as Operation}
use Rattle.rv32_decode.specs.declared.Op.TheVariants as op
use Rattle.rv32_decode.specs.declared.ImmOp.{ImmOp}
use Rattle.rv32_decode.specs.declared.ImmOp.TheVariants as imm_op
use Rattle.rv32_decode.specs.declared.ShiftOp.{ShiftOp}
use Rattle.rv32_decode.specs.declared.ShiftOp.TheVariants as shift_op
use Rattle.rv32_decode.specs.declared.AmoOp.{AmoOp}
use Rattle.rv32_decode.specs.declared.AmoOp.TheVariants as amo_op
use Rattle.rv32_decode.specs.declared.IllegalWord.TheVariants.{Zeros}
use Rattle.rv32_decode.specs.declared.Instr.{Instr}
use Rattle.rv32_decode.specs.declared.Instr.TheVariants.{Lui, Auipc, Jal, Jalr, Branch, Load, Store, OpImm, ShiftImm, Op, Fence, Ecall, Ebreak, Lr, Sc, Amo, Illegal}

-- the instruction with zeros for its operands
abbrev pub kind : Instr → Instr
kind (Lui rd upper) = Lui 0 0
kind (Auipc rd upper) = Auipc 0 0
kind (Jal rd offset) = Jal 0 (pos 0)
kind (Jalr rd rs1 imm) = Jalr 0 0 (pos 0)
kind (Branch c rs1 rs2 offset) = Branch c 0 0 (pos 0)
kind (Load k rd rs1 imm) = Load k 0 0 (pos 0)
kind (Store w rs1 rs2 imm) = Store w 0 0 (pos 0)
kind (OpImm o rd rs1 imm) = OpImm o 0 0 (pos 0)
kind (ShiftImm o rd rs1 amount) = ShiftImm o 0 0 0
kind (Op o rd rs1 rs2) = Op o 0 0 0
kind (Fence rd rs1 bits) = Fence 0 0 0
kind Ecall = Ecall
kind Ebreak = Ebreak
kind (Lr rd rs1 aq rl) = Lr 0 0 aq rl
kind (Sc rd rs1 rs2 aq rl) = Sc 0 0 0 aq rl
kind (Amo o rd rs1 rs2 aq rl) = Amo o 0 0 0 aq rl
kind (Illegal word) = Illegal Zeros

-- what stands before the first space
abbrev mnemonic : List ℕ → List ℕ
mnemonic [] = []
mnemonic (c ∷ cs) = cond (eqb c 32) [] (c ∷ mnemonic cs)

abbrev in_each_order : (Bool → Bool → Instr) → List Instr
in_each_order f = f false false ∷ f true false ∷ f false true ∷ f true true ∷ []

-- every kind, with zeros for its operands
abbrev kinds : List Instr
kinds =
    Lui 0 0 ∷ Auipc 0 0 ∷ Jal 0 (pos 0) ∷ Jalr 0 0 (pos 0) ∷ Fence 0 0 0 ∷ Ecall ∷ Ebreak ∷ Illegal Zeros
    ∷ (map (λ c. Branch c 0 0 (pos 0)) (Eq ∷ Ne ∷ Lt ∷ Ge ∷ Ltu ∷ Geu ∷ [])
    ++ map (λ k. Load k 0 0 (pos 0)) (load_kind.Byte ∷ load_kind.Half ∷ load_kind.Word ∷ load_kind.ByteU ∷ load_kind.HalfU ∷ [])
    ++ map (λ w. Store w 0 0 (pos 0)) (width.Byte ∷ width.Half ∷ width.Word ∷ [])
    ++ map (λ o. OpImm o 0 0 (pos 0)) (imm_op.Add ∷ imm_op.Slt ∷ imm_op.Sltu ∷ imm_op.Xor ∷ imm_op.Or ∷ imm_op.And ∷ [])
    ++ map (λ o. ShiftImm o 0 0 0) (shift_op.Sll ∷ shift_op.Srl ∷ shift_op.Sra ∷ [])
    ++ map (λ o. Op o 0 0 0) (op.Add ∷ op.Sub ∷ op.Sll ∷ op.Slt ∷ op.Sltu ∷ op.Xor ∷ op.Srl ∷ op.Sra ∷ op.Or ∷ op.And ∷ [])
    ++ map (λ o. Op o 0 0 0) (op.Mul ∷ op.Mulh ∷ op.Mulhsu ∷ op.Mulhu ∷ op.Div ∷ op.Divu ∷ op.Rem ∷ op.Remu ∷ [])
    ++ in_each_order (λ aq rl. Lr 0 0 aq rl) ++ in_each_order (λ aq rl. Sc 0 0 0 aq rl)
    ++ in_each_order (λ aq rl. Amo amo_op.Swap 0 0 0 aq rl) ++ in_each_order (λ aq rl. Amo amo_op.Add 0 0 0 aq rl)
    ++ in_each_order (λ aq rl. Amo amo_op.Xor 0 0 0 aq rl) ++ in_each_order (λ aq rl. Amo amo_op.And 0 0 0 aq rl)
    ++ in_each_order (λ aq rl. Amo amo_op.Or 0 0 0 aq rl) ++ in_each_order (λ aq rl. Amo amo_op.Min 0 0 0 aq rl)
    ++ in_each_order (λ aq rl. Amo amo_op.Max 0 0 0 aq rl) ++ in_each_order (λ aq rl. Amo amo_op.Minu 0 0 0 aq rl)
    ++ in_each_order (λ aq rl. Amo amo_op.Maxu 0 0 0 aq rl))

-- the kind whose mnemonic a text has
pub kind_of : List ℕ → Option Instr
kind_of text = find (λ k. bytes_eq (mnemonic (text_of 0 k)) (mnemonic text)) kinds

kind_of_order : (address : ℕ) (f : Bool → Bool → Instr) → kind_of (text_of address (f false false)) ≡ Some (kind (f false false))
    → kind_of (text_of address (f true false)) ≡ Some (kind (f true false)) → kind_of (text_of address (f false true)) ≡ Some (kind (f false true))
    → kind_of (text_of address (f true true)) ≡ Some (kind (f true true)) → (aq rl : Bool) → kind_of (text_of address (f aq rl)) ≡ Some (kind (f aq rl))
kind_of_order address f a b d e false false = a
kind_of_order address f a b d e true false = b
kind_of_order address f a b d e false true = d
kind_of_order address f a b d e true true = e

kind_of_branch : (address : ℕ) (c : Cond) (a b : ℕ) (z : ℤ) → kind_of (text_of address (Branch c a b z)) ≡ Some (Branch c 0 0 (pos 0))
unfolding kind_of
kind_of_branch address Eq a b z = refl
kind_of_branch address Ne a b z = refl
kind_of_branch address Lt a b z = refl
kind_of_branch address Ge a b z = refl
kind_of_branch address Ltu a b z = refl
kind_of_branch address Geu a b z = refl

kind_of_load : (address : ℕ) (k : LoadKind) (a b : ℕ) (z : ℤ) → kind_of (text_of address (Load k a b z)) ≡ Some (Load k 0 0 (pos 0))
unfolding kind_of
kind_of_load address load_kind.Byte a b z = refl
kind_of_load address load_kind.Half a b z = refl
kind_of_load address load_kind.Word a b z = refl
kind_of_load address load_kind.ByteU a b z = refl
kind_of_load address load_kind.HalfU a b z = refl

kind_of_store : (address : ℕ) (w : Width) (a b : ℕ) (z : ℤ) → kind_of (text_of address (Store w a b z)) ≡ Some (Store w 0 0 (pos 0))
unfolding kind_of
kind_of_store address width.Byte a b z = refl
kind_of_store address width.Half a b z = refl
kind_of_store address width.Word a b z = refl

kind_of_imm : (address : ℕ) (o : ImmOp) (a b : ℕ) (z : ℤ) → kind_of (text_of address (OpImm o a b z)) ≡ Some (OpImm o 0 0 (pos 0))
unfolding kind_of
kind_of_imm address imm_op.Add a b z = refl
kind_of_imm address imm_op.Slt a b z = refl
kind_of_imm address imm_op.Sltu a b z = refl
kind_of_imm address imm_op.Xor a b z = refl
kind_of_imm address imm_op.Or a b z = refl
kind_of_imm address imm_op.And a b z = refl

kind_of_shift : (address : ℕ) (o : ShiftOp) (a b n : ℕ) → kind_of (text_of address (ShiftImm o a b n)) ≡ Some (ShiftImm o 0 0 0)
unfolding kind_of
kind_of_shift address shift_op.Sll a b n = refl
kind_of_shift address shift_op.Srl a b n = refl
kind_of_shift address shift_op.Sra a b n = refl

kind_of_op : (address : ℕ) (o : Operation) (a b c : ℕ) → kind_of (text_of address (Op o a b c)) ≡ Some (Op o 0 0 0)
unfolding kind_of
kind_of_op address op.Add a b c = refl
kind_of_op address op.Sub a b c = refl
kind_of_op address op.Sll a b c = refl
kind_of_op address op.Slt a b c = refl
kind_of_op address op.Sltu a b c = refl
kind_of_op address op.Xor a b c = refl
kind_of_op address op.Srl a b c = refl
kind_of_op address op.Sra a b c = refl
kind_of_op address op.Or a b c = refl
kind_of_op address op.And a b c = refl
kind_of_op address op.Mul a b c = refl
kind_of_op address op.Mulh a b c = refl
kind_of_op address op.Mulhsu a b c = refl
kind_of_op address op.Mulhu a b c = refl
kind_of_op address op.Div a b c = refl
kind_of_op address op.Divu a b c = refl
kind_of_op address op.Rem a b c = refl
kind_of_op address op.Remu a b c = refl

kind_of_lr : (address a b : ℕ) (aq rl : Bool) → kind_of (text_of address (Lr a b aq rl)) ≡ Some (Lr 0 0 aq rl)
unfolding kind_of
kind_of_lr address a b = kind_of_order address (λ aq rl. Lr a b aq rl) refl refl refl refl

kind_of_sc : (address a b c : ℕ) (aq rl : Bool) → kind_of (text_of address (Sc a b c aq rl)) ≡ Some (Sc 0 0 0 aq rl)
unfolding kind_of
kind_of_sc address a b c = kind_of_order address (λ aq rl. Sc a b c aq rl) refl refl refl refl

kind_of_amo : (address : ℕ) (o : AmoOp) (a b c : ℕ) (aq rl : Bool) → kind_of (text_of address (Amo o a b c aq rl)) ≡ Some (Amo o 0 0 0 aq rl)
unfolding kind_of
kind_of_amo address amo_op.Swap a b c = kind_of_order address (λ aq rl. Amo amo_op.Swap a b c aq rl) refl refl refl refl
kind_of_amo address amo_op.Add a b c = kind_of_order address (λ aq rl. Amo amo_op.Add a b c aq rl) refl refl refl refl
kind_of_amo address amo_op.Xor a b c = kind_of_order address (λ aq rl. Amo amo_op.Xor a b c aq rl) refl refl refl refl
kind_of_amo address amo_op.And a b c = kind_of_order address (λ aq rl. Amo amo_op.And a b c aq rl) refl refl refl refl
kind_of_amo address amo_op.Or a b c = kind_of_order address (λ aq rl. Amo amo_op.Or a b c aq rl) refl refl refl refl
kind_of_amo address amo_op.Min a b c = kind_of_order address (λ aq rl. Amo amo_op.Min a b c aq rl) refl refl refl refl
kind_of_amo address amo_op.Max a b c = kind_of_order address (λ aq rl. Amo amo_op.Max a b c aq rl) refl refl refl refl
kind_of_amo address amo_op.Minu a b c = kind_of_order address (λ aq rl. Amo amo_op.Minu a b c aq rl) refl refl refl refl
kind_of_amo address amo_op.Maxu a b c = kind_of_order address (λ aq rl. Amo amo_op.Maxu a b c aq rl) refl refl refl refl

pub kind_of_text : (address : ℕ) (i : Instr) → kind_of (text_of address i) ≡ Some (kind i)
unfolding kind_of
kind_of_text address (Lui rd upper) = refl
kind_of_text address (Auipc rd upper) = refl
kind_of_text address (Jal rd offset) = refl
kind_of_text address (Jalr rd rs1 imm) = refl
kind_of_text address (Branch c rs1 rs2 offset) = kind_of_branch address c rs1 rs2 offset
kind_of_text address (Load k rd rs1 imm) = kind_of_load address k rd rs1 imm
kind_of_text address (Store w rs1 rs2 imm) = kind_of_store address w rs1 rs2 imm
kind_of_text address (OpImm o rd rs1 imm) = kind_of_imm address o rd rs1 imm
kind_of_text address (ShiftImm o rd rs1 amount) = kind_of_shift address o rd rs1 amount
kind_of_text address (Op o rd rs1 rs2) = kind_of_op address o rd rs1 rs2
kind_of_text address (Fence rd rs1 bits) = refl
kind_of_text address Ecall = refl
kind_of_text address Ebreak = refl
kind_of_text address (Lr rd rs1 aq rl) = kind_of_lr address rd rs1 aq rl
kind_of_text address (Sc rd rs1 rs2 aq rl) = kind_of_sc address rd rs1 rs2 aq rl
kind_of_text address (Amo o rd rs1 rs2 aq rl) = kind_of_amo address o rd rs1 rs2 aq rl
kind_of_text address (Illegal word) = refl

-- no kind has the text of a word that is no instruction
pub kind_of_unknown : (address : ℕ) → kind_of (text_of_decoded address None) ≡ None
unfolding kind_of
kind_of_unknown address = refl
