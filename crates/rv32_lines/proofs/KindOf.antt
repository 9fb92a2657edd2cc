-- A mnemonic tells the kind of instruction.
use Rattle.std.proofs.Common.{◌≡◌, ℕ, Bool, true, false, cond, map, ◌++◌, List, [], ◌∷◌, refl, sym, ap, ◌∙◌}
use Rattle.std.specs.Prelude.{Option, Some, find}
use Rattle.std.specs.List.{list_all}
use Rattle.std.specs.Str.{bytes_eq}
use Rattle.std.proofs.lemmas.Bool.{and_parts}
use Rattle.rv32_decode.specs.declared.Cond.{Cond}
use Rattle.rv32_decode.specs.declared.Cond.TheVariants.{Eq, Ne, Lt, Ge, Ltu, Geu}
use Rattle.rv32_decode.specs.declared.LoadKind.{LoadKind}
use Rattle.rv32_decode.specs.declared.LoadKind.TheVariants as load_kind
use Rattle.rv32_decode.specs.declared.Width.{Width}
use Rattle.rv32_decode.specs.declared.Width.TheVariants as width
use Rattle.rv32_decode.specs.declared.Op.{Op as Operation}
use Rattle.rv32_decode.specs.declared.Op.TheVariants as op
use Rattle.rv32_decode.specs.declared.ImmOp.{ImmOp}
use Rattle.rv32_decode.specs.declared.ImmOp.TheVariants as imm_op
use Rattle.rv32_decode.specs.declared.ShiftOp.{ShiftOp}
use Rattle.rv32_decode.specs.declared.ShiftOp.TheVariants as shift_op
use Rattle.rv32_decode.specs.declared.AmoOp.{AmoOp}
use Rattle.rv32_decode.specs.declared.AmoOp.TheVariants as amo_op
use Rattle.rv32_lines.specs.declared.mnemonics.Mnemonic.{Mnemonic}
use Rattle.rv32_lines.specs.declared.mnemonics.Mnemonic.TheVariants.{Lui, Auipc, Jal, Jalr, Branch, Load, Store, OpImm, ShiftImm, Op, Fence, Ecall, Ebreak, Lr, Sc, Amo, Illegal}
use Rattle.rv32_lines.specs.Reading.{mnemonic_text}

abbrev in_each_order : (Bool → Bool → Mnemonic) → List Mnemonic
in_each_order f = f false false ∷ f true false ∷ f false true ∷ f true true ∷ []

-- every mnemonic
abbrev pub kinds : List Mnemonic
kinds =
    Lui ∷ Auipc ∷ Jal ∷ Jalr ∷ Fence ∷ Ecall ∷ Ebreak ∷ Illegal
    ∷ (map (λ c. Branch c) (Eq ∷ Ne ∷ Lt ∷ Ge ∷ Ltu ∷ Geu ∷ [])
    ++ map (λ k. Load k) (load_kind.Byte ∷ load_kind.Half ∷ load_kind.Word ∷ load_kind.ByteU ∷ load_kind.HalfU ∷ [])
    ++ map (λ w. Store w) (width.Byte ∷ width.Half ∷ width.Word ∷ [])
    ++ map (λ o. OpImm o) (imm_op.Add ∷ imm_op.Slt ∷ imm_op.Sltu ∷ imm_op.Xor ∷ imm_op.Or ∷ imm_op.And ∷ [])
    ++ map (λ o. ShiftImm o) (shift_op.Sll ∷ shift_op.Srl ∷ shift_op.Sra ∷ [])
    ++ map (λ o. Op o) (op.Add ∷ op.Sub ∷ op.Sll ∷ op.Slt ∷ op.Sltu ∷ op.Xor ∷ op.Srl ∷ op.Sra
    ∷ op.Or ∷ op.And ∷ op.Mul ∷ op.Mulh ∷ op.Mulhsu ∷ op.Mulhu ∷ op.Div ∷ op.Divu ∷ op.Rem ∷ op.Remu ∷ [])
    ++ in_each_order (λ aq rl. Lr aq rl) ++ in_each_order (λ aq rl. Sc aq rl)
    ++ in_each_order (λ aq rl. Amo amo_op.Swap aq rl) ++ in_each_order (λ aq rl. Amo amo_op.Add aq rl)
    ++ in_each_order (λ aq rl. Amo amo_op.Xor aq rl) ++ in_each_order (λ aq rl. Amo amo_op.And aq rl)
    ++ in_each_order (λ aq rl. Amo amo_op.Or aq rl) ++ in_each_order (λ aq rl. Amo amo_op.Min aq rl)
    ++ in_each_order (λ aq rl. Amo amo_op.Max aq rl) ++ in_each_order (λ aq rl. Amo amo_op.Minu aq rl)
    ++ in_each_order (λ aq rl. Amo amo_op.Maxu aq rl))

-- the kind that a mnemonic names
kind_of : List ℕ → Option Mnemonic
kind_of name = find (λ k. bytes_eq (mnemonic_text k) name) kinds

of_order : (f : Bool → Bool → Mnemonic) → kind_of (mnemonic_text (f false false)) ≡ Some (f false false)
    → kind_of (mnemonic_text (f true false)) ≡ Some (f true false)
    → kind_of (mnemonic_text (f false true)) ≡ Some (f false true)
    → kind_of (mnemonic_text (f true true)) ≡ Some (f true true) → (aq rl : Bool)
    → kind_of (mnemonic_text (f aq rl)) ≡ Some (f aq rl)
of_order f a b d e false false = a
of_order f a b d e true false = b
of_order f a b d e false true = d
of_order f a b d e true true = e

of_branch : (o : Cond) → kind_of (mnemonic_text (Branch o)) ≡ Some (Branch o)
unfolding kind_of
of_branch Eq = refl
of_branch Ne = refl
of_branch Lt = refl
of_branch Ge = refl
of_branch Ltu = refl
of_branch Geu = refl

of_load : (o : LoadKind) → kind_of (mnemonic_text (Load o)) ≡ Some (Load o)
unfolding kind_of
of_load load_kind.Byte = refl
of_load load_kind.Half = refl
of_load load_kind.Word = refl
of_load load_kind.ByteU = refl
of_load load_kind.HalfU = refl

of_store : (o : Width) → kind_of (mnemonic_text (Store o)) ≡ Some (Store o)
unfolding kind_of
of_store width.Byte = refl
of_store width.Half = refl
of_store width.Word = refl

of_imm : (o : ImmOp) → kind_of (mnemonic_text (OpImm o)) ≡ Some (OpImm o)
unfolding kind_of
of_imm imm_op.Add = refl
of_imm imm_op.Slt = refl
of_imm imm_op.Sltu = refl
of_imm imm_op.Xor = refl
of_imm imm_op.Or = refl
of_imm imm_op.And = refl

of_shift : (o : ShiftOp) → kind_of (mnemonic_text (ShiftImm o)) ≡ Some (ShiftImm o)
unfolding kind_of
of_shift shift_op.Sll = refl
of_shift shift_op.Srl = refl
of_shift shift_op.Sra = refl

of_op : (o : Operation) → kind_of (mnemonic_text (Op o)) ≡ Some (Op o)
unfolding kind_of
of_op op.Add = refl
of_op op.Sub = refl
of_op op.Sll = refl
of_op op.Slt = refl
of_op op.Sltu = refl
of_op op.Xor = refl
of_op op.Srl = refl
of_op op.Sra = refl
of_op op.Or = refl
of_op op.And = refl
of_op op.Mul = refl
of_op op.Mulh = refl
of_op op.Mulhsu = refl
of_op op.Mulhu = refl
of_op op.Div = refl
of_op op.Divu = refl
of_op op.Rem = refl
of_op op.Remu = refl

of_lr : (aq rl : Bool) → kind_of (mnemonic_text (Lr aq rl)) ≡ Some (Lr aq rl)
unfolding kind_of
of_lr aq rl = of_order (λ aq rl. Lr aq rl) refl refl refl refl aq rl

of_sc : (aq rl : Bool) → kind_of (mnemonic_text (Sc aq rl)) ≡ Some (Sc aq rl)
unfolding kind_of
of_sc aq rl = of_order (λ aq rl. Sc aq rl) refl refl refl refl aq rl

of_amo : (o : AmoOp) (aq rl : Bool) → kind_of (mnemonic_text (Amo o aq rl)) ≡ Some (Amo o aq rl)
unfolding kind_of
of_amo amo_op.Swap aq rl = of_order (λ aq rl. Amo amo_op.Swap aq rl) refl refl refl refl aq rl
of_amo amo_op.Add aq rl = of_order (λ aq rl. Amo amo_op.Add aq rl) refl refl refl refl aq rl
of_amo amo_op.Xor aq rl = of_order (λ aq rl. Amo amo_op.Xor aq rl) refl refl refl refl aq rl
of_amo amo_op.And aq rl = of_order (λ aq rl. Amo amo_op.And aq rl) refl refl refl refl aq rl
of_amo amo_op.Or aq rl = of_order (λ aq rl. Amo amo_op.Or aq rl) refl refl refl refl aq rl
of_amo amo_op.Min aq rl = of_order (λ aq rl. Amo amo_op.Min aq rl) refl refl refl refl aq rl
of_amo amo_op.Max aq rl = of_order (λ aq rl. Amo amo_op.Max aq rl) refl refl refl refl aq rl
of_amo amo_op.Minu aq rl = of_order (λ aq rl. Amo amo_op.Minu aq rl) refl refl refl refl aq rl
of_amo amo_op.Maxu aq rl = of_order (λ aq rl. Amo amo_op.Maxu aq rl) refl refl refl refl aq rl

of_text : (m : Mnemonic) → kind_of (mnemonic_text m) ≡ Some m
unfolding kind_of
of_text Lui = refl
of_text Auipc = refl
of_text Jal = refl
of_text Jalr = refl
of_text Fence = refl
of_text Ecall = refl
of_text Ebreak = refl
of_text Illegal = refl
of_text (Branch c) = of_branch c
of_text (Load k) = of_load k
of_text (Store w) = of_store w
of_text (OpImm o) = of_imm o
of_text (ShiftImm o) = of_shift o
of_text (Op o) = of_op o
of_text (Lr aq rl) = of_lr aq rl
of_text (Sc aq rl) = of_sc aq rl
of_text (Amo o aq rl) = of_amo o aq rl

found_step : (q : Mnemonic → Bool) (k m : Mnemonic) (rest : Option Mnemonic) (b : Bool) → cond b (Some k) rest ≡ Some m
    → q k ≡ true
    → (rest ≡ Some m → q m ≡ true) → q m ≡ true
found_step q k m rest true e h more = let same : k ≡ m = cc in ap q (sym same) ∙ h
found_step q k m rest false e h more = more e

found_all : (name : List ℕ) (q : Mnemonic → Bool) (ks : List Mnemonic) (m : Mnemonic)
    → find (λ k. bytes_eq (mnemonic_text k) name) ks ≡ Some m → list_all q ks ≡ true → q m ≡ true
found_all name q [] m e all = absurd (cc)
found_all name q (k ∷ ks) m e all =
    let p = and_parts (q k) (list_all q ks) all in
    found_step q k m (find (λ k. bytes_eq (mnemonic_text k) name) ks) (bytes_eq (mnemonic_text k) name) e p.0
    (λ f. found_all name q ks m f p.1)

-- what holds of every kind that is listed
pub all_kinds : (q : Mnemonic → Bool) → list_all q kinds ≡ true → (m : Mnemonic) → q m ≡ true
unfolding kind_of
all_kinds q all m = found_all (mnemonic_text m) q kinds m (of_text m) all

pub kind_told : (m n : Mnemonic) → mnemonic_text m ≡ mnemonic_text n → m ≡ n
kind_told m n e =
    let same : Some m ≡ Some n = sym (of_text m) ∙ ap kind_of e ∙ of_text n in
    cc

-- what is found for a name is its kind
pub found_told : (name : List ℕ) (m n : Mnemonic) → name ≡ mnemonic_text m → name ≡ mnemonic_text n → Some m ≡ Some n
found_told name m n e f = ap Some (kind_told m n (sym e ∙ f))
