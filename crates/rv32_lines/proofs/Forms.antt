-- Operands by their mnemonics.
use mathlib.Core.List.{append-nil}
use Rattle.std.proofs.Common.{append_assoc, ◌≡◌, ℕ, ℤ, pos, negsuc, true, false, List, [], ◌∷◌, ◌++◌, Option, Some, None, zero, suc, ◌≤◌, length, get_or, drop, arith, refl, sym, ap, ◌∙◌, subst, inl, inr, ◌⊎◌}
use Rattle.std.specs.Prelude.{MatchOption, IfSome, codes}
use Rattle.std.specs.List.{list_all}
use Rattle.std.proofs.lemmas.Bool.{and_parts, false≢true}
use Rattle.std.proofs.lemmas.Bool.Decides.{nat_tests}
use Rattle.rv32_decode.specs.declared.Cond.TheVariants.{Eq, Ne, Lt, Ge, Ltu, Geu}
use Rattle.rv32_decode.specs.declared.LoadKind.TheVariants as load_kind
use Rattle.rv32_decode.specs.declared.Width.TheVariants as width
use Rattle.rv32_decode.specs.declared.Op.TheVariants as op
use Rattle.rv32_decode.specs.declared.ImmOp.TheVariants as imm_op
use Rattle.rv32_decode.specs.declared.ShiftOp.{ShiftOp}
use Rattle.rv32_decode.specs.declared.ShiftOp.TheVariants as shift_op
use Rattle.rv32_decode.specs.declared.AmoOp.TheVariants as amo_op
use Rattle.rv32_decode.specs.declared.Instr.TheVariants.{Lui, Auipc, Jal, Jalr, Branch, Load, Store, OpImm, ShiftImm, Op, Fence, Ecall, Ebreak, Lr, Sc, Amo, Illegal}
use Rattle.rv32_text.specs.Listing.{branch_name, load_name, store_name, imm_name, shift_name, op_name, amo_name, order_suffix, with_two, with_three}
use Rattle.rv32_lines.specs.declared.mnemonics.Mnemonic.{Mnemonic}
use Rattle.rv32_lines.specs.declared.mnemonics.Mnemonic.TheVariants as mnemonic
use Rattle.rv32_lines.specs.declared.commands.WrittenInstruction.{WrittenInstruction}
use Rattle.rv32_lines.specs.Texts.{Target, Written, Plain, NegativeShift, Jump, Conditional, shift_by, numeral, register, base, signed_numeral, indexed, upper_digits, target_text, written_text}
use Rattle.rv32_lines.specs.Statements.{IsTarget, IsWritten, SaysInstruction}
use Rattle.rv32_lines.specs.Reading.{mnemonic_text, mnemonic_in, operands_in, HasOperands, IsReadCommand, IsCommandWith, IsCommandWithout, is_mark, BeginsWithSpace}

-- what is found is an instruction of the mnemonic
abbrev pub Gives : List ℕ → Option WrittenInstruction → Mnemonic → Type 0
Gives text found mnemonic.Lui =
    IfSome found (λ c. (rd n : ℕ) × (text ≡ register rd ++ (codes ", " ++ upper_digits n)) × IsReadCommand c
    (Plain (Lui rd n)))
Gives text found mnemonic.Auipc =
    IfSome found (λ c. (rd n : ℕ) × (text ≡ register rd ++ (codes ", " ++ upper_digits n)) × IsReadCommand c
    (Plain (Auipc rd n)))
Gives text found mnemonic.Jalr =
    IfSome found (λ c. (rd r : ℕ) × (z : ℤ) × (text ≡ register rd ++ (codes ", " ++ indexed z r)) × IsReadCommand c
    (Plain (Jalr rd r z)))
Gives text found (mnemonic.Load k) =
    IfSome found (λ c. (rd r : ℕ) × (z : ℤ) × (text ≡ register rd ++ (codes ", " ++ indexed z r)) × IsReadCommand c
    (Plain (Load k rd r z)))
Gives text found (mnemonic.Store k) =
    IfSome found (λ c. (rd r : ℕ) × (z : ℤ) × (text ≡ register rd ++ (codes ", " ++ indexed z r)) × IsReadCommand c
    (Plain (Store k r rd z)))
Gives text found (mnemonic.OpImm k) =
    IfSome found (λ c. (rd r : ℕ) × (z : ℤ) × (text ≡ register
    rd ++ (codes ", " ++ register r ++ (codes ", " ++ signed_numeral z))) × IsReadCommand c
    (Plain (OpImm k rd r z)))
Gives text found (mnemonic.ShiftImm k) =
    IfSome found (λ c. (rd r : ℕ) × (z : ℤ) × (text ≡ register
    rd ++ (codes ", " ++ register r ++ (codes ", " ++ signed_numeral z))) × IsReadCommand c (shift_by k rd r z))
Gives text found (mnemonic.Op k) =
    IfSome found (λ c. (rd r n : ℕ) × (text ≡ register
    rd ++ (codes ", " ++ register r ++ (codes ", " ++ register n))) × IsReadCommand c (Plain (Op k rd r n)))
Gives text found (mnemonic.Lr aq rl) =
    IfSome found (λ c. (rd r : ℕ) × (text ≡ register rd ++ (codes ", " ++ base r)) × IsReadCommand c
    (Plain (Lr rd r aq rl)))
Gives text found (mnemonic.Sc aq rl) =
    IfSome found (λ c. (rd r n : ℕ) × (text ≡ register
    rd ++ (codes ", " ++ register n ++ (codes ", " ++ base r))) × IsReadCommand c (Plain (Sc rd r n aq rl)))
Gives text found (mnemonic.Amo k aq rl) =
    IfSome found (λ c. (rd r n : ℕ) × (text ≡ register
    rd ++ (codes ", " ++ register n ++ (codes ", " ++ base r))) × IsReadCommand c (Plain (Amo k rd r n aq rl)))
Gives text found mnemonic.Jal =
    IfSome found (λ c. (rd : ℕ) × (to : Target) × IsTarget
    to × (text ≡ register rd ++ (codes ", " ++ target_text to)) × IsReadCommand c (Jump rd to))
Gives text found (mnemonic.Branch k) =
    IfSome found (λ c. (r n : ℕ) × (to : Target) × IsTarget
    to × (text ≡ register r ++ (codes ", " ++ register n ++ (codes ", " ++ target_text to))) × IsReadCommand c
    (Conditional k r n to))
Gives text found m = IfSome found (λ c. ⊥)

-- each instruction of the mnemonic is found
abbrev pub Finds : List ℕ → Option WrittenInstruction → Mnemonic → Type 0
Finds text found mnemonic.Lui =
    (rd n : ℕ) → text ≡ register rd ++ (codes ", " ++ upper_digits n)
    → MatchOption found ⊥ (λ c. IsReadCommand c (Plain (Lui rd n)))
Finds text found mnemonic.Auipc =
    (rd n : ℕ) → text ≡ register rd ++ (codes ", " ++ upper_digits n)
    → MatchOption found ⊥ (λ c. IsReadCommand c (Plain (Auipc rd n)))
Finds text found mnemonic.Jalr =
    (rd r : ℕ) (z : ℤ) → text ≡ register rd ++ (codes ", " ++ indexed z r)
    → MatchOption found ⊥ (λ c. IsReadCommand c (Plain (Jalr rd r z)))
Finds text found (mnemonic.Load k) =
    (rd r : ℕ) (z : ℤ) → text ≡ register rd ++ (codes ", " ++ indexed z r)
    → MatchOption found ⊥ (λ c. IsReadCommand c (Plain (Load k rd r z)))
Finds text found (mnemonic.Store k) =
    (rd r : ℕ) (z : ℤ) → text ≡ register rd ++ (codes ", " ++ indexed z r)
    → MatchOption found ⊥ (λ c. IsReadCommand c (Plain (Store k r rd z)))
Finds text found (mnemonic.OpImm k) =
    (rd r : ℕ) (z : ℤ) → text ≡ register rd ++ (codes ", " ++ register r ++ (codes ", " ++ signed_numeral z))
    → MatchOption found ⊥ (λ c. IsReadCommand c (Plain (OpImm k rd r z)))
Finds text found (mnemonic.ShiftImm k) =
    (rd r : ℕ) (z : ℤ) → text ≡ register rd ++ (codes ", " ++ register r ++ (codes ", " ++ signed_numeral z))
    → MatchOption found ⊥ (λ c. IsReadCommand c (shift_by k rd r z))
Finds text found (mnemonic.Op k) =
    (rd r n : ℕ) → text ≡ register rd ++ (codes ", " ++ register r ++ (codes ", " ++ register n))
    → MatchOption found ⊥ (λ c. IsReadCommand c (Plain (Op k rd r n)))
Finds text found (mnemonic.Lr aq rl) =
    (rd r : ℕ) → text ≡ register rd ++ (codes ", " ++ base r)
    → MatchOption found ⊥ (λ c. IsReadCommand c (Plain (Lr rd r aq rl)))
Finds text found (mnemonic.Sc aq rl) =
    (rd r n : ℕ) → text ≡ register rd ++ (codes ", " ++ register n ++ (codes ", " ++ base r))
    → MatchOption found ⊥ (λ c. IsReadCommand c (Plain (Sc rd r n aq rl)))
Finds text found (mnemonic.Amo k aq rl) =
    (rd r n : ℕ) → text ≡ register rd ++ (codes ", " ++ register n ++ (codes ", " ++ base r))
    → MatchOption found ⊥ (λ c. IsReadCommand c (Plain (Amo k rd r n aq rl)))
Finds text found mnemonic.Jal =
    (rd : ℕ) (to : Target) → IsTarget to → text ≡ register rd ++ (codes ", " ++ target_text to)
    → MatchOption found ⊥ (λ c. IsReadCommand c (Jump rd to))
Finds text found (mnemonic.Branch k) =
    (r n : ℕ) (to : Target) → IsTarget to
    → text ≡ register r ++ (codes ", " ++ register n ++ (codes ", " ++ target_text to))
    → MatchOption found ⊥ (λ c. IsReadCommand c (Conditional k r n to))
Finds text found m = Unit {0}

pub finds_all : (text : List ℕ) (found : Option WrittenInstruction) (m : Mnemonic) → Finds text found m
    → (w : Written) → IsWritten w → HasOperands w → mnemonic_in w ≡ m → text ≡ operands_in w
    → MatchOption found ⊥ (λ c. IsReadCommand c w)
finds_all text found m h (Plain (Lui rd n)) i o e t = (subst (Finds text found) (sym e) h) rd n t
finds_all text found m h (Plain (Auipc rd n)) i o e t = (subst (Finds text found) (sym e) h) rd n t
finds_all text found m h (Plain (Jalr rd r z)) i o e t = (subst (Finds text found) (sym e) h) rd r z t
finds_all text found m h (Plain (Load k rd r z)) i o e t = (subst (Finds text found) (sym e) h) rd r z t
finds_all text found m h (Plain (Store k r rd z)) i o e t = (subst (Finds text found) (sym e) h) rd r z t
finds_all text found m h (Plain (OpImm k rd r z)) i o e t = (subst (Finds text found) (sym e) h) rd r z t
finds_all text found m h (Plain (ShiftImm k rd r n)) i o e t = (subst (Finds text found) (sym e) h) rd r (pos n) t
finds_all text found m h (NegativeShift k rd r n) i o e t = (subst (Finds text found) (sym e) h) rd r (negsuc n) t
finds_all text found m h (Plain (Op k rd r n)) i o e t = (subst (Finds text found) (sym e) h) rd r n t
finds_all text found m h (Plain (Lr rd r aq rl)) i o e t = (subst (Finds text found) (sym e) h) rd r t
finds_all text found m h (Plain (Sc rd r n aq rl)) i o e t = (subst (Finds text found) (sym e) h) rd r n t
finds_all text found m h (Plain (Amo k rd r n aq rl)) i o e t = (subst (Finds text found) (sym e) h) rd r n t
finds_all text found m h (Jump rd to) i o e t = (subst (Finds text found) (sym e) h) rd to i t
finds_all text found m h (Conditional k r n to) i o e t = (subst (Finds text found) (sym e) h) r n to i t
finds_all text found m h (Plain (Jal rd z)) i o e t = absurd i
finds_all text found m h (Plain (Branch k a b z)) i o e t = absurd i
finds_all text found m h (Plain (Fence rd r bits)) i o e t = absurd o
finds_all text found m h (Plain Ecall) i o e t = absurd o
finds_all text found m h (Plain Ebreak) i o e t = absurd o
finds_all text found m h (Plain (Illegal word)) i o e t = absurd o

-- an instruction that is found is a shift, by a number of either sign
gives_shift : (text : List ℕ) (c : WrittenInstruction) (k : ShiftOp) (rd r : ℕ) (z : ℤ)
    → text ≡ register rd ++ (codes ", " ++ register r ++ (codes ", " ++ signed_numeral z))
    → IsReadCommand c (shift_by k rd r z) → (w : Written) × IsCommandWith (mnemonic.ShiftImm k) text c w
gives_shift text c k rd r (pos n) t h =
    (Plain (ShiftImm k rd r n), record { written = tt; some = tt; mnemonic_is = refl; text_is = t; read = h })
gives_shift text c k rd r (negsuc n) t h =
    (NegativeShift k rd r n, record { written = tt; some = tt; mnemonic_is = refl; text_is = t; read = h })

pub gives_all : (text : List ℕ) (found : Option WrittenInstruction) (m : Mnemonic) → Gives text found m
    → IfSome found (λ c. (w : Written) × IsCommandWith m text c w)
gives_all text None m h = tt
gives_all text (Some c) mnemonic.Lui h =
    (Plain (Lui h.0 h.1), record { written = tt; some = tt; mnemonic_is = refl; text_is = h.2; read = h.3 })
gives_all text (Some c) mnemonic.Auipc h =
    (Plain (Auipc h.0 h.1), record { written = tt; some = tt; mnemonic_is = refl; text_is = h.2; read = h.3 })
gives_all text (Some c) mnemonic.Jalr h =
    (Plain (Jalr h.0 h.1 h.2), record { written = tt; some = tt; mnemonic_is = refl; text_is = h.3; read = h.4 })
gives_all text (Some c) (mnemonic.Load k) h =
    (Plain (Load k h.0 h.1 h.2), record { written = tt; some = tt; mnemonic_is = refl; text_is = h.3; read = h.4 })
gives_all text (Some c) (mnemonic.Store k) h =
    (Plain (Store k h.1 h.0 h.2), record { written = tt; some = tt; mnemonic_is = refl; text_is = h.3; read = h.4 })
gives_all text (Some c) (mnemonic.OpImm k) h =
    (Plain (OpImm k h.0 h.1 h.2), record { written = tt; some = tt; mnemonic_is = refl; text_is = h.3; read = h.4 })
gives_all text (Some c) (mnemonic.ShiftImm k) h = gives_shift text c k h.0 h.1 h.2 h.3 h.4
gives_all text (Some c) (mnemonic.Op k) h =
    (Plain (Op k h.0 h.1 h.2), record { written = tt; some = tt; mnemonic_is = refl; text_is = h.3; read = h.4 })
gives_all text (Some c) (mnemonic.Lr aq rl) h =
    (Plain (Lr h.0 h.1 aq rl), record { written = tt; some = tt; mnemonic_is = refl; text_is = h.2; read = h.3 })
gives_all text (Some c) (mnemonic.Sc aq rl) h =
    (Plain (Sc h.0 h.1 h.2 aq rl), record { written = tt; some = tt; mnemonic_is = refl; text_is = h.3; read = h.4 })
gives_all text (Some c) (mnemonic.Amo k aq rl) h =
    (Plain (Amo k h.0 h.1 h.2 aq rl), record { written = tt; some = tt; mnemonic_is = refl; text_is = h.3; read = h.4 })
gives_all text (Some c) mnemonic.Jal h =
    (Jump h.0 h.1, record { written = h.2; some = tt; mnemonic_is = refl; text_is = h.3; read = h.4 })
gives_all text (Some c) (mnemonic.Branch k) h =
    (Conditional k h.0 h.1 h.2, record { written = h.3; some = tt; mnemonic_is = refl; text_is = h.4; read = h.5 })
gives_all text (Some c) mnemonic.Fence h = absurd h
gives_all text (Some c) mnemonic.Ecall h = absurd h
gives_all text (Some c) mnemonic.Ebreak h = absurd h
gives_all text (Some c) mnemonic.Illegal h = absurd h

two_parts : (name a b : List ℕ) → with_two name a b ≡ name ++ (codes " " ++ (a ++ (codes ", " ++ b)))
two_parts name a b =
    append_assoc (name ++ codes " " ++ a) (codes ", ") b ∙ append_assoc (name ++ codes " ") a (codes ", " ++ b)
    ∙ append_assoc name (codes " ") (a ++ (codes ", " ++ b))

three_parts : (name a b c : List ℕ)
    → with_three name a b c ≡ name ++ (codes " " ++ (a ++ (codes ", " ++ (b ++ (codes ", " ++ c)))))
three_parts name a b c =
    append_assoc (name ++ codes " " ++ a ++ codes ", " ++ b) (codes ", ") c
    ∙ append_assoc (name ++ codes " " ++ a ++ codes ", ") b (codes ", " ++ c)
    ∙ append_assoc (name ++ codes " " ++ a) (codes ", ") (b ++ (codes ", " ++ c))
    ∙ append_assoc (name ++ codes " ") a (codes ", " ++ (b ++ (codes ", " ++ c)))
    ∙ append_assoc name (codes " ") (a ++ (codes ", " ++ (b ++ (codes ", " ++ c))))

-- the text of an instruction is its mnemonic, and its operands behind a space
pub text_with : (w : Written) → IsWritten w → HasOperands w
    → written_text w ≡ mnemonic_text (mnemonic_in w) ++ (codes " " ++ operands_in w)
text_with (Plain (Lui rd n)) i o = two_parts (codes "lui") (register rd) (upper_digits n)
text_with (Plain (Auipc rd n)) i o = two_parts (codes "auipc") (register rd) (upper_digits n)
text_with (Plain (Jalr rd r z)) i o = two_parts (codes "jalr") (register rd) (indexed z r)
text_with (Plain (Load k rd r z)) i o = two_parts (load_name k) (register rd) (indexed z r)
text_with (Plain (Store k r rd z)) i o = two_parts (store_name k) (register rd) (indexed z r)
text_with (Plain (OpImm k rd r z)) i o = three_parts (imm_name k) (register rd) (register r) (signed_numeral z)
text_with (Plain (ShiftImm k rd r n)) i o = three_parts (shift_name k) (register rd) (register r) (numeral 10 n)
text_with (NegativeShift k rd r n) i o =
    three_parts (shift_name k) (register rd) (register r) (signed_numeral (negsuc n))
text_with (Plain (Op k rd r n)) i o = three_parts (op_name k) (register rd) (register r) (register n)
text_with (Plain (Lr rd r aq rl)) i o = two_parts (codes "lr.w" ++ order_suffix aq rl) (register rd) (base r)
text_with (Plain (Sc rd r n aq rl)) i o =
    three_parts (codes "sc.w" ++ order_suffix aq rl) (register rd) (register n) (base r)
text_with (Plain (Amo k rd r n aq rl)) i o =
    three_parts (amo_name k ++ order_suffix aq rl) (register rd) (register n) (base r)
text_with (Jump rd to) i o = two_parts (codes "jal") (register rd) (target_text to)
text_with (Conditional k r n to) i o = three_parts (branch_name k) (register r) (register n) (target_text to)
text_with (Plain (Jal rd z)) i o = absurd i
text_with (Plain (Branch k a b z)) i o = absurd i
text_with (Plain (Fence rd r bits)) i o = absurd o
text_with (Plain Ecall) i o = absurd o
text_with (Plain Ebreak) i o = absurd o
text_with (Plain (Illegal word)) i o = absurd o

pub text_without : (w : Written) → (HasOperands w → ⊥) → written_text w ≡ mnemonic_text (mnemonic_in w)
text_without (Plain (Fence rd r bits)) o = refl
text_without (Plain Ecall) o = refl
text_without (Plain Ebreak) o = refl
text_without (Plain (Illegal word)) o = refl
text_without (Plain (Lui rd n)) o = absurd (o tt)
text_without (Plain (Auipc rd n)) o = absurd (o tt)
text_without (Plain (Jalr rd r z)) o = absurd (o tt)
text_without (Plain (Load k rd r z)) o = absurd (o tt)
text_without (Plain (Store k r rd z)) o = absurd (o tt)
text_without (Plain (OpImm k rd r z)) o = absurd (o tt)
text_without (Plain (ShiftImm k rd r n)) o = absurd (o tt)
text_without (NegativeShift k rd r n) o = absurd (o tt)
text_without (Plain (Op k rd r n)) o = absurd (o tt)
text_without (Plain (Lr rd r aq rl)) o = absurd (o tt)
text_without (Plain (Sc rd r n aq rl)) o = absurd (o tt)
text_without (Plain (Amo k rd r n aq rl)) o = absurd (o tt)
text_without (Jump rd to) o = absurd (o tt)
text_without (Conditional k r n to) o = absurd (o tt)
text_without (Plain (Jal rd z)) o = absurd (o tt)
text_without (Plain (Branch k a b z)) o = absurd (o tt)

pub either_form : (w : Written) → HasOperands w ⊎ (HasOperands w → ⊥)
either_form (Plain (Fence rd r bits)) = inr (λ h. h)
either_form (Plain Ecall) = inr (λ h. h)
either_form (Plain Ebreak) = inr (λ h. h)
either_form (Plain (Illegal word)) = inr (λ h. h)
either_form w = inl tt

-- a mnemonic has no space
pub mnemonic_marks : (m : Mnemonic) → list_all is_mark (mnemonic_text m) ≡ true
mnemonic_marks mnemonic.Lui = refl
mnemonic_marks mnemonic.Auipc = refl
mnemonic_marks mnemonic.Jal = refl
mnemonic_marks mnemonic.Jalr = refl
mnemonic_marks mnemonic.Fence = refl
mnemonic_marks mnemonic.Ecall = refl
mnemonic_marks mnemonic.Ebreak = refl
mnemonic_marks mnemonic.Illegal = refl
mnemonic_marks (mnemonic.Branch Eq) = refl
mnemonic_marks (mnemonic.Branch Ne) = refl
mnemonic_marks (mnemonic.Branch Lt) = refl
mnemonic_marks (mnemonic.Branch Ge) = refl
mnemonic_marks (mnemonic.Branch Ltu) = refl
mnemonic_marks (mnemonic.Branch Geu) = refl
mnemonic_marks (mnemonic.Load load_kind.Byte) = refl
mnemonic_marks (mnemonic.Load load_kind.Half) = refl
mnemonic_marks (mnemonic.Load load_kind.Word) = refl
mnemonic_marks (mnemonic.Load load_kind.ByteU) = refl
mnemonic_marks (mnemonic.Load load_kind.HalfU) = refl
mnemonic_marks (mnemonic.Store width.Byte) = refl
mnemonic_marks (mnemonic.Store width.Half) = refl
mnemonic_marks (mnemonic.Store width.Word) = refl
mnemonic_marks (mnemonic.OpImm imm_op.Add) = refl
mnemonic_marks (mnemonic.OpImm imm_op.Slt) = refl
mnemonic_marks (mnemonic.OpImm imm_op.Sltu) = refl
mnemonic_marks (mnemonic.OpImm imm_op.Xor) = refl
mnemonic_marks (mnemonic.OpImm imm_op.Or) = refl
mnemonic_marks (mnemonic.OpImm imm_op.And) = refl
mnemonic_marks (mnemonic.ShiftImm shift_op.Sll) = refl
mnemonic_marks (mnemonic.ShiftImm shift_op.Srl) = refl
mnemonic_marks (mnemonic.ShiftImm shift_op.Sra) = refl
mnemonic_marks (mnemonic.Op op.Add) = refl
mnemonic_marks (mnemonic.Op op.Sub) = refl
mnemonic_marks (mnemonic.Op op.Sll) = refl
mnemonic_marks (mnemonic.Op op.Slt) = refl
mnemonic_marks (mnemonic.Op op.Sltu) = refl
mnemonic_marks (mnemonic.Op op.Xor) = refl
mnemonic_marks (mnemonic.Op op.Srl) = refl
mnemonic_marks (mnemonic.Op op.Sra) = refl
mnemonic_marks (mnemonic.Op op.Or) = refl
mnemonic_marks (mnemonic.Op op.And) = refl
mnemonic_marks (mnemonic.Op op.Mul) = refl
mnemonic_marks (mnemonic.Op op.Mulh) = refl
mnemonic_marks (mnemonic.Op op.Mulhsu) = refl
mnemonic_marks (mnemonic.Op op.Mulhu) = refl
mnemonic_marks (mnemonic.Op op.Div) = refl
mnemonic_marks (mnemonic.Op op.Divu) = refl
mnemonic_marks (mnemonic.Op op.Rem) = refl
mnemonic_marks (mnemonic.Op op.Remu) = refl
mnemonic_marks (mnemonic.Lr false false) = refl
mnemonic_marks (mnemonic.Lr true false) = refl
mnemonic_marks (mnemonic.Lr false true) = refl
mnemonic_marks (mnemonic.Lr true true) = refl
mnemonic_marks (mnemonic.Sc false false) = refl
mnemonic_marks (mnemonic.Sc true false) = refl
mnemonic_marks (mnemonic.Sc false true) = refl
mnemonic_marks (mnemonic.Sc true true) = refl
mnemonic_marks (mnemonic.Amo amo_op.Swap false false) = refl
mnemonic_marks (mnemonic.Amo amo_op.Swap true false) = refl
mnemonic_marks (mnemonic.Amo amo_op.Swap false true) = refl
mnemonic_marks (mnemonic.Amo amo_op.Swap true true) = refl
mnemonic_marks (mnemonic.Amo amo_op.Add false false) = refl
mnemonic_marks (mnemonic.Amo amo_op.Add true false) = refl
mnemonic_marks (mnemonic.Amo amo_op.Add false true) = refl
mnemonic_marks (mnemonic.Amo amo_op.Add true true) = refl
mnemonic_marks (mnemonic.Amo amo_op.Xor false false) = refl
mnemonic_marks (mnemonic.Amo amo_op.Xor true false) = refl
mnemonic_marks (mnemonic.Amo amo_op.Xor false true) = refl
mnemonic_marks (mnemonic.Amo amo_op.Xor true true) = refl
mnemonic_marks (mnemonic.Amo amo_op.And false false) = refl
mnemonic_marks (mnemonic.Amo amo_op.And true false) = refl
mnemonic_marks (mnemonic.Amo amo_op.And false true) = refl
mnemonic_marks (mnemonic.Amo amo_op.And true true) = refl
mnemonic_marks (mnemonic.Amo amo_op.Or false false) = refl
mnemonic_marks (mnemonic.Amo amo_op.Or true false) = refl
mnemonic_marks (mnemonic.Amo amo_op.Or false true) = refl
mnemonic_marks (mnemonic.Amo amo_op.Or true true) = refl
mnemonic_marks (mnemonic.Amo amo_op.Min false false) = refl
mnemonic_marks (mnemonic.Amo amo_op.Min true false) = refl
mnemonic_marks (mnemonic.Amo amo_op.Min false true) = refl
mnemonic_marks (mnemonic.Amo amo_op.Min true true) = refl
mnemonic_marks (mnemonic.Amo amo_op.Max false false) = refl
mnemonic_marks (mnemonic.Amo amo_op.Max true false) = refl
mnemonic_marks (mnemonic.Amo amo_op.Max false true) = refl
mnemonic_marks (mnemonic.Amo amo_op.Max true true) = refl
mnemonic_marks (mnemonic.Amo amo_op.Minu false false) = refl
mnemonic_marks (mnemonic.Amo amo_op.Minu true false) = refl
mnemonic_marks (mnemonic.Amo amo_op.Minu false true) = refl
mnemonic_marks (mnemonic.Amo amo_op.Minu true true) = refl
mnemonic_marks (mnemonic.Amo amo_op.Maxu false false) = refl
mnemonic_marks (mnemonic.Amo amo_op.Maxu true false) = refl
mnemonic_marks (mnemonic.Amo amo_op.Maxu false true) = refl
mnemonic_marks (mnemonic.Amo amo_op.Maxu true true) = refl

-- two cuts at the first space are one
pub cut_space : (xs us ys vs : List ℕ) → list_all is_mark xs ≡ true → list_all is_mark ys ≡ true
    → BeginsWithSpace us → BeginsWithSpace vs → xs ++ us ≡ ys ++ vs → (xs ≡ ys) × (us ≡ vs)
cut_space [] us [] vs p q m n e = (refl, e)
cut_space [] [] (y ∷ ys) vs p q m n e = let bad : ◌≡◌ {A = List ℕ} [] (y ∷ ys ++ vs) = e in absurd (cc)
cut_space [] (u ∷ us) (y ∷ ys) vs p q m n e =
    let same : y ≡ 32 = cc in
    absurd (false≢true (ap is_mark (sym same) ∙ (and_parts _ _ q).0))
cut_space (x ∷ xs) us [] [] p q m n e = let bad : ◌≡◌ {A = List ℕ} (x ∷ xs ++ us) [] = e in absurd (cc)
cut_space (x ∷ xs) us [] (v ∷ vs) p q m n e =
    let same : x ≡ 32 = cc in
    absurd (false≢true (ap is_mark (sym same) ∙ (and_parts _ _ p).0))
cut_space (x ∷ xs) us (y ∷ ys) vs p q m n e =
    let head : x ≡ y = cc in
    let tail : xs ++ us ≡ ys ++ vs = cc in
    let more = cut_space xs us ys vs (and_parts _ _ p).1 (and_parts _ _ q).1 m n tail in
    let all : x ∷ xs ≡ y ∷ ys = cc (more.0) in
    (all, more.1)

pub space_at : (xs : List ℕ) (i : ℕ) → is_mark (get_or xs i 0) ≡ false → BeginsWithSpace (drop i xs)
space_at [] zero e = tt
space_at [] (suc i) e = tt
space_at (x ∷ xs) zero e = grind (arith, nat_tests)
space_at (x ∷ xs) (suc i) e = space_at xs i e

pub space_last : (xs : List ℕ) (i : ℕ) → length xs ≤ i → BeginsWithSpace (drop i xs)
space_last [] zero e = tt
space_last [] (suc i) e = tt
space_last (x ∷ xs) zero e = absurd (omega arith)
space_last (x ∷ xs) (suc i) e = space_last xs i (omega arith)

pub split_with : (line name rest : List ℕ) (w : Written) → line ≡ name ++ rest → list_all is_mark name ≡ true
    → BeginsWithSpace rest
    → SaysInstruction line w → HasOperands w
    → (name ≡ mnemonic_text (mnemonic_in w)) × (rest ≡ codes " " ++ operands_in w)
split_with line name rest w e marks ends s o =
    cut_space name rest (mnemonic_text (mnemonic_in w)) (codes " " ++ operands_in w) marks
    (mnemonic_marks (mnemonic_in w)) ends refl
    (sym e ∙ s.line_is ∙ text_with w s.written o)

pub split_without : (line name rest : List ℕ) (w : Written) → line ≡ name ++ rest → list_all is_mark name ≡ true
    → BeginsWithSpace rest
    → SaysInstruction line w → (HasOperands w → ⊥) → (name ≡ mnemonic_text (mnemonic_in w)) × (rest ≡ [])
split_without line name rest w e marks ends s o =
    cut_space name rest (mnemonic_text (mnemonic_in w)) [] marks (mnemonic_marks (mnemonic_in w)) ends tt
    (sym e ∙ s.line_is ∙ text_without w o ∙ sym (append-nil (mnemonic_text (mnemonic_in w))))

pub name_is : (line name rest : List ℕ) (w : Written) → line ≡ name ++ rest → list_all is_mark name ≡ true
    → BeginsWithSpace rest
    → SaysInstruction line w → name ≡ mnemonic_text (mnemonic_in w)
name_is line name rest w e marks ends s = elim (either_form w) [
  | inl o ↦ (split_with line name rest w e marks ends s o).0
  | inr o ↦ (split_without line name rest w e marks ends s o).0
]

pub says_with : (line name rest operands : List ℕ) (m : Mnemonic) (found : Option WrittenInstruction) → line ≡ name ++ rest
    → rest ≡ codes " " ++ operands
    → name ≡ mnemonic_text m → IfSome found (λ c. (w : Written) × IsCommandWith m operands c w)
    → IfSome found (λ c. (w : Written) × SaysInstruction line w × IsReadCommand c w)
says_with line name rest operands m None e f g h = tt
says_with line name rest operands m (Some c) e f g h =
    let w = h.0 in
    let front : name ≡ mnemonic_text (mnemonic_in w) = g ∙ ap mnemonic_text (sym h.1.mnemonic_is) in
    let back : rest ≡ codes " " ++ operands_in w = f ∙ ap (λ t. codes " " ++ t) h.1.text_is in (
      w,
      record {
        line_is = e ∙ ap (λ t. t ++ rest) front ∙ ap (λ t. mnemonic_text (mnemonic_in w) ++ t) back ∙ sym
            (text_with w h.1.written h.1.some);
        written = h.1.written;
      },
      h.1.read,
    )

pub says_without : (line name rest : List ℕ) (m : Mnemonic) (found : Option WrittenInstruction) → line ≡ name ++ rest → rest ≡ []
    → name ≡ mnemonic_text m → IfSome found (λ c. (w : Written) × IsCommandWithout m c w)
    → IfSome found (λ c. (w : Written) × SaysInstruction line w × IsReadCommand c w)
says_without line name rest m None e f g h = tt
says_without line name rest m (Some c) e f g h =
    let w = h.0 in
    let front : name ≡ mnemonic_text (mnemonic_in w) = g ∙ ap mnemonic_text (sym h.1.mnemonic_is) in (
      w,
      record {
        line_is = e ∙ ap (λ t. name ++ t) f ∙ append-nil name ∙ front ∙ sym (text_without w h.1.none);
        written = h.1.written;
      },
      h.1.read,
    )

-- nothing, where it doesn't begin with a space
pub nothing_left : (rest : List ℕ) → BeginsWithSpace rest → ((t : List ℕ) → rest ≡ codes " " ++ t → ⊥) → rest ≡ []
nothing_left [] b h = refl
nothing_left (c ∷ cs) b h = absurd (h cs (ap (λ x. x ∷ cs) b))
