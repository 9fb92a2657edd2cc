-- The text of an instruction tells the instruction.
use Rattle.std.proofs.Common.{◌≡◌, ℕ, ◌^◌, ◌<◌, List, ◌∷◌, ◌++◌, refl, sym, ap, ◌∙◌, subst, arith, ℤ, pos, append_assoc}
use Rattle.std.specs.Prelude.{Option, Some, None, codes, IsSomeAnd}
use Rattle.std.specs.Fmt.{decimal, signed_decimal}
use Rattle.std.proofs.lemmas.List.{append_cancel_left}
use Rattle.std.proofs.lemmas.Fmt.{decimal_injective}
use Rattle.rv32_decode.specs.Rows.{instruction_of}
use Rattle.rv32_decode.specs.Words.{IsInRange, word_of}
use Rattle.rv32_decode.specs.declared.Instr.{Instr}
use Rattle.rv32_decode.specs.declared.Instr.TheVariants.{Lui, Auipc, Jal, Jalr, Branch, Load, Store, OpImm, ShiftImm, Op, Fence, Ecall, Ebreak, Lr, Sc, Amo, Illegal}
use Rattle.rv32_text.specs.Listing.{text_of, text_of_word, text_of_decoded, register, base, indexed, upper_digits, target, branch_name, load_name, store_name, imm_name, shift_name, op_name, amo_name, order_suffix, with_two, with_three}
use Rattle.rv32_text.specs.Telling.{ShowsAll}
use Rattle.rv32_text.proofs.KindOf.{kind, kind_of, kind_of_text, kind_of_unknown}
use Rattle.rv32_text.proofs.OperandLaws.{register_told, register_told_last, base_told, immediate_told, indexed_told, upper_told, target_told, branch_target_told}

-- the operands of an instruction, whatever its kind
record Operands : Type 0 where
  first : ℕ
  second : ℕ
  third : ℕ
  number : ℤ

abbrev operands : Instr → Operands
operands (Lui rd upper) = record { first = rd; second = upper; third = 0; number = pos 0 }
operands (Auipc rd upper) = record { first = rd; second = upper; third = 0; number = pos 0 }
operands (Jal rd offset) = record { first = rd; second = 0; third = 0; number = offset }
operands (Jalr rd rs1 imm) = record { first = rd; second = rs1; third = 0; number = imm }
operands (Branch c rs1 rs2 offset) = record { first = rs1; second = rs2; third = 0; number = offset }
operands (Load k rd rs1 imm) = record { first = rd; second = rs1; third = 0; number = imm }
operands (Store w rs1 rs2 imm) = record { first = rs1; second = rs2; third = 0; number = imm }
operands (OpImm o rd rs1 imm) = record { first = rd; second = rs1; third = 0; number = imm }
operands (ShiftImm o rd rs1 amount) = record { first = rd; second = rs1; third = amount; number = pos 0 }
operands (Op o rd rs1 rs2) = record { first = rd; second = rs1; third = rs2; number = pos 0 }
operands (Lr rd rs1 aq rl) = record { first = rd; second = rs1; third = 0; number = pos 0 }
operands (Sc rd rs1 rs2 aq rl) = record { first = rd; second = rs1; third = rs2; number = pos 0 }
operands (Amo o rd rs1 rs2 aq rl) = record { first = rd; second = rs1; third = rs2; number = pos 0 }
operands i = record { first = 0; second = 0; third = 0; number = pos 0 }

-- the instruction of a kind with these operands
abbrev filled : Instr → Operands → Instr
filled (Lui rd upper) f = Lui f.first f.second
filled (Auipc rd upper) f = Auipc f.first f.second
filled (Jal rd offset) f = Jal f.first f.number
filled (Jalr rd rs1 imm) f = Jalr f.first f.second f.number
filled (Branch c rs1 rs2 offset) f = Branch c f.first f.second f.number
filled (Load k rd rs1 imm) f = Load k f.first f.second f.number
filled (Store w rs1 rs2 imm) f = Store w f.first f.second f.number
filled (OpImm o rd rs1 imm) f = OpImm o f.first f.second f.number
filled (ShiftImm o rd rs1 amount) f = ShiftImm o f.first f.second f.third
filled (Op o rd rs1 rs2) f = Op o f.first f.second f.third
filled (Lr rd rs1 aq rl) f = Lr f.first f.second aq rl
filled (Sc rd rs1 rs2 aq rl) f = Sc f.first f.second f.third aq rl
filled (Amo o rd rs1 rs2 aq rl) f = Amo o f.first f.second f.third aq rl
filled i f = i

filled_again : (i : Instr) → ShowsAll i → filled (kind i) (operands i) ≡ i
filled_again (Lui rd upper) s = refl
filled_again (Auipc rd upper) s = refl
filled_again (Jal rd offset) s = refl
filled_again (Jalr rd rs1 imm) s = refl
filled_again (Branch c rs1 rs2 offset) s = refl
filled_again (Load k rd rs1 imm) s = refl
filled_again (Store w rs1 rs2 imm) s = refl
filled_again (OpImm o rd rs1 imm) s = refl
filled_again (ShiftImm o rd rs1 amount) s = refl
filled_again (Op o rd rs1 rs2) s = refl
filled_again (Fence rd rs1 bits) s = absurd s
filled_again Ecall s = refl
filled_again Ebreak s = refl
filled_again (Lr rd rs1 aq rl) s = refl
filled_again (Sc rd rs1 rs2 aq rl) s = refl
filled_again (Amo o rd rs1 rs2 aq rl) s = refl
filled_again (Illegal word) s = absurd s

-- the kind tells whether the text shows all
kind_shows : (i : Instr) → ShowsAll i → ShowsAll (kind i)
kind_shows (Fence rd rs1 bits) s = s
kind_shows (Illegal word) s = s
kind_shows (Lui rd upper) s = tt
kind_shows (Auipc rd upper) s = tt
kind_shows (Jal rd offset) s = tt
kind_shows (Jalr rd rs1 imm) s = tt
kind_shows (Branch c rs1 rs2 offset) s = tt
kind_shows (Load k rd rs1 imm) s = tt
kind_shows (Store w rs1 rs2 imm) s = tt
kind_shows (OpImm o rd rs1 imm) s = tt
kind_shows (ShiftImm o rd rs1 amount) s = tt
kind_shows (Op o rd rs1 rs2) s = tt
kind_shows Ecall s = tt
kind_shows Ebreak s = tt
kind_shows (Lr rd rs1 aq rl) s = tt
kind_shows (Sc rd rs1 rs2 aq rl) s = tt
kind_shows (Amo o rd rs1 rs2 aq rl) s = tt

shows_kind : (i : Instr) → ShowsAll (kind i) → ShowsAll i
shows_kind (Fence rd rs1 bits) s = s
shows_kind (Illegal word) s = s
shows_kind (Lui rd upper) s = tt
shows_kind (Auipc rd upper) s = tt
shows_kind (Jal rd offset) s = tt
shows_kind (Jalr rd rs1 imm) s = tt
shows_kind (Branch c rs1 rs2 offset) s = tt
shows_kind (Load k rd rs1 imm) s = tt
shows_kind (Store w rs1 rs2 imm) s = tt
shows_kind (OpImm o rd rs1 imm) s = tt
shows_kind (ShiftImm o rd rs1 amount) s = tt
shows_kind (Op o rd rs1 rs2) s = tt
shows_kind Ecall s = tt
shows_kind Ebreak s = tt
shows_kind (Lr rd rs1 aq rl) s = tt
shows_kind (Sc rd rs1 rs2 aq rl) s = tt
shows_kind (Amo o rd rs1 rs2 aq rl) s = tt

opened : (name first rest : List ℕ) → name ++ codes " " ++ first ++ codes ", " ++ rest ≡ name ++ 32 ∷ (first ++ 44 ∷ 32 ∷ rest)
opened name first rest = simp append_assoc

-- a mnemonic and two operands, the first of them a register
two_told : (name : List ℕ) (r s : ℕ) (us vs : List ℕ) → r < 32 → s < 32
    → with_two name (register r) us ≡ with_two name (register s) vs → (r ≡ s) × (us ≡ vs)
two_told name r s us vs p q e =
    let opened_texts = sym (opened name (register r) us) ∙ e ∙ opened name (register s) vs in
    let after : 32 ∷ (register r ++ 44 ∷ 32 ∷ us) ≡ 32 ∷ (register s ++ 44 ∷ 32 ∷ vs) = append_cancel_left name _ _ opened_texts in
    let tail : register r ++ 44 ∷ 32 ∷ us ≡ register s ++ 44 ∷ 32 ∷ vs = cc (after) in
    let both = register_told 44 r s (32 ∷ us) (32 ∷ vs) (omega arith) p q tail in
    let rest : us ≡ vs = cc (both.1) in
    (both.0, rest)

closed : (name first second third : List ℕ) → with_three name first second third ≡ with_two name first (second ++ 44 ∷ 32 ∷ third)
closed name first second third = simp append_assoc

-- a mnemonic and three operands, the first two of them registers
three_told : (name : List ℕ) (r s m n : ℕ) (us vs : List ℕ) → r < 32 → s < 32 → m < 32 → n < 32
    → with_three name (register r) (register m) us ≡ with_three name (register s) (register n) vs → (r ≡ s) × (m ≡ n) × (us ≡ vs)
three_told name r s m n us vs p q h k e =
    let closed_texts = sym (closed name (register r) (register m) us) ∙ e ∙ closed name (register s) (register n) vs in
    let first = two_told name r s (register m ++ 44 ∷ 32 ∷ us) (register n ++ 44 ∷ 32 ∷ vs) p q closed_texts in
    let both = register_told 44 m n (32 ∷ us) (32 ∷ vs) (omega arith) h k first.1 in
    let rest : us ≡ vs = cc (both.1) in
    (first.0, both.0, rest)

-- of one kind, the text tells the operands
operands_told : (address : ℕ) (k : Instr) (f g : Operands) → IsInRange (filled k f) → IsInRange (filled k g) → ShowsAll k
    → text_of address (filled k f) ≡ text_of address (filled k g) → filled k f ≡ filled k g
operands_told address (Lui rd upper) f g p q s e =
    let h = two_told (codes "lui") f.first g.first (upper_digits f.second) (upper_digits g.second) p.0 q.0 e in
    let n = upper_told f.second g.second p.1 q.1 h.1 in
    cc (h.0, n)
operands_told address (Auipc rd upper) f g p q s e =
    let h = two_told (codes "auipc") f.first g.first (upper_digits f.second) (upper_digits g.second) p.0 q.0 e in
    let n = upper_told f.second g.second p.1 q.1 h.1 in
    cc (h.0, n)
operands_told address (Jal rd offset) f g p q s e =
    let h = two_told (codes "jal") f.first g.first (target address f.number) (target address g.number) p.0 q.0 e in
    let n = target_told address f.number g.number p.1 p.2 q.1 q.2 h.1 in
    cc (h.0, n)
operands_told address (Jalr rd rs1 imm) f g p q s e =
    let h = two_told (codes "jalr") f.first g.first (indexed f.number f.second) (indexed g.number g.second) p.0 q.0 e in
    let n = indexed_told f.number g.number f.second g.second p.2 p.3 q.2 q.3 p.1 q.1 h.1 in
    cc (h.0, n.0, n.1)
operands_told address (Branch c rs1 rs2 offset) f g p q s e =
    let h = three_told (branch_name c) f.first g.first f.second g.second (target address f.number) (target address g.number) p.0 q.0 p.1 q.1 e in
    let n = branch_target_told address f.number g.number p.2 p.3 q.2 q.3 h.2 in
    cc (h.0, h.1, n)
operands_told address (Load k rd rs1 imm) f g p q s e =
    let h = two_told (load_name k) f.first g.first (indexed f.number f.second) (indexed g.number g.second) p.0 q.0 e in
    let n = indexed_told f.number g.number f.second g.second p.2 p.3 q.2 q.3 p.1 q.1 h.1 in
    cc (h.0, n.0, n.1)
operands_told address (Store w rs1 rs2 imm) f g p q s e =
    let h = two_told (store_name w) f.second g.second (indexed f.number f.first) (indexed g.number g.first) p.1 q.1 e in
    let n = indexed_told f.number g.number f.first g.first p.2 p.3 q.2 q.3 p.0 q.0 h.1 in
    cc (h.0, n.0, n.1)
operands_told address (OpImm o rd rs1 imm) f g p q s e =
    let h = three_told (imm_name o) f.first g.first f.second g.second (signed_decimal f.number) (signed_decimal g.number) p.0 q.0 p.1 q.1 e in
    let n = immediate_told f.number g.number p.2 p.3 q.2 q.3 h.2 in
    cc (h.0, h.1, n)
operands_told address (ShiftImm o rd rs1 amount) f g p q s e =
    let h = three_told (shift_name o) f.first g.first f.second g.second (decimal f.third) (decimal g.third) p.0 q.0 p.1 q.1 e in
    let n = decimal_injective f.third g.third (omega (arith, p.2)) (omega (arith, q.2)) h.2 in
    cc (h.0, h.1, n)
operands_told address (Op o rd rs1 rs2) f g p q s e =
    let h = three_told (op_name o) f.first g.first f.second g.second (register f.third) (register g.third) p.0 q.0 p.1 q.1 e in
    let n = register_told_last f.third g.third p.2 q.2 h.2 in
    cc (h.0, h.1, n)
operands_told address (Fence rd rs1 bits) f g p q s e = absurd s
operands_told address Ecall f g p q s e = refl
operands_told address Ebreak f g p q s e = refl
operands_told address (Lr rd rs1 aq rl) f g p q s e =
    let h = two_told (codes "lr.w" ++ order_suffix aq rl) f.first g.first (base f.second) (base g.second) p.0 q.0 e in
    let n = base_told f.second g.second p.1 q.1 h.1 in
    cc (h.0, n)
operands_told address (Sc rd rs1 rs2 aq rl) f g p q s e =
    let h = three_told (codes "sc.w" ++ order_suffix aq rl) f.first g.first f.third g.third (base f.second) (base g.second) p.0 q.0 p.2 q.2 e in
    let n = base_told f.second g.second p.1 q.1 h.2 in
    cc (h.0, h.1, n)
operands_told address (Amo o rd rs1 rs2 aq rl) f g p q s e =
    let h = three_told (amo_name o ++ order_suffix aq rl) f.first g.first f.third g.third (base f.second) (base g.second) p.0 q.0 p.2 q.2 e in
    let n = base_told f.second g.second p.1 q.1 h.2 in
    cc (h.0, h.1, n)
operands_told address (Illegal word) f g p q s e = absurd s

-- the text tells the instruction
pub instruction_told : (address : ℕ) (i j : Instr) → IsInRange i → IsInRange j → ShowsAll i → text_of address i ≡ text_of address j → i ≡ j
instruction_told address i j p q s e =
    let found : Some (kind i) ≡ Some (kind j) = sym (kind_of_text address i) ∙ ap kind_of e ∙ kind_of_text address j in
    let same : kind i ≡ kind j = cc in
    let shown = kind_shows i s in
    let left : filled (kind i) (operands i) ≡ i = filled_again i s in
    let right : filled (kind i) (operands j) ≡ j =
    ap (λ k. filled k (operands j)) same ∙ filled_again j (shows_kind j (subst ShowsAll same shown)) in
    let texts : text_of address (filled (kind i) (operands i)) ≡ text_of address (filled (kind i) (operands j)) =
    ap (text_of address) left ∙ e ∙ sym (ap (text_of address) right) in
    sym left ∙ operands_told address (kind i) (operands i) (operands j) (subst IsInRange (sym left) p) (subst IsInRange (sym right) q) shown texts ∙ right

-- each word's instruction is within its ranges
abbrev pub AllInRange : Type 0
AllInRange = (word : ℕ) (i : Instr) → instruction_of word ≡ Some i → IsInRange i

-- each word that has an instruction is that instruction's
abbrev pub AllWords : Type 0
AllWords = (word : ℕ) (i : Instr) → word < 2 ^ 32 → instruction_of word ≡ Some i → word ≡ word_of i

word_case : (address v w : ℕ) (a b : Option Instr) → AllInRange → AllWords → instruction_of v ≡ a → instruction_of w ≡ b → v < 2 ^ 32 → w < 2 ^ 32 → IsSomeAnd a ShowsAll
    → text_of_decoded address a ≡ text_of_decoded address b → v ≡ w
word_case address v w None b ranges words is at p q s e = absurd s
word_case address v w (Some i) None ranges words is at p q s e =
    let found : Some (kind i) ≡ None = sym (kind_of_text address i) ∙ ap kind_of e ∙ kind_of_unknown address in
    cc
word_case address v w (Some i) (Some j) ranges words is at p q s e =
    let same = instruction_told address i j (ranges v i is) (ranges w j at) s e in
    words v i p is ∙ ap word_of same ∙ sym (words w j q at)

-- the text tells the word
pub word_told : AllInRange → AllWords → (address v w : ℕ) → v < 2 ^ 32 → w < 2 ^ 32 → IsSomeAnd (instruction_of v) ShowsAll → text_of_word address v ≡ text_of_word address w → v ≡ w
word_told ranges words address v w p q s e = word_case address v w (instruction_of v) (instruction_of w) ranges words refl refl p q s e
