-- A text says one thing at most.
use Rattle.std.proofs.Common.{◌≡◌, ℕ, suc, ℤ, pos, negsuc, Bool, true, false, not, eqb, List, [], ◌∷◌, ◌++◌, get_or, refl, sym, ap, ◌∙◌, subst, arith, inl, inr}
use Rattle.std.specs.Prelude.{codes}
use Rattle.std.specs.Str.Parse.{digits_value}
use Rattle.std.proofs.lemmas.Bool.{and_parts, false≢true}
use Rattle.std.proofs.lemmas.List.{append-nil, append_cancel_left, append_cancel_right}
use Rattle.rv32_decode.specs.declared.Instr.TheVariants.{Lui, Auipc, Jal, Jalr, Branch, Load, Store, OpImm, ShiftImm, Op, Fence, Ecall, Ebreak, Lr, Sc, Amo, Illegal}
use Rattle.rv32_decode.specs.declared.IllegalWord.TheVariants.{Zeros, Ones, CycleWrite}
use Rattle.rv32_lines.specs.declared.numerals.Base.{Base}
use Rattle.rv32_lines.specs.declared.numerals.Base.TheVariants.{Decimal, Hexadecimal}
use Rattle.rv32_lines.specs.declared.mnemonics.Mnemonic.{Mnemonic}
use Rattle.rv32_lines.specs.Texts.{Target, Address, Name, Written, Plain, NegativeShift, Jump, Conditional, numeral, register, base, signed_numeral, indexed, upper_digits, target_text, written_text}
use Rattle.rv32_lines.specs.Statements.{Statement, Nothing, Segment, Label, Bytes, Word, Space, Zero, Entry, Instruction, Unread, IsNumber, IsKind, is_hexadecimal_digit, is_letter, is_name, IsTarget, IsWritten, Says, SaysNothing, SaysWithin, SaysInstruction, IsRead, AreRead, IsReading, lines_of}
use Rattle.rv32_lines.specs.Reading.{radix, EndsDigits, mnemonic_text, mnemonic_in, operands_in, HasOperands, IsDirective}
use Rattle.rv32_lines.proofs.Spelling.{digits_of_numeral, value_of_numeral}
use Rattle.rv32_lines.proofs.EightDigits.{value_of_word}
use Rattle.rv32_lines.proofs.Cutting.{cut_once}
use Rattle.rv32_lines.proofs.Signs.{begins}
use Rattle.rv32_lines.proofs.Pairs.{paired, paired_bytes}
use Rattle.rv32_lines.proofs.Bare.{bare_once}
use Rattle.rv32_lines.proofs.KindOf.{kind_told, all_kinds}
use Rattle.rv32_lines.proofs.Forms.{text_with, text_without, either_form, split_with, split_without, name_is, mnemonic_marks}
use Rattle.rv32_lines.proofs.Saying.{label_letter, instruction_letter, label_no_instruction, nothing_first, point_first, key_of, key_told}

-- numbers and operands
numeral_once : (b : Base) (n m : ℕ) (x y : List ℕ) → EndsDigits b x → EndsDigits b y
    → numeral (radix b) n ++ x ≡ numeral (radix b) m ++ y
    → (n ≡ m) × (x ≡ y)
numeral_once b n m x y p q e =
    let cut = cut_once b (numeral (radix b) n) x (numeral (radix b) m) y (digits_of_numeral b n) (digits_of_numeral b m)
    p q e in
    (sym (value_of_numeral b n) ∙ ap (digits_value (radix b)) cut.0 ∙ value_of_numeral b m, cut.1)

register_once : (r q : ℕ) (x y : List ℕ) → EndsDigits Decimal x → EndsDigits Decimal y
    → register r ++ x ≡ register q ++ y → (r ≡ q) × (x ≡ y)
register_once r q x y a b e =
    numeral_once Decimal r q x y a b (append_cancel_left (codes "x") (numeral 10 r ++ x) (numeral 10 q ++ y) e)

last_register : (r q : ℕ) → register r ≡ register q → r ≡ q
last_register r q e = (register_once r q [] [] tt tt (append-nil (register r) ∙ e ∙ sym (append-nil (register q)))).0

-- a register, a comma, and what stands behind them
listed_once : (r q : ℕ) (x y : List ℕ) → register r ++ (codes ", " ++ x) ≡ register q ++ (codes ", " ++ y)
    → (r ≡ q) × (x ≡ y)
listed_once r q x y e =
    let one = register_once r q (codes ", " ++ x) (codes ", " ++ y) refl refl e in
    (one.0, append_cancel_left (codes ", ") x y one.1)

signed_once : (z w : ℤ) (x y : List ℕ) → EndsDigits Decimal x → EndsDigits Decimal y
    → signed_numeral z ++ x ≡ signed_numeral w ++ y → (z ≡ w) × (x ≡ y)
signed_once (pos n) (pos m) x y a b e = let one = numeral_once Decimal n m x y a b e in (ap pos one.0, one.1)
signed_once (pos n) (negsuc m) x y a b e = absurd (begins Decimal n x (numeral 10 (suc m) ++ y) 45 refl (sym e))
signed_once (negsuc n) (pos m) x y a b e = absurd (begins Decimal m y (numeral 10 (suc n) ++ x) 45 refl e)
signed_once (negsuc n) (negsuc m) x y a b e =
    let one = numeral_once Decimal (suc n) (suc m) x y a b
    (append_cancel_left (codes "-") (numeral 10 (suc n) ++ x) (numeral 10 (suc m) ++ y) e) in
    let same : n ≡ m = omega (arith, one.0) in
    (ap negsuc same, one.1)

last_signed : (z w : ℤ) → signed_numeral z ≡ signed_numeral w → z ≡ w
last_signed z w e =
    (signed_once z w [] [] tt tt (append-nil (signed_numeral z) ∙ e ∙ sym (append-nil (signed_numeral w)))).0

last_amount : (b : Base) (n m : ℕ) → numeral (radix b) n ≡ numeral (radix b) m → n ≡ m
last_amount b n m e =
    (numeral_once b n m [] [] tt tt (append-nil (numeral (radix b) n) ∙ e ∙ sym (append-nil (numeral (radix b) m)))).0

last_upper : (n m : ℕ) → upper_digits n ≡ upper_digits m → n ≡ m
last_upper n m e = last_amount Hexadecimal n m (append_cancel_left (codes "0x") (numeral 16 n) (numeral 16 m) e)

last_base : (r q : ℕ) → base r ≡ base q → r ≡ q
last_base r q e =
    (register_once r q (codes ")") (codes ")") refl refl
    (append_cancel_left (codes "(") (register r ++ codes ")") (register q ++ codes ")") e)).0

last_indexed : (z w : ℤ) (r q : ℕ) → indexed z r ≡ indexed w q → (z ≡ w) × (r ≡ q)
last_indexed z w r q e = let one = signed_once z w (base r) (base q) refl refl e in (one.0, last_base r q one.1)

no_name : (digits name : List ℕ) → is_name name ≡ true → codes "0x" ++ digits ≡ name → ⊥
no_name digits [] n e = false≢true n
no_name digits (c ∷ cs) n e =
    let same : 48 ≡ c = cc in
    false≢true (ap is_letter same ∙ (and_parts _ _ n).0)

last_target : (s t : Target) → IsTarget s → IsTarget t → target_text s ≡ target_text t → s ≡ t
last_target (Address d) (Address f) p q e = ap Address (append_cancel_left (codes "0x") d f e)
last_target (Address d) (Name n) p q e = absurd (no_name d n q e)
last_target (Name n) (Address d) p q e = absurd (no_name d n p (sym e))
last_target (Name n) (Name m) p q e = ap Name e

same_shift : (a b r s : ℕ) (y z : ℤ)
    → register a ++ (codes ", " ++ register r ++ (codes ", " ++ signed_numeral y)) ≡ register b ++ (codes ", " ++ register s
    ++ (codes ", " ++ signed_numeral z))
    → (a ≡ b) × (r ≡ s) × (y ≡ z)
same_shift a b r s y z e =
    let l = listed_once a b (register r ++ (codes ", " ++ signed_numeral y))
    (register s ++ (codes ", " ++ signed_numeral z)) e in
    let m = listed_once r s (signed_numeral y) (signed_numeral z) l.1 in
    (l.0, m.0, last_signed y z m.1)

-- instructions
same_operands : (w v : Written) → IsWritten w → IsWritten v → mnemonic_in w ≡ mnemonic_in v
    → (HasOperands w → operands_in w ≡ operands_in v) → w ≡ v
same_operands (Plain (Jal rd z)) v p q k e = absurd p
same_operands (Plain (Branch c a b z)) v p q k e = absurd p
same_operands (Plain (Illegal Ones)) v p q k e = absurd p
same_operands (Plain (Illegal CycleWrite)) v p q k e = absurd p
same_operands w (Plain (Jal rd z)) p q k e = absurd q
same_operands w (Plain (Branch c a b z)) p q k e = absurd q
same_operands w (Plain (Illegal Ones)) p q k e = absurd q
same_operands w (Plain (Illegal CycleWrite)) p q k e = absurd q
same_operands (Plain (Lui a n)) (Plain (Lui b m)) p q k e =
    let l = listed_once a b (upper_digits n) (upper_digits m) (e tt) in
    let u = last_upper n m l.1 in
    cc (l.0, u)
same_operands (Plain (Auipc a n)) (Plain (Auipc b m)) p q k e =
    let l = listed_once a b (upper_digits n) (upper_digits m) (e tt) in
    let u = last_upper n m l.1 in
    cc (l.0, u)
same_operands (Plain (Jalr a r y)) (Plain (Jalr b s z)) p q k e =
    let l = listed_once a b (indexed y r) (indexed z s) (e tt) in
    let u = last_indexed y z r s l.1 in
    cc (l.0, u.0, u.1)
same_operands (Plain (Load i a r y)) (Plain (Load j b s z)) p q k e =
    let l = listed_once a b (indexed y r) (indexed z s) (e tt) in
    let u = last_indexed y z r s l.1 in
    cc (k, l.0, u.0, u.1)
same_operands (Plain (Store i r a y)) (Plain (Store j s b z)) p q k e =
    let l = listed_once a b (indexed y r) (indexed z s) (e tt) in
    let u = last_indexed y z r s l.1 in
    cc (k, l.0, u.0, u.1)
same_operands (Plain (OpImm i a r y)) (Plain (OpImm j b s z)) p q k e =
    let l = listed_once a b (register r ++ (codes ", " ++ signed_numeral y))
    (register s ++ (codes ", " ++ signed_numeral z)) (e tt) in
    let m = listed_once r s (signed_numeral y) (signed_numeral z) l.1 in
    let u = last_signed y z m.1 in
    cc (k, l.0, m.0, u)
same_operands (Plain (ShiftImm i a r y)) (Plain (ShiftImm j b s z)) p q k e =
    let l = same_shift a b r s (pos y) (pos z) (e tt) in
    cc (k, l.0, l.1, l.2)
same_operands (Plain (ShiftImm i a r y)) (NegativeShift j b s z) p q k e =
    let l = same_shift a b r s (pos y) (negsuc z) (e tt) in
    absurd (cc (l.2))
same_operands (NegativeShift i a r y) (Plain (ShiftImm j b s z)) p q k e =
    let l = same_shift a b r s (negsuc y) (pos z) (e tt) in
    absurd (cc (l.2))
same_operands (NegativeShift i a r y) (NegativeShift j b s z) p q k e =
    let l = same_shift a b r s (negsuc y) (negsuc z) (e tt) in
    cc (k, l.0, l.1, l.2)
same_operands (Plain (Op i a r y)) (Plain (Op j b s z)) p q k e =
    let l = listed_once a b (register r ++ (codes ", " ++ register y)) (register s ++ (codes ", " ++ register z))
    (e tt) in
    let m = listed_once r s (register y) (register z) l.1 in
    let u = last_register y z m.1 in
    cc (k, l.0, m.0, u)
same_operands (Plain (Fence a r f)) (Plain (Fence b s g)) p q k e = cc (p.0, p.1, p.2, q.0, q.1, q.2)
same_operands (Plain Ecall) (Plain Ecall) p q k e = refl
same_operands (Plain Ebreak) (Plain Ebreak) p q k e = refl
same_operands (Plain (Lr a r f g)) (Plain (Lr b s h i)) p q k e =
    let l = listed_once a b (base r) (base s) (e tt) in
    let u = last_base r s l.1 in
    cc (k, l.0, u)
same_operands (Plain (Sc a r y f g)) (Plain (Sc b s z h i)) p q k e =
    let l = listed_once a b (register y ++ (codes ", " ++ base r)) (register z ++ (codes ", " ++ base s)) (e tt) in
    let m = listed_once y z (base r) (base s) l.1 in
    let u = last_base r s m.1 in
    cc (k, l.0, m.0, u)
same_operands (Plain (Amo o a r y f g)) (Plain (Amo j b s z h i)) p q k e =
    let l = listed_once a b (register y ++ (codes ", " ++ base r)) (register z ++ (codes ", " ++ base s)) (e tt) in
    let m = listed_once y z (base r) (base s) l.1 in
    let u = last_base r s m.1 in
    cc (k, l.0, m.0, u)
same_operands (Plain (Illegal Zeros)) (Plain (Illegal Zeros)) p q k e = refl
same_operands (Jump a s) (Jump b t) p q k e =
    let l = listed_once a b (target_text s) (target_text t) (e tt) in
    let u = last_target s t p q l.1 in
    cc (l.0, u)
same_operands (Conditional c a r s) (Conditional d b v t) p q k e =
    let l = listed_once a b (register r ++ (codes ", " ++ target_text s)) (register v ++ (codes ", " ++ target_text t))
    (e tt) in
    let m = listed_once r v (target_text s) (target_text t) l.1 in
    let u = last_target s t p q m.1 in
    cc (k, l.0, m.0, u)
same_operands w v p q k e = absurd (cc)

says_itself : (w : Written) → IsWritten w → SaysInstruction (written_text w) w
says_itself w p = record { line_is = refl; written = p }

no_operands : (w v : Written) → IsWritten w → IsWritten v → HasOperands w → (HasOperands v → ⊥)
    → written_text w ≡ written_text v → ⊥
no_operands w v p q o n e =
    let cut = split_without (written_text w) (mnemonic_text (mnemonic_in w)) (codes " " ++ operands_in w) v
    (text_with w p o) (mnemonic_marks (mnemonic_in w)) refl
    (record { line_is = e; written = q }) n in
    let bad : ◌≡◌ {A = List ℕ} (codes " " ++ operands_in w) [] = cut.1 in
    absurd (cc)

-- the text of an instruction tells it
pub written_once : (w v : Written) → IsWritten w → IsWritten v → written_text w ≡ written_text v → w ≡ v
written_once w v p q e = elim (either_form w) [
  | inl o ↦
      elim (either_form v) [
        | inl n ↦
            (let cut = split_with (written_text w) (mnemonic_text (mnemonic_in w)) (codes " " ++ operands_in w) v
            (text_with w p o) (mnemonic_marks (mnemonic_in w)) refl
            (record { line_is = e; written = q }) n in
            same_operands w v p q (kind_told (mnemonic_in w) (mnemonic_in v) cut.0)
            (λ h. append_cancel_left (codes " ") (operands_in w) (operands_in v) cut.1))
        | inr n ↦ absurd (no_operands w v p q o n e)
      ]
  | inr o ↦
      elim (either_form v) [
        | inl n ↦ absurd (no_operands v w q p n o (sym e))
        | inr n ↦
            same_operands w v p q
            (kind_told (mnemonic_in w) (mnemonic_in v) (sym (text_without w o) ∙ e ∙ text_without v n))
            (λ h. absurd (o h))
      ]
]

-- the text of a word that decodes to nothing is no instruction's
no_mnemonic : (m : Mnemonic) → codes "unknown" ≡ mnemonic_text m → ⊥
no_mnemonic m e =
    let other : not (eqb (get_or (mnemonic_text m) 0 0) 117) ≡ true =
    all_kinds (λ m. not (eqb (get_or (mnemonic_text m) 0 0) 117)) refl m in
    let bad : false ≡ true = ap (λ t. not (eqb (get_or t 0 0) 117)) e ∙ other in
    false≢true bad

pub no_unknown : (w : Written) → IsWritten w → codes "unknown" ≡ written_text w → ⊥
no_unknown w p e =
    no_mnemonic (mnemonic_in w)
    (name_is (codes "unknown") (codes "unknown") [] w refl refl tt (record { line_is = e; written = p }))

-- lines
nothing_letter : (line : List ℕ) → SaysNothing line → is_letter (get_or line 0 0) ≡ true → ⊥
nothing_letter [] h e = false≢true e
nothing_letter (c ∷ cs) h e = let bad : false ≡ true = ap is_letter (sym h) ∙ e in false≢true bad

letter_no_point : (line : List ℕ) → is_letter (get_or line 0 0) ≡ true → get_or line 0 0 ≡ 46 → ⊥
letter_no_point line e p = let bad : false ≡ true = ap is_letter (sym p) ∙ e in false≢true bad

kinds_same : (a b d f k : List ℕ) → a ≡ k → b ≡ k → a ++ (codes " 0x" ++ d) ≡ b ++ (codes " 0x" ++ f) → d ≡ f
kinds_same a b d f k p q e =
    let same : k ++ (codes " 0x" ++ d) ≡ k ++ (codes " 0x" ++ f) =
    ap (λ t. t ++ (codes " 0x" ++ d)) (sym p) ∙ e ∙ ap (λ t. t ++ (codes " 0x" ++ f)) q in
    append_cancel_left (codes " 0x") d f (append_cancel_left k _ _ same)

-- the second byte tells two kinds apart
kinds_other : (a b d f k l : List ℕ) → a ≡ k → b ≡ l → (x y : ℕ) → get_or (k ++ (codes " 0x" ++ d)) 1 0 ≡ x
    → get_or (l ++ (codes " 0x" ++ f)) 1 0 ≡ y
    → (x ≡ y → ⊥) → a ++ (codes " 0x" ++ d) ≡ b ++ (codes " 0x" ++ f) → ⊥
kinds_other a b d f k l p q x y g h other e =
    let same : k ++ (codes " 0x" ++ d) ≡ l ++ (codes " 0x" ++ f) =
    ap (λ t. t ++ (codes " 0x" ++ d)) (sym p) ∙ e ∙ ap (λ t. t ++ (codes " 0x" ++ f)) q in
    other (sym g ∙ ap (λ t. get_or t 1 0) same ∙ h)

kind_once : (a b d f : List ℕ) (m n : ℕ) → IsKind a m → IsKind b n → a ++ (codes " 0x" ++ d) ≡ b ++ (codes " 0x" ++ f)
    → (m ≡ n) × (d ≡ f)
kind_once a b d f m n (inl p) (inl q) e = (p.1 ∙ sym q.1, kinds_same a b d f (codes "r") p.0 q.0 e)
kind_once a b d f m n (inr (inl p)) (inr (inl q)) e = (p.1 ∙ sym q.1, kinds_same a b d f (codes "rx") p.0 q.0 e)
kind_once a b d f m n (inr (inr p)) (inr (inr q)) e = (p.1 ∙ sym q.1, kinds_same a b d f (codes "rw") p.0 q.0 e)
kind_once a b d f m n (inl p) (inr (inl q)) e =
    absurd (kinds_other a b d f (codes "r") (codes "rx") p.0 q.0 32 120 refl refl (λ z. omega (arith, z)) e)
kind_once a b d f m n (inl p) (inr (inr q)) e =
    absurd (kinds_other a b d f (codes "r") (codes "rw") p.0 q.0 32 119 refl refl (λ z. omega (arith, z)) e)
kind_once a b d f m n (inr (inl p)) (inl q) e =
    absurd (kinds_other a b d f (codes "rx") (codes "r") p.0 q.0 120 32 refl refl (λ z. omega (arith, z)) e)
kind_once a b d f m n (inr (inl p)) (inr (inr q)) e =
    absurd (kinds_other a b d f (codes "rx") (codes "rw") p.0 q.0 120 119 refl refl (λ z. omega (arith, z)) e)
kind_once a b d f m n (inr (inr p)) (inl q) e =
    absurd (kinds_other a b d f (codes "rw") (codes "r") p.0 q.0 119 32 refl refl (λ z. omega (arith, z)) e)
kind_once a b d f m n (inr (inr p)) (inr (inl q)) e =
    absurd (kinds_other a b d f (codes "rw") (codes "rx") p.0 q.0 119 120 refl refl (λ z. omega (arith, z)) e)

same_value : (r : ℕ) (is : ℕ → Bool) (d f : List ℕ) (m n : ℕ) → IsNumber r is d m → IsNumber r is f n → d ≡ f → m ≡ n
same_value r is d f m n p q e = p.value ∙ ap (digits_value r) e ∙ sym q.value

same_directive : (line : List ℕ) (s t : Statement) → IsDirective s → IsDirective t → Says line s → Says line t
    → key_of s ≡ key_of t → s ≡ t
same_directive line Nothing t d f h g k = absurd d
same_directive line (Label n) t d f h g k = absurd d
same_directive line (Instruction w) t d f h g k = absurd d
same_directive line Unread t d f h g k = absurd d
same_directive line s Nothing d f h g k = absurd f
same_directive line s (Label n) d f h g k = absurd f
same_directive line s (Instruction w) d f h g k = absurd f
same_directive line s Unread d f h g k = absurd f
same_directive line (Segment a x) (Segment b y) d f h g k =
    let one = kind_once h.kind g.kind h.digits g.digits a b h.flags_are g.flags_are
    (append_cancel_left (codes ".segment ") _ _ (sym h.line_is ∙ g.line_is)) in
    let start = same_value 16 is_hexadecimal_digit h.digits g.digits x y h.start_is g.start_is one.1 in
    cc (one.0, start)
same_directive line (Bytes a) (Bytes b) d f h g k =
    ap Bytes
    (sym (paired_bytes a h.bytes_are) ∙ ap paired
    (append_cancel_left (codes ".bytes ") _ _ (sym h.line_is ∙ g.line_is)) ∙ paired_bytes b g.bytes_are)
same_directive line (Word a) (Word b) d f h g k =
    ap Word
    (sym (value_of_word a h.low) ∙ ap (digits_value 16)
    (append_cancel_left (codes ".word 0x") _ _ (sym h.line_is ∙ g.line_is)) ∙ value_of_word b g.low)
same_directive line (Space a) (Space b) d f h g k =
    ap Space (same_value 10 _ h.digits g.digits a b h.count_is g.count_is
    (append_cancel_left (codes ".space ") _ _ (sym h.line_is ∙ g.line_is)))
same_directive line (Zero a) (Zero b) d f h g k =
    ap Zero (same_value 10 _ h.digits g.digits a b h.count_is g.count_is
    (append_cancel_left (codes ".zero ") _ _ (sym h.line_is ∙ g.line_is)))
same_directive line (Entry a) (Entry b) d f h g k =
    ap Entry (sym (append-nil a) ∙ append_cancel_left (codes ".entry ") _ _ (sym h.line_is ∙ g.line_is) ∙ append-nil b)
same_directive line s t d f h g k = absurd (omega (arith, k))

both_directives : (line : List ℕ) (s t : Statement) → IsDirective s → IsDirective t → Says line s → Says line t → s ≡ t
both_directives line s t d f h g = same_directive line s t d f h g (sym (key_told line s d h) ∙ key_told line t f g)

says_once : (line : List ℕ) (s t : Statement) → Says line s → Says line t → s ≡ t
says_once line Unread t h g = absurd h
says_once line s Unread h g = absurd g
says_once line Nothing Nothing h g = refl
says_once line Nothing (Label n) h g = absurd (nothing_letter line h (label_letter line n g))
says_once line Nothing (Instruction w) h g = absurd (nothing_letter line h (instruction_letter line w g))
says_once line (Label n) Nothing h g = absurd (nothing_letter line g (label_letter line n h))
says_once line (Instruction w) Nothing h g = absurd (nothing_letter line g (instruction_letter line w h))
says_once line (Label n) (Label m) h g = ap Label (append_cancel_right n m (codes ":") (sym h.line_is ∙ g.line_is))
says_once line (Label n) (Instruction w) h g = absurd (label_no_instruction line n w h g)
says_once line (Instruction w) (Label n) h g = absurd (label_no_instruction line n w g h)
says_once line (Instruction w) (Instruction v) h g =
    ap Instruction (written_once w v h.written g.written (sym h.line_is ∙ g.line_is))
says_once line Nothing t h g = absurd (nothing_first line h (point_first line t tt g))
says_once line (Label n) t h g = absurd (letter_no_point line (label_letter line n h) (point_first line t tt g))
says_once line (Instruction w) t h g =
    absurd (letter_no_point line (instruction_letter line w h) (point_first line t tt g))
says_once line s Nothing h g = absurd (nothing_first line g (point_first line s tt h))
says_once line s (Label n) h g = absurd (letter_no_point line (label_letter line n g) (point_first line s tt h))
says_once line s (Instruction w) h g =
    absurd (letter_no_point line (instruction_letter line w g) (point_first line s tt h))
says_once line s t h g = both_directives line s t tt tt h g

within_once : (line : List ℕ) (s t : Statement) → SaysWithin line s → SaysWithin line t → s ≡ t
within_once line s t h g =
    says_once h.middle s t h.says
    (subst (λ (m : List ℕ). Says m t) (bare_once line g.middle h.middle g.bare h.bare) g.says)

read_once : (line : List ℕ) (s t : Statement) → IsRead line s → IsRead line t → s ≡ t
read_once line Unread Unread h g = refl
read_once line Unread t h g = absurd (h t g)
read_once line s Unread h g = absurd (g s h)
read_once line s t h g = within_once line s t h g

lines_once : (lines : List (List ℕ)) (a b : List Statement) → AreRead lines a → AreRead lines b → a ≡ b
lines_once [] a b h g = h ∙ sym g
lines_once (line ∷ lines) [] b h g = absurd h
lines_once (line ∷ lines) (s ∷ a) [] h g = absurd g
lines_once (line ∷ lines) (s ∷ a) (t ∷ b) h g =
    let head = read_once line s t h.0 g.0 in
    let tail = lines_once lines a b h.1 g.1 in
    cc (head, tail)

pub reading_once : (text : List ℕ) (a b : List Statement) → IsReading text a → IsReading text b → a ≡ b
reading_once text a b h g = lines_once (lines_of text) a b h g
