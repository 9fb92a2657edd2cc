-- The text of an instruction's word.
use Rattle.std.proofs.Common.{◌≡◌, ℕ, suc, ◌^◌, ◌<◌, ℤ, pos, negsuc, ◌-ℤ◌, ◌≤ℤ◌, List, ◌∷◌, ◌++◌, length, Option, None, Some, refl, sym, ap, ◌∙◌, subst, arith, inl, inr}
use Rattle.std.specs.Prelude.{codes, Result, Ok, Err}
use Rattle.std.specs.Fmt.{signed_decimal, digits}
use Rattle.std.proofs.lemmas.Int.{ints}
use Rattle.rv32_decode.specs.Rows.{instruction_of}
use Rattle.rv32_decode.specs.Rows as decoding
use Rattle.rv32_decode.specs.Words.{IsInRange}
use Rattle.rv32_decode.specs.declared.Cond.{Cond}
use Rattle.rv32_decode.specs.declared.Instr.{Instr}
use Rattle.rv32_decode.specs.declared.Instr.TheVariants.{Lui, Auipc, Jal, Jalr, Branch, Load, Store, OpImm, ShiftImm, Op, Fence, Ecall, Ebreak, Lr, Sc, Amo, Illegal}
use Rattle.rv32_decode.specs.declared.IllegalWord.TheVariants.{Zeros, Ones, CycleWrite}
use Rattle.rv32_text.specs.Listing.{branch_name, load_name, store_name, imm_name, shift_name, op_name, amo_name, order_suffix, with_two, with_three, word_digits, target_address, text_of, text_of_word, text_of_decoded}
use Rattle.rv32_text.specs.Listing as listing
use Rattle.rv32_lines.specs.Texts.{Target, Address, Name, Written, Plain, NegativeShift, Jump, Conditional, register, base, signed_numeral, indexed, upper_digits, target_text, IsPlain, plain_text}
use Rattle.rv32_lines.specs.Statements.{Statement, IsTarget, IsWritten}
use Rattle.rv32_lines.specs.Reading.{IsReadTarget, IsReadCommand}
use Rattle.rv32_lines.specs.declared.commands.WrittenInstruction.TheVariants as command
use Rattle.rv32_lines.specs.declared.operands.Target.{Target as ReadTarget}
use Rattle.rv32_lines.proofs.Spelling.{decimal_same, hexadecimal_same}
use Rattle.rv32_lines.proofs.EightDigits.{word_of_digits}
use Rattle.rv32_asm.specs.declared.refused.AsmRule.{AsmRule}
use Rattle.rv32_asm.specs.declared.refused.AsmRule.TheVariants as rule
use Rattle.rv32_asm.specs.Rules.{IsAddress, IsLong, IsOutOfRange}
use Rattle.rv32_asm.specs.Assembling.{IsResolved, HasText}
use Rattle.rv32_asm.specs.Standing.{IsFoundOffset, IsFoundWord}

-- operands
pub register_same : (r : ℕ) → r < 32 → listing.register r ≡ register r
register_same r h = ap (λ t. codes "x" ++ t) (decimal_same r (omega arith))

base_same : (r : ℕ) → r < 32 → listing.base r ≡ base r
base_same r h = ap (λ t. codes "(" ++ t ++ codes ")") (register_same r h)

signed_same : (z : ℤ) → negsuc 2047 ≤ℤ z → z ≤ℤ pos 2047 → signed_decimal z ≡ signed_numeral z
signed_same (pos n) a b = decimal_same n (omega (arith, ints, b))
signed_same (negsuc n) a b = ap (λ t. 45 ∷ t) (decimal_same (suc n) (omega (arith, ints, a)))

indexed_same : (z : ℤ) (r : ℕ) → negsuc 2047 ≤ℤ z → z ≤ℤ pos 2047 → r < 32 → listing.indexed z r ≡ indexed z r
indexed_same z r a b h =
    ap (λ t. t ++ listing.base r) (signed_same z a b) ∙ ap (λ t. signed_numeral z ++ t) (base_same r h)

upper_same : (n : ℕ) → n < 2 ^ 20 → listing.upper_digits n ≡ upper_digits n
upper_same n h = ap (λ t. codes "0x" ++ t) (hexadecimal_same n (omega arith))

pub two_same : (name a b x y : List ℕ) → a ≡ x → b ≡ y → with_two name a b ≡ with_two name x y
two_same name a b x y e f = ap (λ t. with_two name t b) e ∙ ap (λ t. with_two name x t) f

pub three_same : (name a b c x y z : List ℕ) → a ≡ x → b ≡ y → c ≡ z → with_three name a b c ≡ with_three name x y z
three_same name a b c x y z e f g =
    ap (λ t. with_three name t b c) e ∙ ap (λ t. with_three name x t c) f ∙ ap (λ t. with_three name x y t) g

-- the text of an instruction without a target is the same with numbers of any size
pub plain_same : (a : ℕ) (i : Instr) → IsPlain i → IsInRange i → text_of a i ≡ plain_text i
plain_same a (Lui rd n) p h = two_same (codes "lui") _ _ _ _ (register_same rd h.0) (upper_same n h.1)
plain_same a (Auipc rd n) p h = two_same (codes "auipc") _ _ _ _ (register_same rd h.0) (upper_same n h.1)
plain_same a (Jalr rd r z) p h = two_same (codes "jalr") _ _ _ _ (register_same rd h.0) (indexed_same z r h.2 h.3 h.1)
plain_same a (Load k rd r z) p h = two_same (load_name k) _ _ _ _ (register_same rd h.0) (indexed_same z r h.2 h.3 h.1)
plain_same a (Store k r q z) p h = two_same (store_name k) _ _ _ _ (register_same q h.1) (indexed_same z r h.2 h.3 h.0)
plain_same a (OpImm k rd r z) p h =
    three_same (imm_name k) _ _ _ _ _ _ (register_same rd h.0) (register_same r h.1) (signed_same z h.2 h.3)
plain_same a (ShiftImm k rd r n) p h =
    three_same (shift_name k) _ _ _ _ _ _ (register_same rd h.0) (register_same r h.1)
    (decimal_same n (omega (arith, h.2)))
plain_same a (Op k rd r n) p h =
    three_same (op_name k) _ _ _ _ _ _ (register_same rd h.0) (register_same r h.1) (register_same n h.2)
plain_same a (Fence rd r bits) p h = refl
plain_same a Ecall p h = refl
plain_same a Ebreak p h = refl
plain_same a (Lr rd r aq rl) p h =
    two_same (codes "lr.w" ++ order_suffix aq rl) _ _ _ _ (register_same rd h.0) (base_same r h.1)
plain_same a (Sc rd r n aq rl) p h =
    three_same (codes "sc.w" ++ order_suffix aq rl) _ _ _ _ _ _ (register_same rd h.0) (register_same n h.2)
    (base_same r h.1)
plain_same a (Amo k rd r n aq rl) p h =
    three_same (amo_name k ++ order_suffix aq rl) _ _ _ _ _ _ (register_same rd h.0) (register_same n h.2)
    (base_same r h.1)
plain_same a (Illegal word) p h = refl
plain_same a (Jal rd z) p h = absurd p
plain_same a (Branch k r n z) p h = absurd p

known_fence : instruction_of 0x0ff0000f ≡ Some (Fence 0 0 255)
unfolding instruction_of decoding.rows
known_fence = refl

known_zeros : instruction_of 0 ≡ Some (Illegal Zeros)
unfolding instruction_of decoding.rows
known_zeros = refl

fence_word : (rd r bits word : ℕ) → (rd ≡ 0) × (r ≡ 0) × (bits ≡ 255)
    → ((v : ℕ) → v < 2 ^ 32 → instruction_of v ≡ Some (Fence rd r bits) → v ≡ word) → word ≡ 0x0ff0000f
fence_word rd r bits word p only =
    let same : Some (Fence 0 0 255) ≡ Some (Fence rd r bits) = cc (p.0, p.1, p.2) in
    sym (only 0x0ff0000f (omega arith) (known_fence ∙ same))

shown : (a word : ℕ) (i : Instr) → IsPlain i → IsInRange i → instruction_of word ≡ Some i
    → text_of_word a word ≡ plain_text i
shown a word i p h e = ap (text_of_decoded a) e ∙ plain_same a i p h

pub plain_word : (all : List Statement) (a word : ℕ) (i : Instr) → IsPlain i → IsInRange i
    → instruction_of word ≡ Some i
    → ((v : ℕ) → v < 2 ^ 32 → instruction_of v ≡ Some i → v ≡ word) → HasText all a (Plain i) word
plain_word all a word (Fence rd r bits) p h e only = fence_word rd r bits word p only
plain_word all a word (Illegal Zeros) p h e only = sym (only 0 (omega arith) known_zeros)
plain_word all a word (Illegal Ones) p h e only = absurd p
plain_word all a word (Illegal CycleWrite) p h e only = absurd p
plain_word all a word (Lui rd n) p h e only = shown a word (Lui rd n) p h e
plain_word all a word (Auipc rd n) p h e only = shown a word (Auipc rd n) p h e
plain_word all a word (Jalr rd r z) p h e only = shown a word (Jalr rd r z) p h e
plain_word all a word (Load k rd r z) p h e only = shown a word (Load k rd r z) p h e
plain_word all a word (Store k r q z) p h e only = shown a word (Store k r q z) p h e
plain_word all a word (OpImm k rd r z) p h e only = shown a word (OpImm k rd r z) p h e
plain_word all a word (ShiftImm k rd r n) p h e only = shown a word (ShiftImm k rd r n) p h e
plain_word all a word (Op k rd r n) p h e only = shown a word (Op k rd r n) p h e
plain_word all a word Ecall p h e only = shown a word Ecall p h e
plain_word all a word Ebreak p h e only = shown a word Ebreak p h e
plain_word all a word (Lr rd r aq rl) p h e only = shown a word (Lr rd r aq rl) p h e
plain_word all a word (Sc rd r n aq rl) p h e only = shown a word (Sc rd r n aq rl) p h e
plain_word all a word (Amo k rd r n aq rl) p h e only = shown a word (Amo k rd r n aq rl) p h e
plain_word all a word (Jal rd z) p h e only = absurd p
plain_word all a word (Branch k r n z) p h e only = absurd p

pub plain_found : (all : List Statement) (at : Option ℕ) (i : Instr) (w : Written) (word : ℕ) → IsWritten w
    → IsReadCommand (command.Plain i) w
    → IsInRange i → instruction_of word ≡ Some i → ((v : ℕ) → v < 2 ^ 32 → instruction_of v ≡ Some i → v ≡ word)
    → IsFoundWord all at w (Ok (Some word))
plain_found all at i (Plain j) word p h range e only =
    let here : IsInRange j = subst IsInRange h range in (
      (λ out. out here),
      (λ u. u),
      λ a is. plain_word all a word j p here (e ∙ ap Some h) (λ v low d. only v low (d ∙ ap Some (sym h))),
    )
plain_found all at i (NegativeShift o rd r n) word p h range e only = absurd h
plain_found all at i (Jump rd to) word p h range e only = absurd h
plain_found all at i (Conditional k r n to) word p h range e only = absurd h

pub too_large : (all : List Statement) (at : Option ℕ) (w : Written) → IsReadCommand command.OutOfRange w
    → IsOutOfRange all at w
too_large all at (Plain i) h = h
too_large all at (NegativeShift o rd r n) h = tt
too_large all at (Jump rd to) h = inl h
too_large all at (Conditional k r n to) h = inl h

pub jump_found : (all : List Statement) (at : Option ℕ) (rd : ℕ) (to : ReadTarget) (w : Written)
    (r : Result (Option ℕ) AsmRule) → IsWritten w
    → IsReadCommand (command.Jump rd to) w
    → ((t : Target) → IsTarget t → IsReadTarget to t → rd < 32 → IsFoundWord all at (Jump rd t) r)
    → IsFoundWord all at w r
jump_found all at rd to (Jump d t) r p h f =
    subst (λ (x : ℕ). IsFoundWord all at (Jump x t) r) h.0 (f t p h.1 (subst (λ (x : ℕ). x < 32) (sym h.0) h.2))
jump_found all at rd to (Plain i) r p h f = absurd h
jump_found all at rd to (NegativeShift o a b n) r p h f = absurd h
jump_found all at rd to (Conditional k a b t) r p h f = absurd h

pub branch_found : (all : List Statement) (at : Option ℕ) (c : Cond) (a b : ℕ) (to : ReadTarget) (w : Written)
    (r : Result (Option ℕ) AsmRule) → IsWritten w
    → IsReadCommand (command.Conditional c a b to) w
    → ((t : Target) → IsTarget t → IsReadTarget to t → a < 32 → b < 32 → IsFoundWord all at (Conditional c a b t) r)
    → IsFoundWord all at w r
branch_found all at c a b to (Conditional k x y t) r p h f =
    let same : Conditional c a b t ≡ Conditional k x y t = cc (h.0, h.1, h.2) in
    subst (λ (w : Written). IsFoundWord all at w r) same
    (f t p h.3 (subst (λ (n : ℕ). n < 32) (sym h.1) h.4) (subst (λ (n : ℕ). n < 32) (sym h.2) h.5))
branch_found all at c a b to (Plain i) r p h f = absurd h
branch_found all at c a b to (NegativeShift o x y n) r p h f = absurd h
branch_found all at c a b to (Jump d t) r p h f = absurd h

-- targets
resolved : (all : List Statement) (t : Target) (address : ℕ) → IsTarget t → (IsLong t → ⊥) → IsAddress all t address
    → (given : Target) × IsResolved all t given × (target_text given ≡ codes "0x" ++ word_digits address)
resolved all (Address digits) address i long is =
    let eight : length digits ≡ 8 = omega (arith, i.0, long) in
    (Address digits, refl, ap (λ t. codes "0x" ++ t) (word_of_digits digits eight i.1 ∙ ap word_digits (sym is)))
resolved all (Name name) address i long is = (Address (word_digits address), (address, is, refl), refl)

leads : (a address : ℕ) (z : ℤ) → z ≡ pos address -ℤ pos a → address < 2 ^ 32 → negsuc 1048575 ≤ℤ z
    → target_address a z ≡ address
leads a address (pos n) e low near = omega (arith, ints, e, low)
leads a address (negsuc n) e low near = omega (arith, ints, e, low, near)

same_some : (a b : ℕ) (at : Option ℕ) → at ≡ Some a → at ≡ Some b → a ≡ b
same_some a b at e f = let same : Some a ≡ Some b = sym e ∙ f in cc

pub jump_some : (all : List Statement) (at : Option ℕ) (rd word : ℕ) (t : Target) (z : ℤ) → IsTarget t
    → IsFoundOffset all at (2 ^ 20) t (Ok (Some z))
    → instruction_of word ≡ Some (Jal rd z) → IsInRange (Jal rd z) → IsFoundWord all at (Jump rd t) (Ok (Some word))
jump_some all at rd word t z i f e range =
    let a = f.2 in
    let address = f.3 in
    let given = resolved all t address i f.5 f.6 in
    let led : target_address a z ≡ address = leads a address z f.8 f.7 range.1 in (
      (λ out. elim out [ inl out ↦ out (range.0, omega (arith, ints), omega (arith, ints), refl) | inr far ↦ f.0 far ]),
      f.1,
      λ b is.
          let same : a ≡ b = same_some a b at f.4 is in (
            given.0,
            given.1,
            ap (text_of_decoded b) e
                ∙ two_same (codes "jal") _ _ _ _ (register_same rd range.0)
                (ap (λ x. codes "0x" ++ word_digits (target_address x z)) (sym same) ∙ ap
                (λ x. codes "0x" ++ word_digits x) led ∙ sym given.2),
          ),
    )

pub branch_some : (all : List Statement) (at : Option ℕ) (c : Cond) (r q word : ℕ) (t : Target) (z : ℤ) → IsTarget t
    → IsFoundOffset all at (2 ^ 12) t (Ok (Some z))
    → instruction_of word ≡ Some (Branch c r q z) → IsInRange (Branch c r q z)
    → IsFoundWord all at (Conditional c r q t) (Ok (Some word))
branch_some all at c r q word t z i f e range =
    let a = f.2 in
    let address = f.3 in
    let given = resolved all t address i f.5 f.6 in
    let near : negsuc 1048575 ≤ℤ z = omega (arith, ints, range.2) in
    let led : target_address a z ≡ address = leads a address z f.8 f.7 near in (
      (λ out. elim out [
        | inl out ↦ out (range.0, range.1, omega (arith, ints), omega (arith, ints), refl)
        | inr far ↦
            f.0 far
      ]),
      f.1,
      λ b is.
          let same : a ≡ b = same_some a b at f.4 is in (
            given.0,
            given.1,
            ap (text_of_decoded b) e
                ∙ three_same (branch_name c) _ _ _ _ _ _ (register_same r range.0) (register_same q range.1)
                (ap (λ x. codes "0x" ++ word_digits (target_address x z)) (sym same) ∙ ap
                (λ x. codes "0x" ++ word_digits x) led ∙ sym given.2),
          ),
    )

pub jump_none : (all : List Statement) (at : Option ℕ) (rd : ℕ) (t : Target) → rd < 32
    → IsFoundOffset all at (2 ^ 20) t (Ok None)
    → IsFoundWord all at (Jump rd t) (Ok None)
jump_none all at rd t low f = (
  (λ out. elim out [ inl out ↦ out (low, omega (arith, ints), omega (arith, ints), refl) | inr far ↦ f.0 far ]),
  f.1,
  λ a address e even is. f.2 a address e even is,
)

pub branch_none : (all : List Statement) (at : Option ℕ) (c : Cond) (r q : ℕ) (t : Target) → r < 32 → q < 32
    → IsFoundOffset all at (2 ^ 12) t (Ok None)
    → IsFoundWord all at (Conditional c r q t) (Ok None)
branch_none all at c r q t low below f = (
  (λ out. elim out [ inl out ↦ out (low, below, omega (arith, ints), omega (arith, ints), refl) | inr far ↦ f.0 far ]),
  f.1,
  λ a address e even is. f.2 a address e even is,
)

pub jump_err : (all : List Statement) (at : Option ℕ) (rd : ℕ) (t : Target) (r : AsmRule) → rd < 32
    → IsFoundOffset all at (2 ^ 20) t (Err r)
    → IsFoundWord all at (Jump rd t) (Err r)
jump_err all at rd t rule.Range low f = inr f
jump_err all at rd t rule.Name low f =
    ((λ out. elim out [ inl out ↦ out (low, omega (arith, ints), omega (arith, ints), refl) | inr far ↦ f.0 far ]), f.1)
jump_err all at rd t rule.Syntax low f = absurd f
jump_err all at rd t rule.Place low f = absurd f
jump_err all at rd t rule.Size low f = absurd f
jump_err all at rd t rule.Empty low f = absurd f

pub branch_err : (all : List Statement) (at : Option ℕ) (c : Cond) (a b : ℕ) (t : Target) (r : AsmRule) → a < 32
    → b < 32 → IsFoundOffset all at (2 ^ 12) t (Err r)
    → IsFoundWord all at (Conditional c a b t) (Err r)
branch_err all at c a b t rule.Range low below f = inr f
branch_err all at c a b t rule.Name low below f = (
  (λ out. elim out [
    | inl out ↦ out (low, below, omega (arith, ints), omega (arith, ints), refl)
    | inr far ↦ f.0 far
  ]),
  f.1,
)
branch_err all at c a b t rule.Syntax low below f = absurd f
branch_err all at c a b t rule.Place low below f = absurd f
branch_err all at c a b t rule.Size low below f = absurd f
branch_err all at c a b t rule.Empty low below f = absurd f
