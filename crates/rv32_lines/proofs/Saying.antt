-- What a line says, by its first bytes.
use Rattle.std.proofs.Common.{◌≡◌, ℕ, ◌+◌, ◌*◌, ◌^◌, ◌<◌, true, false, eqb, List, [], ◌∷◌, ◌++◌, length, Option, Some, None, get_or, refl, sym, ap, ◌∙◌, subst, arith, inl, inr}
use mathlib.Core.List.{append-nil, reverse}
use Rattle.std.specs.Prelude.{MatchOption, IfSome, codes}
use Rattle.std.specs.List.{list_all}
use Rattle.std.proofs.lemmas.Bool.{and_parts, and_from, false≢true}
use Rattle.std.proofs.lemmas.Bool.Decides.{nat_tests}
use Rattle.std.proofs.lemmas.List.{append_cancel_left, reverse-append}
use Rattle.rv32_decode.specs.declared.Instr.TheVariants as instr
use Rattle.rv32_text.specs.Listing.{word_digits}
use Rattle.rv32_lines.specs.declared.statements.Statement.{Statement as ReadStatement}
use Rattle.rv32_lines.specs.declared.statements.Statement.TheVariants as said
use Rattle.rv32_lines.specs.declared.mnemonics.Mnemonic.{Mnemonic}
use Rattle.rv32_lines.specs.Texts.{Written, Plain, NegativeShift, Jump, Conditional}
use Rattle.rv32_lines.specs.Statements.{Statement, Nothing, Segment, Label, Bytes, Word, Space, Zero, Entry, Instruction, Unread, IsNumber, IsKind, is_decimal_digit, is_hexadecimal_digit, is_letter, is_name_byte, is_name, IsBare, Says, SaysName, SaysWithin, SaysInstruction, IsRead, SaysNothing}
use Rattle.rv32_lines.specs.Reading.{mnemonic_text, mnemonic_in, operands_in, HasOperands, IsReadStatement, SaysDigits, IsDirective, is_mark}
use Rattle.rv32_lines.proofs.Bare.{bare_once}
use Rattle.rv32_lines.proofs.Forms.{text_with, text_without, either_form, split_with}
use Rattle.rv32_lines.proofs.KindOf.{all_kinds}

-- the first byte
first : List ℕ → ℕ
first t = get_or t 0 0

starts : (xs ys : List ℕ) → is_letter (get_or xs 0 0) ≡ true → is_letter (get_or (xs ++ ys) 0 0) ≡ true
starts [] ys e = absurd (false≢true e)
starts (c ∷ cs) ys e = e

mnemonic_letter : (m : Mnemonic) → is_letter (get_or (mnemonic_text m) 0 0) ≡ true
mnemonic_letter m = all_kinds (λ m. is_letter (get_or (mnemonic_text m) 0 0)) refl m

pub instruction_letter : (line : List ℕ) (w : Written) → SaysInstruction line w → is_letter (get_or line 0 0) ≡ true
instruction_letter line w s = elim (either_form w) [
  | inl o ↦
      ap (λ t. is_letter (get_or t 0 0)) (s.line_is ∙ text_with w s.written o)
      ∙ starts (mnemonic_text (mnemonic_in w)) (codes " " ++ operands_in w) (mnemonic_letter (mnemonic_in w))
  | inr o ↦ ap (λ t. is_letter (get_or t 0 0)) (s.line_is ∙ text_without w o) ∙ mnemonic_letter (mnemonic_in w)
]

name_letter : (name t : List ℕ) → is_name name ≡ true → is_letter (get_or (name ++ t) 0 0) ≡ true
name_letter [] t e = absurd (false≢true e)
name_letter (c ∷ cs) t e = (and_parts _ _ e).0

pub label_letter : (line name : List ℕ) → SaysName [] name (codes ":") line → is_letter (get_or line 0 0) ≡ true
label_letter line name s = ap (λ t. is_letter (get_or t 0 0)) s.line_is ∙ name_letter name (codes ":") s.named

no_letter : (c : ℕ) → c ≡ 46 → is_letter c ≡ true → ⊥
no_letter c e h = let bad : false ≡ true = ap is_letter (sym e) ∙ h in absurd (false≢true bad)

pub nothing_first : (line : List ℕ) → SaysNothing line → get_or line 0 0 ≡ 46 → ⊥
nothing_first [] h e = absurd (omega (arith, e))
nothing_first (c ∷ cs) h e = absurd (omega (arith, h, e))

pub point_first : (line : List ℕ) (s : Statement) → IsDirective s → Says line s → get_or line 0 0 ≡ 46
unfolding first
point_first line (Segment flags start) d h = ap first h.line_is
point_first line (Bytes bytes) d h = ap first h.line_is
point_first line (Word word) d h = ap first h.line_is
point_first line (Space count) d h = ap first h.line_is
point_first line (Zero count) d h = ap first h.line_is
point_first line (Entry name) d h = ap first h.line_is
point_first line Nothing d h = absurd d
point_first line (Label name) d h = absurd d
point_first line (Instruction w) d h = absurd d
point_first line Unread d h = absurd d

-- an empty line, or one that begins with '#', says nothing
pub nothing_only : (line : List ℕ) (s : Statement) → is_letter (get_or line 0 0) ≡ false → (get_or line 0 0 ≡ 46 → ⊥)
    → Says line s
    → IsReadStatement said.Nothing s
nothing_only line Nothing plain other h = tt
nothing_only line (Segment flags start) plain other h = absurd (other (point_first line (Segment flags start) tt h))
nothing_only line (Bytes bytes) plain other h = absurd (other (point_first line (Bytes bytes) tt h))
nothing_only line (Word word) plain other h = absurd (other (point_first line (Word word) tt h))
nothing_only line (Space count) plain other h = absurd (other (point_first line (Space count) tt h))
nothing_only line (Zero count) plain other h = absurd (other (point_first line (Zero count) tt h))
nothing_only line (Entry name) plain other h = absurd (other (point_first line (Entry name) tt h))
nothing_only line (Label name) plain other h = absurd (false≢true (sym plain ∙ label_letter line name h))
nothing_only line (Instruction w) plain other h = absurd (false≢true (sym plain ∙ instruction_letter line w h))
nothing_only line Unread plain other h = absurd h

pub empty_only : (line : List ℕ) (s : Statement) → length line ≡ 0 → Says line s → IsReadStatement said.Nothing s
empty_only [] s e h = nothing_only [] s refl (λ f. absurd (omega (arith, f))) h
empty_only (c ∷ cs) s e h = absurd (omega (arith, e))

pub empty_says : (line : List ℕ) → length line ≡ 0 → SaysNothing line
empty_says [] e = tt
empty_says (c ∷ cs) e = absurd (omega (arith, e))

pub hash_only : (line : List ℕ) (s : Statement) → get_or line 0 0 ≡ 35 → Says line s → IsReadStatement said.Nothing s
hash_only line s e h = nothing_only line s (ap is_letter e) (λ f. absurd (omega (arith, e, f))) h

pub hash_says : (line : List ℕ) → get_or line 0 0 ≡ 35 → SaysNothing line
hash_says [] e = absurd (omega (arith, e))
hash_says (c ∷ cs) e = e

-- a line that begins with a point is a directive
pub directive_told : (line : List ℕ) (s : Statement) → get_or line 0 0 ≡ 46 → Says line s → IsDirective s
directive_told line Nothing e h = absurd (nothing_first line h e)
directive_told line (Segment flags start) e h = tt
directive_told line (Bytes bytes) e h = tt
directive_told line (Word word) e h = tt
directive_told line (Space count) e h = tt
directive_told line (Zero count) e h = tt
directive_told line (Entry name) e h = tt
directive_told line (Label name) e h = absurd (no_letter (get_or line 0 0) e (label_letter line name h))
directive_told line (Instruction w) e h = absurd (no_letter (get_or line 0 0) e (instruction_letter line w h))
directive_told line Unread e h = absurd h

nothing_else : (line : List ℕ) → 0 < length line → (get_or line 0 0 ≡ 35 → ⊥) → SaysNothing line → ⊥
nothing_else [] some other h = absurd (omega arith)
nothing_else (c ∷ cs) some other h = other h

-- every other line is a name or an instruction
pub other_only : (line : List ℕ) (r : Option ReadStatement) → 0 < length line → (get_or line 0 0 ≡ 35 → ⊥)
    → (get_or line 0 0 ≡ 46 → ⊥)
    → ((name : List ℕ) → Says line (Label name) → MatchOption r ⊥ (λ x. IsReadStatement x (Label name)))
    → ((w : Written) → Says line (Instruction w) → MatchOption r ⊥ (λ x. IsReadStatement x (Instruction w)))
    → (s : Statement) → Says line s → MatchOption r ⊥ (λ x. IsReadStatement x s)
other_only line r some hash point label command Nothing h = absurd (nothing_else line some hash h)
other_only line r some hash point label command (Segment flags start) h =
    absurd (point (point_first line (Segment flags start) tt h))
other_only line r some hash point label command (Bytes bytes) h = absurd (point (point_first line (Bytes bytes) tt h))
other_only line r some hash point label command (Word word) h = absurd (point (point_first line (Word word) tt h))
other_only line r some hash point label command (Space count) h = absurd (point (point_first line (Space count) tt h))
other_only line r some hash point label command (Zero count) h = absurd (point (point_first line (Zero count) tt h))
other_only line r some hash point label command (Entry name) h = absurd (point (point_first line (Entry name) tt h))
other_only line r some hash point label command (Label name) h = label name h
other_only line r some hash point label command (Instruction w) h = command w h
other_only line r some hash point label command Unread h = absurd h

-- a name with its colon is no instruction
name_byte_marks : (c : ℕ) → is_name_byte c ≡ true → is_mark c ≡ true
name_byte_marks c e = grind (arith, nat_tests)

letter_marks : (c : ℕ) → is_letter c ≡ true → is_mark c ≡ true
letter_marks c e = grind (arith, nat_tests)

marks_then : (cs : List ℕ) → list_all is_name_byte cs ≡ true → list_all is_mark (cs ++ codes ":") ≡ true
marks_then [] e = refl
marks_then (c ∷ cs) e =
    let p : (is_name_byte c ≡ true) × (list_all is_name_byte cs ≡ true) = and_parts _ _ e in
    and_from (is_mark c) (list_all is_mark (cs ++ codes ":")) (name_byte_marks c p.0) (marks_then cs p.1)

label_marks : (name : List ℕ) → is_name name ≡ true → list_all is_mark (name ++ codes ":") ≡ true
label_marks [] e = absurd (false≢true e)
label_marks (c ∷ cs) e =
    let p = and_parts (is_letter c) _ e in
    let q = and_parts (list_all is_name_byte cs) _ p.1 in
    and_from (is_mark c) (list_all is_mark (cs ++ codes ":")) (letter_marks c p.0) (marks_then cs q.0)

-- the last byte
last : List ℕ → ℕ
last t = get_or (reverse t) 0 0

colon_last : (name : List ℕ) → last (name ++ codes ":") ≡ 58
unfolding last
colon_last name = ap (λ t. get_or t 0 0) (reverse-append name (codes ":"))

no_colon : (w : Written) → (HasOperands w → ⊥) → last (mnemonic_text (mnemonic_in w)) ≡ 58 → ⊥
unfolding last
no_colon (Plain (instr.Fence rd r bits)) o e = absurd (omega (arith, e))
no_colon (Plain instr.Ecall) o e = absurd (omega (arith, e))
no_colon (Plain instr.Ebreak) o e = absurd (omega (arith, e))
no_colon (Plain (instr.Illegal word)) o e = absurd (omega (arith, e))
no_colon (Plain (instr.Lui rd n)) o e = absurd (o tt)
no_colon (Plain (instr.Auipc rd n)) o e = absurd (o tt)
no_colon (Plain (instr.Jalr rd r z)) o e = absurd (o tt)
no_colon (Plain (instr.Load k rd r z)) o e = absurd (o tt)
no_colon (Plain (instr.Store k r rd z)) o e = absurd (o tt)
no_colon (Plain (instr.OpImm k rd r z)) o e = absurd (o tt)
no_colon (Plain (instr.ShiftImm k rd r n)) o e = absurd (o tt)
no_colon (NegativeShift k rd r n) o e = absurd (o tt)
no_colon (Plain (instr.Op k rd r n)) o e = absurd (o tt)
no_colon (Plain (instr.Lr rd r aq rl)) o e = absurd (o tt)
no_colon (Plain (instr.Sc rd r n aq rl)) o e = absurd (o tt)
no_colon (Plain (instr.Amo k rd r n aq rl)) o e = absurd (o tt)
no_colon (Jump rd to) o e = absurd (o tt)
no_colon (Conditional k r n to) o e = absurd (o tt)
no_colon (Plain (instr.Jal rd z)) o e = absurd (o tt)
no_colon (Plain (instr.Branch k a b z)) o e = absurd (o tt)

pub label_no_instruction : (line name : List ℕ) (w : Written) → Says line (Label name) → SaysInstruction line w → ⊥
label_no_instruction line name w h s = elim (either_form w) [
  | inl o ↦
      let cut = split_with line (name ++ codes ":") [] w (h.line_is ∙ sym (append-nil (name ++ codes ":")))
      (label_marks name h.named) tt s o in
      let bad : ◌≡◌ {A = List ℕ} [] (codes " " ++ operands_in w) = cut.1 in
      absurd (cc)
  | inr o ↦ no_colon w o (ap last (sym (s.line_is ∙ text_without w o) ∙ h.line_is) ∙ colon_last name)
]

-- the second and the third byte tell a directive
pub key : List ℕ → ℕ
key t = get_or t 1 0 * 256 + get_or t 2 0

abbrev pub key_of : Statement → ℕ
key_of (Segment flags start) = 29541
key_of (Bytes bytes) = 25209
key_of (Word word) = 30575
key_of (Space count) = 29552
key_of (Zero count) = 31333
key_of (Entry name) = 25966
key_of s = 0

pub key_told : (line : List ℕ) (s : Statement) → IsDirective s → Says line s → key line ≡ key_of s
unfolding key
key_told line (Segment flags start) d h = ap key h.line_is
key_told line (Bytes bytes) d h = ap key h.line_is
key_told line (Word word) d h = ap key h.line_is
key_told line (Space count) d h = ap key h.line_is
key_told line (Zero count) d h = ap key h.line_is
key_told line (Entry name) d h = ap key h.line_is
key_told line Nothing d h = absurd d
key_told line (Label name) d h = absurd d
key_told line (Instruction w) d h = absurd d
key_told line Unread d h = absurd d

clash : (line : List ℕ) (s : Statement) (k : ℕ) → IsDirective s → Says line s → key line ≡ k → eqb (key_of s) k ≡ false
    → ⊥
clash line s k d h e other =
    let same : key_of s ≡ k = sym (key_told line s d h) ∙ e in
    let bad : eqb k k ≡ false = ap (λ n. eqb n k) (sym same) ∙ other in
    grind (arith, nat_tests)

pub segment_some : (line rest : List ℕ) (r : Option ReadStatement) → line ≡ codes ".segment " ++ rest
    → IfSome r (λ x. (kind digits : List ℕ) × (flags start : ℕ) × IsKind kind flags × IsNumber 16 is_hexadecimal_digit
    digits start × (rest ≡ kind ++ (codes " 0x" ++ digits)) × IsReadStatement x (Segment flags start))
    → IfSome r (λ x. (s : Statement) × Says line s × IsReadStatement x s)
segment_some line rest None e h = tt
segment_some line rest (Some x) e h = (
  Segment h.2 h.3,
  record {
    kind = h.0;
    digits = h.1;
    line_is = e ∙ ap (λ t. codes ".segment " ++ t) h.6;
    flags_are = h.4;
    start_is = h.5;
  },
  h.7,
)

pub segment_only : (line rest : List ℕ) (r : Option ReadStatement) → line ≡ codes ".segment " ++ rest
    → ((kind digits : List ℕ) (flags start : ℕ) → IsKind kind flags → IsNumber 16 is_hexadecimal_digit digits start
    → rest ≡ kind ++ (codes " 0x" ++ digits) → MatchOption r ⊥ (λ x. IsReadStatement x (Segment flags start)))
    → (s : Statement) → IsDirective s → Says line s → MatchOption r ⊥ (λ x. IsReadStatement x s)
unfolding key
segment_only line rest r e only (Segment flags start) d h =
    only h.kind h.digits flags start h.flags_are h.start_is
    (append_cancel_left (codes ".segment ") _ _ (sym e ∙ h.line_is))
segment_only line rest r e only (Bytes bytes) d h = absurd (clash line (Bytes bytes) 29541 tt h (ap key e) refl)
segment_only line rest r e only (Word word) d h = absurd (clash line (Word word) 29541 tt h (ap key e) refl)
segment_only line rest r e only (Space count) d h = absurd (clash line (Space count) 29541 tt h (ap key e) refl)
segment_only line rest r e only (Zero count) d h = absurd (clash line (Zero count) 29541 tt h (ap key e) refl)
segment_only line rest r e only (Entry name) d h = absurd (clash line (Entry name) 29541 tt h (ap key e) refl)
segment_only line rest r e only Nothing d h = absurd d
segment_only line rest r e only (Label name) d h = absurd d
segment_only line rest r e only (Instruction w) d h = absurd d
segment_only line rest r e only Unread d h = absurd d

pub bytes_some : (line rest : List ℕ) (r : Option ReadStatement) → line ≡ codes ".bytes " ++ rest
    → IfSome r (λ x. (bs : List ℕ) × SaysDigits rest bs × IsReadStatement x (Bytes bs))
    → IfSome r (λ x. (s : Statement) × Says line s × IsReadStatement x s)
bytes_some line rest None e h = tt
bytes_some line rest (Some x) e h = (
  Bytes h.0,
  record {
    line_is = e ∙ ap (λ t. codes ".bytes " ++ t) h.1.digits_are;
    bytes_are = h.1.bytes_are;
    some = h.1.some;
    few = h.1.few;
  },
  h.2,
)

pub bytes_only : (line rest : List ℕ) (r : Option ReadStatement) → line ≡ codes ".bytes " ++ rest
    → ((bs : List ℕ) → SaysDigits rest bs → MatchOption r ⊥ (λ x. IsReadStatement x (Bytes bs)))
    → (s : Statement) → IsDirective s → Says line s → MatchOption r ⊥ (λ x. IsReadStatement x s)
unfolding key
bytes_only line rest r e only (Segment flags start) d h =
    absurd (clash line (Segment flags start) 25209 tt h (ap key e) refl)
bytes_only line rest r e only (Bytes bytes) d h =
    only bytes (record {
      digits_are = append_cancel_left (codes ".bytes ") _ _ (sym e ∙ h.line_is);
      bytes_are = h.bytes_are;
      some = h.some;
      few = h.few;
    })
bytes_only line rest r e only (Word word) d h = absurd (clash line (Word word) 25209 tt h (ap key e) refl)
bytes_only line rest r e only (Space count) d h = absurd (clash line (Space count) 25209 tt h (ap key e) refl)
bytes_only line rest r e only (Zero count) d h = absurd (clash line (Zero count) 25209 tt h (ap key e) refl)
bytes_only line rest r e only (Entry name) d h = absurd (clash line (Entry name) 25209 tt h (ap key e) refl)
bytes_only line rest r e only Nothing d h = absurd d
bytes_only line rest r e only (Label name) d h = absurd d
bytes_only line rest r e only (Instruction w) d h = absurd d
bytes_only line rest r e only Unread d h = absurd d

pub word_some : (line rest : List ℕ) (r : Option ReadStatement) → line ≡ codes ".word 0x" ++ rest
    → IfSome r (λ x. (w : ℕ) × (w < 2 ^ 32) × (rest ≡ word_digits w) × IsReadStatement x (Word w))
    → IfSome r (λ x. (s : Statement) × Says line s × IsReadStatement x s)
word_some line rest None e h = tt
word_some line rest (Some x) e h =
    (Word h.0, record { line_is = e ∙ ap (λ t. codes ".word 0x" ++ t) h.2; low = h.1 }, h.3)

pub word_only : (line rest : List ℕ) (r : Option ReadStatement) → line ≡ codes ".word 0x" ++ rest
    → ((w : ℕ) → w < 2 ^ 32 → rest ≡ word_digits w → MatchOption r ⊥ (λ x. IsReadStatement x (Word w)))
    → (s : Statement) → IsDirective s → Says line s → MatchOption r ⊥ (λ x. IsReadStatement x s)
unfolding key
word_only line rest r e only (Segment flags start) d h =
    absurd (clash line (Segment flags start) 30575 tt h (ap key e) refl)
word_only line rest r e only (Bytes bytes) d h = absurd (clash line (Bytes bytes) 30575 tt h (ap key e) refl)
word_only line rest r e only (Word word) d h =
    only word h.low (append_cancel_left (codes ".word 0x") _ _ (sym e ∙ h.line_is))
word_only line rest r e only (Space count) d h = absurd (clash line (Space count) 30575 tt h (ap key e) refl)
word_only line rest r e only (Zero count) d h = absurd (clash line (Zero count) 30575 tt h (ap key e) refl)
word_only line rest r e only (Entry name) d h = absurd (clash line (Entry name) 30575 tt h (ap key e) refl)
word_only line rest r e only Nothing d h = absurd d
word_only line rest r e only (Label name) d h = absurd d
word_only line rest r e only (Instruction w) d h = absurd d
word_only line rest r e only Unread d h = absurd d

pub space_some : (line rest : List ℕ) (r : Option ReadStatement) → line ≡ codes ".space " ++ rest
    → IfSome r (λ x. (n : ℕ) × IsNumber 10 is_decimal_digit rest n × IsReadStatement x (Space n))
    → IfSome r (λ x. (s : Statement) × Says line s × IsReadStatement x s)
space_some line rest None e h = tt
space_some line rest (Some x) e h = (Space h.0, record { digits = rest; line_is = e; count_is = h.1 }, h.2)

pub space_only : (line rest : List ℕ) (r : Option ReadStatement) → line ≡ codes ".space " ++ rest
    → ((n : ℕ) → IsNumber 10 is_decimal_digit rest n → MatchOption r ⊥ (λ x. IsReadStatement x (Space n)))
    → (s : Statement) → IsDirective s → Says line s → MatchOption r ⊥ (λ x. IsReadStatement x s)
unfolding key
space_only line rest r e only (Segment flags start) d h =
    absurd (clash line (Segment flags start) 29552 tt h (ap key e) refl)
space_only line rest r e only (Bytes bytes) d h = absurd (clash line (Bytes bytes) 29552 tt h (ap key e) refl)
space_only line rest r e only (Word word) d h = absurd (clash line (Word word) 29552 tt h (ap key e) refl)
space_only line rest r e only (Space count) d h =
    only count (subst (λ (ds : List ℕ). IsNumber 10 is_decimal_digit ds count)
    (sym (append_cancel_left (codes ".space ") _ _ (sym e ∙ h.line_is))) h.count_is)
space_only line rest r e only (Zero count) d h = absurd (clash line (Zero count) 29552 tt h (ap key e) refl)
space_only line rest r e only (Entry name) d h = absurd (clash line (Entry name) 29552 tt h (ap key e) refl)
space_only line rest r e only Nothing d h = absurd d
space_only line rest r e only (Label name) d h = absurd d
space_only line rest r e only (Instruction w) d h = absurd d
space_only line rest r e only Unread d h = absurd d

pub zero_some : (line rest : List ℕ) (r : Option ReadStatement) → line ≡ codes ".zero " ++ rest
    → IfSome r (λ x. (n : ℕ) × IsNumber 10 is_decimal_digit rest n × IsReadStatement x (Zero n))
    → IfSome r (λ x. (s : Statement) × Says line s × IsReadStatement x s)
zero_some line rest None e h = tt
zero_some line rest (Some x) e h = (Zero h.0, record { digits = rest; line_is = e; count_is = h.1 }, h.2)

pub zero_only : (line rest : List ℕ) (r : Option ReadStatement) → line ≡ codes ".zero " ++ rest
    → ((n : ℕ) → IsNumber 10 is_decimal_digit rest n → MatchOption r ⊥ (λ x. IsReadStatement x (Zero n)))
    → (s : Statement) → IsDirective s → Says line s → MatchOption r ⊥ (λ x. IsReadStatement x s)
unfolding key
zero_only line rest r e only (Segment flags start) d h =
    absurd (clash line (Segment flags start) 31333 tt h (ap key e) refl)
zero_only line rest r e only (Bytes bytes) d h = absurd (clash line (Bytes bytes) 31333 tt h (ap key e) refl)
zero_only line rest r e only (Word word) d h = absurd (clash line (Word word) 31333 tt h (ap key e) refl)
zero_only line rest r e only (Space count) d h = absurd (clash line (Space count) 31333 tt h (ap key e) refl)
zero_only line rest r e only (Zero count) d h =
    only count (subst (λ (ds : List ℕ). IsNumber 10 is_decimal_digit ds count)
    (sym (append_cancel_left (codes ".zero ") _ _ (sym e ∙ h.line_is))) h.count_is)
zero_only line rest r e only (Entry name) d h = absurd (clash line (Entry name) 31333 tt h (ap key e) refl)
zero_only line rest r e only Nothing d h = absurd d
zero_only line rest r e only (Label name) d h = absurd d
zero_only line rest r e only (Instruction w) d h = absurd d
zero_only line rest r e only Unread d h = absurd d

pub entry_some : (line rest : List ℕ) (r : Option ReadStatement) → line ≡ codes ".entry " ++ rest
    → IfSome r (λ x. (is_name rest ≡ true) × IsReadStatement x (Entry rest))
    → IfSome r (λ x. (s : Statement) × Says line s × IsReadStatement x s)
entry_some line rest None e h = tt
entry_some line rest (Some x) e h =
    (Entry rest, record { line_is = e ∙ ap (λ t. codes ".entry " ++ t) (sym (append-nil rest)); named = h.0 }, h.1)

pub entry_only : (line rest : List ℕ) (r : Option ReadStatement) → line ≡ codes ".entry " ++ rest
    → (is_name rest ≡ true → MatchOption r ⊥ (λ x. IsReadStatement x (Entry rest)))
    → (s : Statement) → IsDirective s → Says line s → MatchOption r ⊥ (λ x. IsReadStatement x s)
unfolding key
entry_only line rest r e only (Segment flags start) d h =
    absurd (clash line (Segment flags start) 25966 tt h (ap key e) refl)
entry_only line rest r e only (Bytes bytes) d h = absurd (clash line (Bytes bytes) 25966 tt h (ap key e) refl)
entry_only line rest r e only (Word word) d h = absurd (clash line (Word word) 25966 tt h (ap key e) refl)
entry_only line rest r e only (Space count) d h = absurd (clash line (Space count) 25966 tt h (ap key e) refl)
entry_only line rest r e only (Zero count) d h = absurd (clash line (Zero count) 25966 tt h (ap key e) refl)
entry_only line rest r e only (Entry name) d h =
    let same : rest ≡ name = append_cancel_left (codes ".entry ") _ _ (sym e ∙ h.line_is) ∙ append-nil name in
    subst (λ (n : List ℕ). MatchOption r ⊥ (λ x. IsReadStatement x (Entry n))) same (only (ap is_name same ∙ h.named))
entry_only line rest r e only Nothing d h = absurd d
entry_only line rest r e only (Label name) d h = absurd d
entry_only line rest r e only (Instruction w) d h = absurd d
entry_only line rest r e only Unread d h = absurd d

-- a line with none of these words is no directive
pub none_only : (line : List ℕ) → ((rest : List ℕ) → line ≡ codes ".segment " ++ rest → ⊥)
    → ((rest : List ℕ) → line ≡ codes ".bytes " ++ rest → ⊥) → ((rest : List ℕ) → line ≡ codes ".word 0x" ++ rest → ⊥)
    → ((rest : List ℕ) → line ≡ codes ".space " ++ rest → ⊥) → ((rest : List ℕ) → line ≡ codes ".zero " ++ rest → ⊥)
    → ((rest : List ℕ) → line ≡ codes ".entry " ++ rest → ⊥) → (s : Statement) → IsDirective s → Says line s → ⊥
none_only line segment bytes word space zeros entry (Segment f a) d h = segment _ h.line_is
none_only line segment bytes word space zeros entry (Bytes bs) d h = bytes _ h.line_is
none_only line segment bytes word space zeros entry (Word w) d h = word _ h.line_is
none_only line segment bytes word space zeros entry (Space n) d h = space _ h.line_is
none_only line segment bytes word space zeros entry (Zero n) d h = zeros _ h.line_is
none_only line segment bytes word space zeros entry (Entry n) d h = entry _ h.line_is
none_only line segment bytes word space zeros entry Nothing d h = absurd d
none_only line segment bytes word space zeros entry (Label n) d h = absurd d
none_only line segment bytes word space zeros entry (Instruction w) d h = absurd d
none_only line segment bytes word space zeros entry Unread d h = absurd d

-- what is said within the spaces at a line's ends
is_read : (line : List ℕ) (s : Statement) → SaysWithin line s → IsRead line s
is_read line Unread h = absurd h.says
is_read line Nothing h = h
is_read line (Segment flags start) h = h
is_read line (Label name) h = h
is_read line (Bytes bytes) h = h
is_read line (Word word) h = h
is_read line (Space count) h = h
is_read line (Zero count) h = h
is_read line (Entry name) h = h
is_read line (Instruction w) h = h

pub read_some : (line middle : List ℕ) (x : ReadStatement) → IsBare line middle
    → (s : Statement) × Says middle s × IsReadStatement x s
    → (s : Statement) × IsRead line s × IsReadStatement x s
read_some line middle x b h = (h.0, is_read line h.0 (record { middle = middle; bare = b; says = h.1 }), h.2)

pub read_none : (line middle : List ℕ) → IsBare line middle → ((s : Statement) → Says middle s → ⊥)
    → (s : Statement) × IsRead line s × IsReadStatement said.Unread s
read_none line middle b none =
    (Unread, λ s h. none s (subst (λ (m : List ℕ). Says m s) (bare_once line h.middle middle h.bare b) h.says), tt)
