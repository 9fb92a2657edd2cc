-- The text of a word says an instruction that gives the word.
use Rattle.std.proofs.Common.{◌≡◌, ◌≢◌, ℕ, ◌<◌, ◌^◌, List, Option, None, Some, refl, ap, ◌∙◌, arith}
use Rattle.std.specs.Prelude.{codes}
use Rattle.rv32_decode.specs.Rows.{instruction_of}
use Rattle.rv32_decode.specs.Words.{IsInRange}
use Rattle.rv32_decode.specs.declared.Instr.{Instr}
use Rattle.rv32_decode.specs.declared.Instr.TheVariants.{Lui, Auipc, Jal, Jalr, Branch, Load, Store, OpImm, ShiftImm, Op, Fence, Ecall, Ebreak, Lr, Sc, Amo, Illegal}
use Rattle.rv32_decode.specs.declared.IllegalWord.TheVariants.{Zeros}
use Rattle.rv32_text.specs.Listing.{branch_name, word_digits, target_address, text_of, text_of_word, text_of_decoded}
use Rattle.rv32_lines.specs.Texts.{Address, Written, Plain, Jump, Conditional, IsPlain, plain_text, written_text}
use Rattle.rv32_lines.specs.Statements.{Statement, IsTarget, IsWritten}
use Rattle.rv32_lines.proofs.EightDigits.{digits_of_word, eight_of_word}
use Rattle.rv32_asm.specs.Assembling.{HasText}
use Rattle.rv32_asm.specs.Listed.{IsListed, given_by}
use Rattle.rv32_asm.proofs.Wording.{plain_same, register_same, two_same, three_same}

-- the instruction as its text is written
abbrev Shown : (address : ℕ) → List ℕ → ℕ → Type 0
Shown address text word =
    (w : Written) × IsWritten w × (text ≡ written_text w) × (word < 2 ^ 32) × ((all : List Statement)
    → HasText all address w word)

listed_by : (address : ℕ) (text : List ℕ) (word : ℕ) → Shown address text word → IsListed address text word
listed_by address text word s = record {
  written = s.0;
  says = record { line_is = s.2; written = s.1 };
  words = λ all before at. record { address = address; stands = at; low = s.3; text = s.4 all };
}

full_target : (address : ℕ) → IsTarget (Address (word_digits address))
full_target address = let eight = eight_of_word address in (omega (arith, eight), digits_of_word address)

plain_shown : (a word : ℕ) (i : Instr) → IsPlain i → IsInRange i → word < 2 ^ 32 → text_of_word a word ≡ text_of a i
    → ((all : List Statement) → text_of_word a word ≡ plain_text i → HasText all a (Plain i) word)
    → Shown a (text_of a i) word
plain_shown a word i p range low e has =
    (Plain i, p, plain_same a i p range, low, λ all. has all (e ∙ plain_same a i p range))

shown : (a word : ℕ) (i : Instr) → IsInRange i → word < 2 ^ 32 → text_of_word a word ≡ text_of a i
    → Shown a (text_of a i) (given_by word (Some i))
shown a word (Fence rd r bits) range low e = (Plain (Fence 0 0 255), (refl, refl, refl), refl, omega arith, λ all. refl)
shown a word (Illegal x) range low e = (Plain (Illegal Zeros), tt, refl, omega arith, λ all. refl)
shown a word (Jal rd z) range low e =
    let to = Address (word_digits (target_address a z)) in
    let same : text_of a (Jal rd z) ≡ written_text (Jump rd to) =
    two_same (codes "jal") _ _ _ _ (register_same rd range.0) refl in
    (Jump rd to, full_target (target_address a z), same, low, λ all. (to, refl, e ∙ same))
shown a word (Branch c r q z) range low e =
    let to = Address (word_digits (target_address a z)) in
    let same : text_of a (Branch c r q z) ≡ written_text (Conditional c r q to) =
    three_same (branch_name c) _ _ _ _ _ _ (register_same r range.0) (register_same q range.1) refl in
    (Conditional c r q to, full_target (target_address a z), same, low, λ all. (to, refl, e ∙ same))
shown a word (Lui rd n) range low e = plain_shown a word (Lui rd n) tt range low e (λ all h. h)
shown a word (Auipc rd n) range low e = plain_shown a word (Auipc rd n) tt range low e (λ all h. h)
shown a word (Jalr rd r z) range low e = plain_shown a word (Jalr rd r z) tt range low e (λ all h. h)
shown a word (Load k rd r z) range low e = plain_shown a word (Load k rd r z) tt range low e (λ all h. h)
shown a word (Store k r q z) range low e = plain_shown a word (Store k r q z) tt range low e (λ all h. h)
shown a word (OpImm k rd r z) range low e = plain_shown a word (OpImm k rd r z) tt range low e (λ all h. h)
shown a word (ShiftImm k rd r n) range low e = plain_shown a word (ShiftImm k rd r n) tt range low e (λ all h. h)
shown a word (Op k rd r n) range low e = plain_shown a word (Op k rd r n) tt range low e (λ all h. h)
shown a word Ecall range low e = plain_shown a word Ecall tt range low e (λ all h. h)
shown a word Ebreak range low e = plain_shown a word Ebreak tt range low e (λ all h. h)
shown a word (Lr rd r aq rl) range low e = plain_shown a word (Lr rd r aq rl) tt range low e (λ all h. h)
shown a word (Sc rd r n aq rl) range low e = plain_shown a word (Sc rd r n aq rl) tt range low e (λ all h. h)
shown a word (Amo k rd r n aq rl) range low e = plain_shown a word (Amo k rd r n aq rl) tt range low e (λ all h. h)

listed_decoded : (a word : ℕ) (o : Option Instr) → instruction_of word ≡ o → ((i : Instr) → o ≡ Some i → IsInRange i)
    → word < 2 ^ 32
    → (text_of_decoded a o ≡ codes "unknown" → ⊥) → IsListed a (text_of_decoded a o) (given_by word o)
listed_decoded a word None e range low known = absurd (known refl)
listed_decoded a word (Some i) e range low known =
    listed_by a (text_of a i) (given_by word (Some i)) (shown a word i (range i refl) low (ap (text_of_decoded a) e))

pub listed : ((word : ℕ) (i : Instr) → instruction_of word ≡ Some i → IsInRange i) → (a word : ℕ) → word < 2 ^ 32
    → text_of_word a word ≢ codes "unknown" → IsListed a (text_of_word a word) (given_by word (instruction_of word))
listed range a word low known = listed_decoded a word (instruction_of word) refl (λ i e. range word i e) low known
