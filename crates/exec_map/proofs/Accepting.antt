-- Going through the code words in order, and what an accepted program is.
use Rattle.std.proofs.Common.{◌≡◌, ℕ, ◌+◌, ◌*◌, ◌^◌, ◌%◌, ◌<◌, ◌≤◌, Bool, true, false, ◌&&◌, ◌==◌, cond, inl, inr, Option, Some, None, List, [], length, get_or, IfSome, IfNone, refl, sym, ap, subst, ◌∙◌, arith}
use Rattle.std.specs.Prelude.{nat_lt, nat_le, find, is_some}
use Rattle.std.specs.List.{list_any}
use Rattle.std.proofs.lemmas.Bool.{cases_lt, cases_Bool, false≢true, and_parts, and_left, and_right, le-ltb, leb-true, cond-false}
use Rattle.std.proofs.lemmas.Bool.Decides.{nat_tests}
use Rattle.std.proofs.lemmas.List.Folds.{Any-from_list_any}
use Rattle.std.proofs.lemmas.List.Sums.{AllPass-from_list_all}
use Rattle.std.proofs.lemmas.List.Recursion.{found_nowhere}
use Rattle.rv32_decode.specs.declared.Instr.{Instr}
use Rattle.rv32_decode.specs.Rows.{instruction_of}
use Rattle.elf32_read.specs.Elf.{Elf, Segment, are_placed, is_placed}
use Rattle.rv32_program.specs.declared.Class.TheVariants.{Unmapped}
use Rattle.exec_map.specs.Refusals.{IsAcceptable, has_memory, is_too_high}
use Rattle.exec_map.proofs.Judging.{no_rule}
use Rattle.exec_map.proofs.Words.{high_end, not_high, no_word}
use Rattle.rv32_program.specs.Program.{IsAccepted}
use Rattle.exec_map.specs.declared.stretches.NumberRange.{NumberRange}
use Rattle.exec_map.specs.Index.{AreCode, NoRuleBelow, have}
use Rattle.exec_map.specs.Contents.{is_executable, is_private, segment_class, class_of_line, touches, holds_word, is_code_word, word_of, is_supported_word, program_of, AllSupported}

-- every code word below an address is supported
abbrev pub SupportedBelow : Elf → ℕ → Type 0
SupportedBelow e a = (b : ℕ) → b < a → is_code_word e b ≡ true → is_supported_word (word_of e b) ≡ true

-- every code word is supported that is below the next one to be looked at
abbrev pub SupportedUpTo : Elf → Option ℕ → Type 0
SupportedUpTo e None = AllSupported e
SupportedUpTo e (Some a) = (is_code_word e a ≡ true) × (a + 4 ≤ 2 ^ 31) × SupportedBelow e a

-- the next code word from an address on
pub up_to_next : (e : Elf) (from : ℕ) (r : Option ℕ) → SupportedBelow e from → IfSome r (λ a. is_code_word e a ≡ true) → IfSome r (λ a. (b : ℕ) → from ≤ b → b < a → is_code_word e b ≡ false) → IfSome r (λ a. a + 4 ≤ 2 ^ 31) → IfNone r ((b : ℕ) → from ≤ b → is_code_word e b ≡ false) → SupportedUpTo e r
up_to_next e from None below some least low none = record {
  supported = λ b word.
      elim (cases_lt b from) [ inl lt ↦ below b lt word | inr le ↦ absurd (false≢true (sym (none b le) ∙ word)) ];
}
up_to_next e from (Some a) below some least low none = (
  some,
  low,
  λ b lt_next word.
      elim (cases_lt b from) [ inl lt ↦ below b lt word | inr le ↦ absurd (false≢true (sym (least b le lt_next) ∙ word)) ],
)

pub aligned : (n : ℕ) (b : Bool) → ((n == 0) && b) ≡ true → n ≡ 0
aligned n b h = grind (arith, nat_tests)

-- past a code word that is supported
pub below_next : (e : Elf) (a : ℕ) → SupportedBelow e a → is_code_word e a ≡ true → is_supported_word (word_of e a) ≡ true → SupportedBelow e (a + 4)
below_next e a below word supported = λ b lt_next here.
    elim (cases_lt b a) [
      | inl lt ↦ below b lt here
      | inr le ↦
          let a_aligned = aligned (a % 4) _ word in
          let b_aligned = aligned (b % 4) _ here in
          let same : a ≡ b = omega arith in
          subst (λ x. is_supported_word (word_of e x) ≡ true) same supported
    ]

-- the same, by the stretches of the code
pub go_on : (e : Elf) (code : List NumberRange) → AreCode e code → (from : ℕ) (r : Option ℕ) → SupportedBelow e from → IfSome r (λ a. ((a % 4 == 0) && have code a) ≡ true) → IfSome r (λ a. (b : ℕ) → from ≤ b → b < a → ((b % 4 == 0) && have code b) ≡ false) → IfSome r (λ a. a + 4 ≤ 2 ^ 31) → IfNone r ((b : ℕ) → from ≤ b → ((b % 4 == 0) && have code b) ≡ false) → SupportedUpTo e r
go_on e code h from None below some least low none = up_to_next e from None below tt tt tt (λ b le. h.words b ∙ none b le)
go_on e code h from (Some a) below some least low none = up_to_next e from (Some a) below (h.words a ∙ some) (λ b le lt. h.words b ∙ least b le lt) low tt

-- rules 12 to 14 among the others don't fit
pub none_below : (e : Elf) → IsAcceptable e → NoRuleBelow e 15
none_below e h r fits = absurd (no_rule e h r fits)

-- a code word is below the private window
le_by : (a : ℕ) (s : Segment) → s.vaddr + s.memsz ≤ 0x7fff0000 → length s.bytes ≤ s.memsz → a + 4 ≤ s.vaddr + length s.bytes → a + 4 ≤ 0x7fff0000
le_by a s end fits to = omega arith

segment_low : (s : Segment) (a : ℕ) → is_placed s ≡ true → is_too_high s ≡ false → holds_word a s ≡ true → a + 4 ≤ 0x7fff0000
segment_low s a placed low word =
    elim (cases_Bool (has_memory s)) [
      | inl some ↦
          let end : s.vaddr + s.memsz ≤ 0x7fff0000 = high_end s some low in
          let fits : length s.bytes ≤ s.memsz = leb-true _ _ (and_parts _ _ placed).0 in
          let to : a + 4 ≤ s.vaddr + length s.bytes = leb-true _ _ (and_parts _ _ (and_parts (is_executable s) _ word).1).1 in
          le_by a s end fits to
      | inr none ↦ absurd (false≢true (sym (no_word a s placed none) ∙ word))
    ]

pub word_low : (e : Elf) → are_placed e.segments ≡ true → NoRuleBelow e 15 → (a : ℕ) → is_code_word e a ≡ true → a + 4 ≤ 0x7fff0000
word_low e placed none a word =
    let held : list_any (holds_word a) e.segments ≡ true = (and_parts _ _ (and_parts _ _ word).1).1 in
    let at = Any-from_list_any (holds_word a) e.segments held in
    segment_low (get_or e.segments at.0 at.1) a (AllPass-from_list_all is_placed e.segments placed at.0 at.1 at.2) (not_high e none at.0 at.1 at.2) (ap (holds_word a) at.3 ∙ at.4)

-- the upper half has no class
no_line : (s : Segment) (line : ℕ) → is_too_high s ≡ false → 2 ^ 25 ≤ line → touches line s ≡ false
no_line s line low high =
    elim (cases_Bool (has_memory s)) [
      | inl some ↦
          let end : s.vaddr + s.memsz ≤ 0x7fff0000 = high_end s some low in
          let out : nat_lt (64 * line) (s.vaddr + s.memsz) ≡ false = le-ltb _ _ (omega arith) in
          and_right (has_memory s) _ (and_right (nat_lt s.vaddr (64 * line + 64)) _ out)
      | inr none ↦ and_left (has_memory s) _ none
    ]

pub upper : (e : Elf) → NoRuleBelow e 15 → (line : ℕ) → 2 ^ 25 ≤ line → class_of_line e line ≡ Unmapped
upper e none line high =
    let d : Segment = record { flags = 0; vaddr = 0; memsz = 0; bytes = [] } in
    let window : nat_lt line 0x2000000 ≡ false = le-ltb _ _ (omega arith) in
    let private : is_private line ≡ false = and_right (nat_le 0x1fffc00 line) _ window in
    let nowhere : find (touches line) e.segments ≡ None = found_nowhere (find (touches line)) (touches line) Some None refl (λ _ _. refl) e.segments d (λ k lt. no_line (get_or e.segments k d) line (not_high e none k d lt) high) in
    cond-false _ _ _ private ∙ ap segment_class nowhere

code_parts : (b : Bool) (o : Option Instr) (i : Instr) → cond b o None ≡ Some i → (b ≡ true) × (o ≡ Some i)
code_parts true o i h = (refl, h)
code_parts false o i h = absurd (cc)

instruction_in : (o : Option Instr) → is_some o ≡ true → (i : Instr) × (o ≡ Some i)
instruction_in None h = absurd (false≢true h)
instruction_in (Some i) h = (i, refl)

pub accepted : (e : Elf) → are_placed e.segments ≡ true → IsAcceptable e → AllSupported e → IsAccepted (program_of e)
accepted e placed h all =
    let starts : is_code_word e e.entry ≡ true = h.entry in
    let first = instruction_in (instruction_of (word_of e e.entry)) (all.supported e.entry starts) in
    record {
      aligned = λ a i is. aligned (a % 4) _ (code_parts (is_code_word e a) _ i is).0;
      low = λ a i is. word_low e placed (none_below e h) a (code_parts (is_code_word e a) _ i is).0;
      upper = λ line high. upper e (none_below e h) line high;
      first_instruction = first.0;
      starts = ap (λ b. cond b (instruction_of (word_of e e.entry)) None) starts ∙ first.1;
    }

pub next_low : (e : Elf) (code : List NumberRange) → are_placed e.segments ≡ true → IsAcceptable e → AreCode e code → (r : Option ℕ) → IfSome r (λ a. ((a % 4 == 0) && have code a) ≡ true) → IfSome r (λ a. a + 4 ≤ 0x7fff0000)
next_low e code placed ok h None some = tt
next_low e code placed ok h (Some a) some = word_low e placed (none_below e ok) a (h.words a ∙ some)
