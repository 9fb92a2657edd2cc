-- The rules one after another. A rule that fits is determined by its number.
use Rattle.std.proofs.Common.{◌≡◌, ℕ, ◌+◌, ◌≤◌, Bool, true, false, cond, inl, inr, Option, Some, None, unwrap_or, List, length, subst, refl, sym, ap, ◌∙◌, arith}
use Rattle.std.specs.Prelude.{position, ◌==◌}
use Rattle.std.proofs.lemmas.Bool.{cases_lt, cases_eq, and_parts, or_cases, eqb-true, leb-true, false≢true}
use Rattle.elf32_read.specs.declared.headers.FileHeader.{FileHeader}
use Rattle.elf32_read.specs.declared.refused.FileRule.{FileRule}
use Rattle.elf32_read.specs.declared.refused.FileRule.TheVariants.{Short, NotElf, NotElf32, NotExec, NotRiscv, Flags, ProgramTable, SectionTable, Dynamic, SegmentOutside, SegmentSizes}
use Rattle.elf32_read.specs.Elf.{are_known_flags}
use Rattle.elf32_read.specs.Fields.{file_header, program_headers}
use Rattle.elf32_read.specs.Refusals.{Fits, number_of, IsRefusedBy, IsReadable, is_dynamic, is_outside, has_wrong_sizes, has_program_table, has_section_table}
use Rattle.elf32_read.specs.Judging.{HasTables, NoRuleBelow}

-- what a search found, or 0
place : Option ℕ → ℕ
place o = unwrap_or o 0

place-some : (o : Option ℕ) (k : ℕ) → o ≡ Some k → k ≡ place o
unfolding place
place-some o k e = rw e refl

-- the rule of a number, with what it would name
pub rule_numbered : List ℕ → ℕ → FileRule
rule_numbered file n =
    cond (n == 1) Short
    (cond (n == 2) NotElf
    (cond (n == 3) NotElf32
    (cond (n == 4) (NotExec (file_header file).e_type)
    (cond (n == 5) (NotRiscv (file_header file).e_machine)
    (cond (n == 6) (Flags (file_header file).e_flags)
    (cond (n == 7) ProgramTable
    (cond (n == 8) SectionTable
    (cond (n == 9) (Dynamic (place (position is_dynamic (program_headers file))))
    (cond (n == 10) (SegmentOutside (place (position (is_outside file) (program_headers file))))
    (SegmentSizes (place (position has_wrong_sizes (program_headers file)))))))))))))

pub named : (file : List ℕ) (r : FileRule) → Fits file r → r ≡ rule_numbered file (number_of r)
unfolding rule_numbered
named file Short f = refl
named file NotElf f = refl
named file NotElf32 f = refl
named file (NotExec kind) f = ap NotExec f.0
named file (NotRiscv machine) f = ap NotRiscv f.0
named file (Flags value) f = ap Flags f.0
named file ProgramTable f = refl
named file SectionTable f = refl
named file (Dynamic header) f = ap Dynamic (place-some _ header f)
named file (SegmentOutside header) f = ap SegmentOutside (place-some _ header f)
named file (SegmentSizes header) f = ap SegmentSizes (place-some _ header f)

-- at most one rule refuses a file first
pub one_rule : (file : List ℕ) (r q : FileRule) → IsRefusedBy file r → IsRefusedBy file q → r ≡ q
one_rule file r q first other =
    let one = first.first q other.fits in
    let two = other.first r first.fits in
    let same : number_of r ≡ number_of q = omega arith in
    named file r first.fits ∙ ap (rule_numbered file) same ∙ sym (named file q other.fits)

pub refused : (file : List ℕ) (r : FileRule) → Fits file r → NoRuleBelow file (number_of r) → IsRefusedBy file r
refused file r fits below = record { fits = fits; first = below }

from_1 : (file : List ℕ) → NoRuleBelow file 1
from_1 file Short f = omega arith
from_1 file NotElf f = omega arith
from_1 file NotElf32 f = omega arith
from_1 file (NotExec kind) f = omega arith
from_1 file (NotRiscv machine) f = omega arith
from_1 file (Flags value) f = omega arith
from_1 file ProgramTable f = omega arith
from_1 file SectionTable f = omega arith
from_1 file (Dynamic header) f = omega arith
from_1 file (SegmentOutside header) f = omega arith
from_1 file (SegmentSizes header) f = omega arith

-- from one number to the next, where the rule of that number doesn't fit
next : (file : List ℕ) (n : ℕ) → NoRuleBelow file n → (Fits file (rule_numbered file n) → ⊥) → NoRuleBelow file (n + 1)
next file n below none r f =
    let le = below r f in
    elim (cases_eq (number_of r) n) [
      | inl is ↦ absurd (none (subst (Fits file) (named file r f ∙ ap (rule_numbered file) is) f))
      | inr ne ↦ omega arith
    ]

pub below_1 : (file : List ℕ) → NoRuleBelow file 1
below_1 file = from_1 file

pub below_2 : (file : List ℕ) → 52 ≤ length file → NoRuleBelow file 2
unfolding rule_numbered
below_2 file long = next file 1 (from_1 file) (λ f. absurd (omega arith))

pub below_3 : (file : List ℕ) → NoRuleBelow file 2 → (Fits file NotElf → ⊥) → NoRuleBelow file 3
unfolding rule_numbered
below_3 file below none = next file 2 below none

pub below_4 : (file : List ℕ) → NoRuleBelow file 3 → (Fits file NotElf32 → ⊥) → NoRuleBelow file 4
unfolding rule_numbered
below_4 file below none = next file 3 below none

pub below_5 : (file : List ℕ) → NoRuleBelow file 4 → (file_header file).e_type ≡ 2 → NoRuleBelow file 5
unfolding rule_numbered
below_5 file below is = next file 4 below (λ f. f.1 is)

pub below_6 : (file : List ℕ) → NoRuleBelow file 5 → (file_header file).e_machine ≡ 243 → NoRuleBelow file 6
unfolding rule_numbered
below_6 file below is = next file 5 below (λ f. f.1 is)

pub below_7 : (file : List ℕ) → NoRuleBelow file 6 → (Fits file (Flags (file_header file).e_flags) → ⊥) → NoRuleBelow file 7
unfolding rule_numbered
below_7 file below none = next file 6 below none

pub below_8 : (file : List ℕ) → NoRuleBelow file 7 → (Fits file ProgramTable → ⊥) → NoRuleBelow file 8
unfolding rule_numbered
below_8 file below none = next file 7 below none

pub below_9 : (file : List ℕ) → NoRuleBelow file 8 → (Fits file SectionTable → ⊥) → NoRuleBelow file 9
unfolding rule_numbered
below_9 file below none = next file 8 below none

-- a search that found nothing found nothing named
nothing : (o : Option ℕ) (k : ℕ) → o ≡ None → o ≡ Some k → ⊥
nothing o k none some = cc

pub below_10 : (file : List ℕ) → NoRuleBelow file 9 → position is_dynamic (program_headers file) ≡ None → NoRuleBelow file 10
unfolding rule_numbered
below_10 file below none = next file 9 below (λ f. nothing _ _ none f)

pub below_11 : (file : List ℕ) → NoRuleBelow file 10 → position (is_outside file) (program_headers file) ≡ None → NoRuleBelow file 11
unfolding rule_numbered
below_11 file below none = next file 10 below (λ f. nothing _ _ none f)

below_12 : (file : List ℕ) → NoRuleBelow file 11 → position has_wrong_sizes (program_headers file) ≡ None → NoRuleBelow file 12
unfolding rule_numbered
below_12 file below none = next file 11 below (λ f. nothing _ _ none f)

few : (r : FileRule) → number_of r ≤ 11
few Short = omega arith
few NotElf = omega arith
few NotElf32 = omega arith
few (NotExec kind) = omega arith
few (NotRiscv machine) = omega arith
few (Flags value) = omega arith
few ProgramTable = omega arith
few SectionTable = omega arith
few (Dynamic header) = omega arith
few (SegmentOutside header) = omega arith
few (SegmentSizes header) = omega arith

-- a test that isn't false
pub holds : (b : Bool) → (b ≡ false → ⊥) → b ≡ true
holds true never = refl
holds false never = absurd (never refl)

none_from : (o : Option ℕ) → ((k : ℕ) → o ≡ Some k → ⊥) → o ≡ None
none_from None never = refl
none_from (Some k) never = absurd (never k refl)

equal_by : (a b : ℕ) → ((a ≡ b → ⊥) → ⊥) → a ≡ b
equal_by a b never = elim (cases_eq a b) [ inl is ↦ is | inr ne ↦ absurd (never ne) ]

-- where no rule fits the file is readable
pub readable_by : (file : List ℕ) → ((r : FileRule) → Fits file r → ⊥) → IsReadable file
readable_by file never =
    let h : FileHeader = file_header file in
    record {
      whole = elim (cases_lt (length file) 52) [ inl short ↦ absurd (never Short short) | inr long ↦ long ];
      elf = holds _ (never NotElf);
      elf32 = holds _ (never NotElf32);
      executable = equal_by h.e_type 2 (λ ne. never (NotExec h.e_type) (refl, ne));
      riscv = equal_by h.e_machine 243 (λ ne. never (NotRiscv h.e_machine) (refl, ne));
      flags = holds _ (λ f. never (Flags h.e_flags) (refl, f));
      program_table = holds _ (never ProgramTable);
      section_table = holds _ (never SectionTable);
      static = none_from _ (λ k f. never (Dynamic k) f);
      inside = none_from _ (λ k f. never (SegmentOutside k) f);
      sizes = none_from _ (λ k f. never (SegmentSizes k) f);
    }

-- and no rule fits a readable file
pub no_rule : (file : List ℕ) → IsReadable file → (r : FileRule) → Fits file r → ⊥
no_rule file h Short f = let long = h.whole in omega (arith, long, f)
no_rule file h NotElf f = false≢true (sym f ∙ h.elf)
no_rule file h NotElf32 f = false≢true (sym f ∙ h.elf32)
no_rule file h (NotExec kind) f = f.1 (f.0 ∙ h.executable)
no_rule file h (NotRiscv machine) f = f.1 (f.0 ∙ h.riscv)
no_rule file h (Flags value) f = false≢true (sym f.1 ∙ ap are_known_flags f.0 ∙ h.flags)
no_rule file h ProgramTable f = false≢true (sym f ∙ h.program_table)
no_rule file h SectionTable f = false≢true (sym f ∙ h.section_table)
no_rule file h (Dynamic header) f = nothing _ header h.static f
no_rule file h (SegmentOutside header) f = nothing _ header h.inside f
no_rule file h (SegmentSizes header) f = nothing _ header h.sizes f

pub readable : (file : List ℕ) → NoRuleBelow file 11 → position has_wrong_sizes (program_headers file) ≡ None → IsReadable file
readable file below none =
    readable_by file (λ r f.
    let high = below_12 file below none r f in
    let low = few r in
    omega arith)

-- both tables are in a file that has them
pub tables : (file : List ℕ) (h : FileHeader) → h ≡ file_header file → has_program_table file ≡ true
    → has_section_table file ≡ true → HasTables file h
tables file h is programs sections =
    let whole : HasTables file (file_header file) = record {
      is = refl;
      programs = leb-true _ _ (and_parts _ _ (and_parts _ _ programs).1).1;
      sections = λ some.
          elim (or_cases _ _ sections) [
            | inl none ↦ let e : (file_header file).e_shnum ≡ 0 = eqb-true _ _ none in absurd (omega arith)
            | inr all ↦ leb-true _ _ (and_parts _ _ all).1
          ];
    } in
    subst (HasTables file) (sym is) whole

pub readable_long : (file : List ℕ) → IsReadable file → 52 ≤ length file
readable_long file r = r.whole

pub readable_tables : (file : List ℕ) → IsReadable file → HasTables file (file_header file)
readable_tables file r =
    tables file (file_header file) refl r.program_table r.section_table

-- a readable file has known flags
pub readable_flags : (file : List ℕ) → IsReadable file
    → are_known_flags (file_header file).e_flags ≡ true
readable_flags file r = r.flags
