-- The lines that refusals have, and those of files that can't be read.
use Rattle.std.specs.Prelude.{ℕ, List, [], ◌++◌, codes}
use Rattle.std.specs.Fmt.{decimal}
use Rattle.rv32_program.specs.declared.Exit.TheVariants.{Code}
use Rattle.elf32_read.specs.Refusals as files
use Rattle.elf32_read.specs.declared.refused.FileRule.{FileRule}
use Rattle.elf32_read.specs.declared.refused.FileRule.TheVariants.{Short, NotElf, NotElf32, NotExec, NotRiscv, Flags, ProgramTable, SectionTable, Dynamic, SegmentOutside, SegmentSizes}
use Rattle.exec_map.specs.Refusals.{number_of}
use Rattle.exec_map.specs.declared.refused.ProgramRule.{ProgramRule}
use Rattle.exec_map.specs.declared.refused.ProgramRule.TheVariants.{TooHigh, Overlap, WritableCode, NoCode, TooMuch, EntryNotCode, Unsupported, CodeAlign, TooManySegments}
use Rattle.rv32_program.specs.declared.Class.{Class}
use Rattle.rv32_program.specs.declared.Class.TheVariants.{Shared}
use Rattle.rewrite_verify.specs.rewriter.declared.file.FilePart.{FilePart}
use Rattle.rewrite_verify.specs.rewriter.declared.file.FilePart.TheVariants as part
use Rattle.rewrite_verify.specs.declared.refused.VerifyRefused.{VerifyRefused}
use Rattle.rewrite_verify.specs.declared.refused.VerifyRefused.TheVariants as verify
use Rattle.block_layout.specs.Text as layouts
use Rattle.block_layout.specs.declared.refused.LayoutRule.{LayoutRule}
use Rattle.run_record.specs.Rules as records
use Rattle.run_record.specs.declared.refused.RecordRule.{RecordRule}
use Rattle.rv32_asm.specs.Rules as assembly
use Rattle.rv32_asm.specs.declared.refused.AsmRule.{AsmRule}
use Rattle.text_output.specs.Text.{hex8}
use Rattle.judged_files.specs.declared.refusal.Subject.{Subject}
use Rattle.judged_files.specs.declared.refusal.Subject.TheVariants as subject

abbrev pub cannot_read : List ℕ → List ℕ
cannot_read name = codes "shasta: cannot read " ++ (name ++ codes "\n")

abbrev pub too_long : List ℕ → List ℕ
too_long name = codes "shasta: " ++ (name ++ codes " is longer than 33554432 bytes\n")

-- what a refusal is of: the executable, or a file of its rewritten code, or a verified one
abbrev pub subject_text : Subject → List ℕ
subject_text subject.Executable = codes "executable"
subject_text subject.Code = codes "code"

-- the line of a refusal, by what it is of, its number and its text
abbrev pub refusal_head : Subject → ℕ → List ℕ
refusal_head of number =
    codes "shasta: " ++ (subject_text of ++ (codes " refused " ++ (decimal number ++ codes " ")))

abbrev pub refusal : Subject → ℕ → List ℕ → List ℕ
refusal of number text = refusal_head of number ++ (text ++ codes "\n")

abbrev pub class_name : Class → List ℕ
class_name Shared = codes "shared"
class_name c = codes "read-only"

-- a rule that refuses a file: its name, and what it names
abbrev pub file_rule_text : FileRule → List ℕ
file_rule_text Short = codes "Short"
file_rule_text NotElf = codes "NotElf"
file_rule_text NotElf32 = codes "NotElf32"
file_rule_text (NotExec kind) = codes "NotExec type " ++ decimal kind
file_rule_text (NotRiscv machine) = codes "NotRiscv machine " ++ decimal machine
file_rule_text (Flags value) = codes "Flags " ++ hex8 value
file_rule_text ProgramTable = codes "ProgramTable"
file_rule_text SectionTable = codes "SectionTable"
file_rule_text (Dynamic header) = codes "Dynamic header " ++ decimal header
file_rule_text (SegmentOutside header) = codes "SegmentOutside header " ++ decimal header
file_rule_text (SegmentSizes header) = codes "SegmentSizes header " ++ decimal header

abbrev pub file_line : Subject → FileRule → List ℕ
file_line of rule = refusal of (files.number_of rule) (file_rule_text rule)

-- a rule that refuses a program: its name, and what it names
abbrev pub rule_text : ProgramRule → List ℕ
rule_text (TooHigh segment) = codes "TooHigh segment " ++ decimal segment
rule_text (Overlap first second) =
    codes "Overlap segments " ++ (decimal first ++ (codes " " ++ decimal second))
rule_text (WritableCode segment) = codes "WritableCode segment " ++ decimal segment
rule_text NoCode = codes "NoCode"
rule_text (TooMuch class) = codes "TooMuch " ++ class_name class
rule_text (EntryNotCode address) = codes "EntryNotCode " ++ hex8 address
rule_text (Unsupported address word) =
    codes "Unsupported " ++ (hex8 address ++ (codes " word " ++ hex8 word))
rule_text (CodeAlign section) = codes "CodeAlign section " ++ decimal section
rule_text (TooManySegments count) =
    codes "TooManySegments " ++ (decimal count ++ codes " segments")

abbrev pub program_line : ProgramRule → List ℕ
program_line rule = refusal subject.Executable (number_of rule) (rule_text rule)

abbrev pub too_many_words : ℕ → List ℕ
too_many_words words =
    refusal subject.Executable 20 (codes "CodeTooLarge " ++ (decimal words ++ codes " words"))

-- a file of code that is read, but isn't that of the rewriting: the first part that differs
abbrev pub part_name : FilePart → List ℕ
part_name part.Plan = codes "Plan"
part_name part.Map = codes "Map"
part_name part.Code = codes "Code"

abbrev pub code_line : FilePart → List ℕ
code_line differs = refusal subject.Code 21 (codes "PlanRefused " ++ part_name differs)

-- why a verified file is that of no rewriting: the number, and the name with what it names; want of
-- memory is no reason, and has neither
abbrev pub verify_number : VerifyRefused → ℕ
verify_number verify.NoPlan = 50
verify_number (verify.BadPlan address) = 51
verify_number (verify.CodeTooLarge words) = 20
verify_number verify.BadMap = 52
verify_number (verify.BadCode address) = 53
verify_number verify.BadFile = 54
verify_number verify.OutOfMemory = 0

abbrev pub verify_text : VerifyRefused → List ℕ
verify_text verify.NoPlan = codes "NoPlan"
verify_text (verify.BadPlan address) = codes "BadPlan " ++ hex8 address
verify_text (verify.CodeTooLarge words) = codes "CodeTooLarge " ++ (decimal words ++ codes " words")
verify_text verify.BadMap = codes "BadMap"
verify_text (verify.BadCode address) = codes "BadCode " ++ hex8 address
verify_text verify.BadFile = codes "BadFile"
verify_text verify.OutOfMemory = []

abbrev pub verify_line : VerifyRefused → List ℕ
verify_line refused = refusal subject.Code (verify_number refused) (verify_text refused)

-- the line of a rule that refuses a layout, and of the line that breaks it
abbrev pub layout_line : LayoutRule → ℕ → List ℕ
layout_line rule line =
    codes "shasta: layout refused " ++ (decimal (layouts.number_of rule)
    ++ (codes " at line " ++ (decimal line ++ codes "\n")))

-- the line of a rule that refuses the text of a record, and of the line that breaks it
abbrev pub record_line : RecordRule → ℕ → List ℕ
record_line rule line =
    codes "shasta: record refused " ++ (decimal (records.number_of rule)
    ++ (codes " at line " ++ (decimal line ++ codes "\n")))

-- the line of a rule that refuses an assembly text, and of the line that breaks it
abbrev pub assembly_line : AsmRule → ℕ → List ℕ
assembly_line rule line =
    codes "shasta: text refused " ++ (decimal (assembly.number_of rule)
    ++ (codes " at line " ++ (decimal line ++ codes "\n")))
