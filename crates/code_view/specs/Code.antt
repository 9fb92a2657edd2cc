-- The text of rewritten code: under a line of each place of the original the lines of the words
-- that stand for it.
use Rattle.std.specs.Prelude.{◌≢◌, ℕ, zero, suc, ◌+◌, ◌-◌, ◌≤◌, List, [], ◌∷◌, ◌++◌, Option, Some, None, codes, length, replicate}
use Rattle.rv32_text.specs.Listing.{word_digits, text_of_word}
use Rattle.elf32_read.specs.Elf.{Elf}
use Rattle.exec_map.specs.Contents.{program_of, word_at}
use Rattle.rv32_program.specs.Program.{Program}
use Rattle.templates.specs.declared.commits.CommitKind.{CommitKind}
use Rattle.templates.specs.declared.places.Place.{Place}
use Rattle.templates.specs.declared.plans.PlanEntry.{PlanEntry}
use Rattle.templates.specs.Code.{HasCode, code_of}
use Rattle.templates.specs.Commits.{commit_at}
use Rattle.templates.specs.Runs.{IsRun}
use Rattle.jump_map.specs.Image.{Cell, address_of_word, entry_items, plan_items, most_words, HasRunsOf}
use Rattle.jump_map.specs.Maps.{cell_at}
use Rattle.code_view.specs.declared.view.CodeView.{CodeView}
use Rattle.code_view.specs.Names.{commit_mark, part_name}
use Rattle.code_view.specs.Plans.{plan_text}
use Rattle.code_view.specs.Words.{rewritten_text}

-- 1. The head, which says what stands in the columns

unfoldable pub head : List ℕ
head =
    codes "address   word     text                           ; template, scratch registers; run\n"
    ++ (codes "  address   word     place    part     c text\n"
    ++ codes "c: * commits a step, ? unless the value is the flag, ~ unless it waits, . doesn't\n")

-- 2. A place of the original

-- a text with so many characters or more, of which the last are spaces
abbrev pub padded : ℕ → List ℕ → List ℕ
padded n text = text ++ replicate (n - length text) 32

abbrev pub original_text : (address : ℕ) → Option ℕ → List ℕ
original_text a (Some word) = word_digits word ++ (codes " " ++ padded 30 (text_of_word a word))
original_text a None = codes "-------- no code word                  "

-- the line of an entry's place: its code word, as in a listing, and what the plan says of it
abbrev pub place_line : Elf → PlanEntry → List ℕ
place_line elf e =
    word_digits e.address ++ (codes ": " ++ (original_text e.address (word_at elf e.address)
    ++ (codes " ; " ++ (plan_text e ++ codes "\n"))))

-- 3. A word of rewritten code

abbrev pub place_text : Option Place → List ℕ
place_text (Some p) = word_digits p.address ++ (codes " " ++ part_name p.part)
place_text None = codes "no place         "

-- a word and its address
abbrev pub numbers_text : (at word : ℕ) → List ℕ
numbers_text at word =
    codes "  " ++ (word_digits at ++ (codes ": " ++ (word_digits word ++ codes " ")))

-- where it belongs, and whether it commits
abbrev pub notes_text : Option Place → CommitKind → List ℕ
notes_text place kind = place_text place ++ (codes " " ++ (commit_mark kind ++ codes " "))

-- the line of a word by the entries whose words it may be
abbrev pub cell_line : Program → List PlanEntry → (at : ℕ) → Option Cell → List ℕ
cell_line program entries at None = []
cell_line program entries at (Some c) =
    numbers_text at c.word ++ (notes_text c.place (commit_at program entries c.place)
    ++ (rewritten_text at c.word ++ codes "\n"))

abbrev pub cell_with : (word : ℕ) → Option Place → Option Cell
cell_with word place = Some (record { word = word; place = place })

-- the line of the word of a number
abbrev pub word_line : Program → List PlanEntry → List Cell → (number : ℕ) → List ℕ
word_line program entries image number =
    cell_line program entries (address_of_word number) (cell_at image (address_of_word number))

-- the lines of so many words, from this number on
abbrev pub word_lines : Program → List PlanEntry → List Cell → (number words : ℕ) → List ℕ
word_lines program entries image number zero = []
word_lines program entries image number (suc words) =
    word_line program entries image number ++ word_lines program entries image (number + 1) words

-- 4. The whole

-- how many words an entry has
abbrev pub words_of : Program → PlanEntry → ℕ
words_of program e = length (entry_items program e)

-- the line of an entry's place, and those of its words, of which the first has this number
abbrev pub entry_text : Elf → List Cell → (number : ℕ) → PlanEntry → List ℕ
entry_text elf image number e =
    place_line elf e
    ++ word_lines (program_of elf) (e ∷ []) image number (words_of (program_of elf) e)

abbrev pub entries_text : Elf → List Cell → (number : ℕ) → List PlanEntry → List ℕ
entries_text elf image number [] = []
entries_text elf image number (e ∷ es) =
    entry_text elf image number e
    ++ entries_text elf image (number + words_of (program_of elf) e) es

-- the head; the line of word 0, which has no place; and the text of each entry
abbrev pub code_text : Elf → List PlanEntry → List Cell → List ℕ
code_text elf plan image =
    head ++ (word_line (program_of elf) [] image 0 ++ entries_text elf image 1 plan)

-- 5. What is shown

-- the code words are those of the program, the plan's runs are of this code, and its words are no
-- more than rewritten code may have
pub record IsShown (v : CodeView) : Type 0 where
  pub code : HasCode (program_of v.program.now) v.code.now
  pub runs : HasRunsOf v.code.now v.plan.now
  pub few : 1 + length (plan_items (program_of v.program.now) v.plan.now) ≤ most_words

-- the entry's run, if it has one, is of this code
pub record IsEntryShown (v : CodeView) (e : PlanEntry) : Type 0 where
  pub code : HasCode (program_of v.program.now) v.code.now
  pub run : e.run ≢ 0 → IsRun (code_of v.code.now) e.address e.run
