-- The record of a run, and how its text, its blocks and its number of words are refused.
use Rattle.std.specs.Prelude.{◌≡◌, ℕ, List}
use Rattle.elf32_read.specs.Elf.{Elf}
use Rattle.exec_map.specs.Contents.{AreSharedRanges}
use Rattle.block_layout.specs.declared.ranges.Lines.{Lines}
use Rattle.block_layout.specs.declared.refused.LayoutRule.{LayoutRule}
use Rattle.block_layout.specs.Layout.{Shape}
use Rattle.block_layout.specs.Text.{IsFirstBroken}
use Rattle.run_record.specs.declared.Record.{Record}
use Rattle.run_record.specs.declared.refused.RecordRule.{RecordRule}
use Rattle.run_record.specs.declared.refused.RecordRule.TheVariants as rules
use Rattle.run_record.specs.Record.{IsRecord, NamesOtherCode}
use Rattle.run_record.specs.Rules.{IsFirstFault}
use Rattle.run_record.specs.Telling.{IsOfWords}
use Rattle.run_record.specs.Text.{record_text}
use Rattle.judged_files.specs.Text.{layout_line, record_line}

-- the text is that of the record
pub record IsTextOf (kept : Record) (text : List ℕ) : Type 0 where
  pub text_is : text ≡ record_text kept
  pub is_record : IsRecord kept
  pub of_words : IsOfWords kept

-- the text is that of no record: the line says which of its lines breaks a rule first, and which
-- rule is the lowest
pub record IsFaultyText (text line : List ℕ) : Type 0 where
  pub rule : RecordRule
  pub number : ℕ
  pub fault : IsFirstFault text rule number
  pub line_is : line ≡ record_line rule number

-- the layout is that of the record's blocks over the executable's shared lines
pub record IsLayoutOfBlocks (elf : Elf) (kept : Record) (layout : Shape) : Type 0 where
  pub shared : List Lines
  pub lines : AreSharedRanges elf shared
  pub layout_is : layout ≡ record { shared = shared; named = kept.blocks; nodes = kept.nodes }

-- one of the record's blocks breaks a rule of layouts of the executable's shared lines: the line
-- says which block first, and which rule is the lowest
pub record AreFaultyBlocks (elf : Elf) (kept : Record) (line : List ℕ) : Type 0 where
  pub shared : List Lines
  pub lines : AreSharedRanges elf shared
  pub rule : LayoutRule
  pub number : ℕ
  pub broken : IsFirstBroken kept.blocks shared kept.nodes rule number
  pub line_is : line ≡ layout_line rule number

-- the record names another number of rewritten words than this: the line says so, of the fifth line
-- of the record's text
pub record IsOtherCode (kept : Record) (words : ℕ) (line : List ℕ) : Type 0 where
  pub other : NamesOtherCode kept words
  pub line_is : line ≡ record_line rules.Code 5
