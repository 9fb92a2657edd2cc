-- Helps the code alone: the words of a sequence that commit.
use Rattle.std.specs.Prelude.{◌≡◌, ℕ, ℤ, ◌==◌, if◌then◌else◌, List, slice_get}
use Rattle.std.specs.Option.{option_map_or}
use Rattle.templates.specs.declared.commits.CommitKind.{CommitKind}
use Rattle.templates.specs.declared.commits.CommitKind.TheVariants.{Never, Always, IfNotFlag}
use Rattle.templates.specs.declared.plans.Scratches.{Scratches}
use Rattle.rv32_decode.specs.declared.LoadKind.{LoadKind}
use Rattle.templates.specs.Plans.{is_flag_checked}
use Rattle.templates.specs.Sequences.{SequenceItem, load_sequence, flag_load_sequence}

-- the kind of commit of the word of a number
abbrev pub kind_at : List SequenceItem → ℕ → CommitKind
kind_at items k = option_map_or (λ i. i.commit) (slice_get items k) Never

-- the word of this number has this kind of commit, and the others none
pub record CommitsAt (items : List SequenceItem) (n : ℕ) (kind : CommitKind) : Type 0 where
  pub each : (k : ℕ) → kind_at items k ≡ (if k == n then kind else Never)

-- the word of the first number commits where its value isn't the flag, that of the second always,
-- and the others never
pub record CommitsTwice (items : List SequenceItem) (n m : ℕ) : Type 0 where
  pub each : (k : ℕ)
      → kind_at items k ≡ (if k == n then IfNotFlag else (if k == m then Always else Never))

-- the kind of commit of a word of a load's sequence
abbrev pub IsLoadCommit : Scratches → LoadKind → ℕ → ℕ → ℕ → CommitKind → Type 0
IsLoadCommit x k rd rs1 word kind =
    (imm : ℤ) → kind ≡ kind_at (load_sequence (is_flag_checked k rd rs1) x k rd rs1 imm) word

abbrev pub IsFlagLoadCommit : Scratches → ℕ → CommitKind → Type 0
IsFlagLoadCommit x word kind =
    (rd rs1 : ℕ) (imm : ℤ) → kind ≡ kind_at (flag_load_sequence x rd rs1 imm) word
