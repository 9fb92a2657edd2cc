-- Helps the code alone: when the words of rewritten code commit.
use Rattle.std.specs.Prelude.{◌≡◌, ℕ, List, slice_index_or}
use Rattle.std.specs.Option.{option_map_or}
use Rattle.rv32_program.specs.Program.{Program}
use Rattle.templates.specs.Commits.{commit_at}
use Rattle.templates.specs.declared.commits.CommitKind.{CommitKind}
use Rattle.templates.specs.declared.commits.CommitKind.TheVariants.{Never}
use Rattle.templates.specs.declared.plans.PlanEntry.{PlanEntry}
use Rattle.replay.specs.node_model.jump_map.Image.{Cell}
use Rattle.replay.specs.node_model.jump_map.Maps.{index_of, old_of}
use Rattle.run_trace.specs.declared.kinds.CommitKinds.{CommitKinds}

-- the kind of the word at an address, by those of the words in order
abbrev pub kind_by : List CommitKind → ℕ → CommitKind
kind_by kinds new = option_map_or (λ k. slice_index_or kinds k Never) (index_of new) Never

abbrev pub kind_in : CommitKinds → ℕ → CommitKind
kind_in k new = kind_by k.kinds.items new

-- of each word of an image that is its kind
abbrev pub AreKindsOf : Program → List PlanEntry → List Cell → CommitKinds → Type 0
AreKindsOf program plan image k =
    (new : ℕ) → kind_in k new ≡ commit_at program plan (old_of image new)
