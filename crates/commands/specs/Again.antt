-- A replay of the record that a run left.
use Rattle.std.specs.Prelude.{◌≡◌, ℕ, List, Some, option_map}
use Rattle.command_line.specs.Tasks.{RunArguments, ReplayArguments}
use Rattle.command_line.specs.Commands.{Command, Run, Replay}
use Rattle.commands.specs.Headline.{held_by}
use Rattle.dsm_io.specs.Causes.{Appends}
use Rattle.dsm_io.specs.States.{FilesState, SinkState}

-- The replay, where files have these later contents, is of the record that the run left: it reads
-- the bytes of the same executable, and of that record; both have no verified file, or files of the
-- same bytes; and both are brief, or none.
pub record IsReplayOfRun (contents later : List ℕ → List ℕ) (left : FilesState)
    (ran : RunArguments) (replay : ReplayArguments) : Type 0
  where
    pub executable : later replay.file ≡ contents ran.execution.file
    pub verified : option_map later replay.verified ≡ option_map contents ran.execution.verified
    pub left_record : held_by left ran.record_file ≡ Some (later replay.record_file)
    pub brief : replay.brief ≡ ran.execution.brief

-- the second command is such a replay of the first one
abbrev pub IsReplayOf : (contents later : List ℕ → List ℕ) → (left : FilesState) → Command
    → Command → Type 0
IsReplayOf contents later left (Run ran) (Replay replay) =
    IsReplayOfRun contents later left ran replay
IsReplayOf contents later left ran replay = ⊥

-- both put the whole of one text, with one status
pub record PutOneText (before now : SinkState) (status : ℕ) (before_again now_again : SinkState)
    (status_again : ℕ) : Type 0 where
  pub text : List ℕ
  pub put : Appends before.taken now.taken text
  pub put_again : Appends before_again.taken now_again.taken text
  pub same_status : status_again ≡ status
