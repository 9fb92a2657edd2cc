-- A record's run, made once more.
use Rattle.std.proofs.Common.{Bool, map, refl, inl}
use Rattle.node_model.specs.Core.{opening_core, after}
use Rattle.node_model.specs.Node.{Work}
use Rattle.node_model.specs.Outcome.{Outcome}
use Rattle.run_record.specs.declared.Record.{Record as Kept}
use Rattle.replay.specs.Replay.{IsReplay}
use Rattle.replay.specs.Told.{what_told, events_told}
use Rattle.text_output.specs.declared.failure.Failure.{Failure}
use Rattle.text_output.specs.declared.failure.Failure.TheVariants.{Input, NotWritten, Refused, Layout, Record, Text, Output, OutOfMemory}
use Rattle.command_line.specs.Tasks.{ReplayArguments}
use Rattle.command_line.specs.Commands.{Replay}
use Rattle.dsm_io.specs.States.{SinkState, FilesState}
use Rattle.text_output.specs.Failures.{FailsAs}
use Rattle.prepared_run.specs.Replays.{IsReplayRefusal, IsBadReplayLayout, IsOutcomeOfReplay, IsReplayRefused}
use Rattle.commands.specs.Failures.{IsPerformFailure, IsReplayFailure}
use Rattle.prepared_run.specs.Ready.{IsReadyFor}
use Rattle.commands.specs.Headline.{IsTextWith}
use Rattle.judged_files.specs.Inputs.{Inputs}

-- nothing is put then
pub refused_replay : (inputs : Inputs) (brief : Bool) (state : SinkState) (f : Failure)
    → IsReplayRefusal inputs f → IsReplayFailure inputs brief state state f
refused_replay inputs brief state (Input line) h = absurd h
refused_replay inputs brief state (NotWritten line) h = absurd h
refused_replay inputs brief state (Refused line) h = (h, refl)
refused_replay inputs brief state (Layout line) h = (h, refl)
refused_replay inputs brief state (Record line) h = (h, refl)
refused_replay inputs brief state (Text line) h = absurd h
refused_replay inputs brief state Output h = absurd h
refused_replay inputs brief state OutOfMemory h = inl refl

-- a text that isn't put whole
pub unput_replay : (inputs : Inputs) (brief : Bool) (before now : SinkState) (f : Failure)
    → FailsAs (IsTextWith (IsOutcomeOfReplay inputs) brief) (IsReplayRefused inputs)
    (IsBadReplayLayout inputs) before now f → IsReplayFailure inputs brief before now f
unput_replay inputs brief before now (Input line) h = h
unput_replay inputs brief before now (NotWritten line) h = h
unput_replay inputs brief before now (Refused line) h = h
unput_replay inputs brief before now (Layout line) h = h
unput_replay inputs brief before now (Record line) h = absurd h
unput_replay inputs brief before now (Text line) h = h
unput_replay inputs brief before now Output h = h
unput_replay inputs brief before now OutOfMemory h = h

-- it is a failure of the command
pub replay_fails : (a : ReplayArguments) (inputs : Inputs) (fb fn : FilesState)
    (before now : SinkState) (f : Failure) → IsReplayFailure inputs a.brief before now f
    → IsPerformFailure (Replay a) inputs fb fn before now f
replay_fails a inputs fb fn before now (Input line) h = h
replay_fails a inputs fb fn before now (NotWritten line) h = absurd h
replay_fails a inputs fb fn before now (Refused line) h = h
replay_fails a inputs fb fn before now (Layout line) h = h
replay_fails a inputs fb fn before now (Record line) h = h
replay_fails a inputs fb fn before now (Text line) h = absurd h
replay_fails a inputs fb fn before now Output h = h
replay_fails a inputs fb fn before now OutOfMemory h = h

pub outcome_of_replay : (inputs : Inputs) (kept : Kept) (work : Work) (o : Outcome)
    → IsReadyFor inputs kept work → IsReplay work kept o → IsOutcomeOfReplay inputs o
outcome_of_replay inputs kept work o ready h = record {
  kept = kept;
  elf = ready.elf;
  plan = ready.plan;
  work = work;
  asked = ready.asked;
  told = h.told;
  tells = h.whole;
  of_code = ready.gives (after work (opening_core work) (events_told h.told))
      (map what_told h.told) o h.stands h.whole.over h.outcome;
}
