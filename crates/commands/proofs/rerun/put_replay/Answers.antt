use Rattle.std.proofs.Common.{inl, inr}
use Rattle.std.proofs.lemmas.Result.{err_from_is_err_and}
use Rattle.dsm_core.specs.CoreParts.{outcome_of}
use Rattle.node_model.specs.Outcome.{Outcome}
use Rattle.dsm_io.specs.States.{SinkState}
use Rattle.judged_files.specs.Executables.{IsUnread}
use Rattle.judged_files.specs.declared.refusal.Subject.TheVariants.{Executable}
use Rattle.commands.specs.Headline.{IsTextWith}
use Rattle.text_output.specs.Failures.{FailsAs, IsNever}
use Rattle.commands.specs.Failures.{IsReplayFailure}
use Rattle.prepared_run.specs.Ready.{work_for}
use Rattle.judged_files.specs.Given.{bytes_of}
use Rattle.prepared_run.specs.Replays.{IsBadReplayLayout, IsBrokenRun, IsOutcomeOfReplay, IsReplayRefused}
use Rattle.commands.proofs.AnswerLemmas.{err_as}
use Rattle.text_output.proofs.Pieces.{never}
use Rattle.commands.proofs.Pieces.{outcome_put, outcome_fails}
use Rattle.commands.proofs.ReplayLemmas.{outcome_of_replay, refused_replay, unput_replay}
use Rattle.prepared_run.proofs.ReplayLemmas.{replay_refused, text_refused}
use Rattle.commands.proofs.rerun.put_replay.Goals as goal

pub returns-in_err-elf-clause-failure : goal.returns-in_err-elf-clause-failure
returns-in_err-elf-clause-failure g c =
    let inputs = bytes_of c.args.inputs.now in
    let state : SinkState = g.O.Sink.state c.args.out.now in
    let e = err_from_is_err_and c.from_residual.result c.from_residual.ensures.1 in
    rw (e.1, e.2) (refused_replay inputs c.args.brief state c.in_err-elf.field-0.0
    (replay_refused inputs (IsUnread Executable inputs.executable) IsNever c.in_err-elf.field-0.0
    (λ line h. inl (inl h)) (never (IsBadReplayLayout inputs)) c.in_err-elf.ensures.refused))

pub returns-in_err-prepared-clause-failure : goal.returns-in_err-prepared-clause-failure
returns-in_err-prepared-clause-failure g c =
    let inputs = bytes_of c.args.inputs.now in
    let state : SinkState = g.O.Sink.state c.args.out.now in
    let e = err_from_is_err_and c.from_residual-in_err-prepared.result
    c.from_residual-in_err-prepared.ensures.1 in
    rw (e.1, e.2) (refused_replay inputs c.args.brief state c.in_err-prepared.field-0.0
    c.in_err-prepared.ensures.refused)

pub returns-in_err-outcome-clause-failure : goal.returns-in_err-outcome-clause-failure
returns-in_err-outcome-clause-failure g c =
    let inputs = bytes_of c.args.inputs.now in
    let work = work_for c.in_ok-prepared.prepared in
    let kept = c.in_ok-prepared.kept in
    let ready = c.in_ok-prepared.ensures.ready in
    let state : SinkState = g.O.Sink.state c.args.out.now in
    let e = err_from_is_err_and c.from_residual-in_err-outcome.result
    c.from_residual-in_err-outcome.ensures.1 in
    rw (e.1, e.2) (refused_replay inputs c.args.brief state c.in_err-outcome.field-0.0
    (text_refused inputs (IsBrokenRun work kept) c.in_err-outcome.field-0.0
    (λ line h. inr (inr (record {
      kept = kept;
      elf = ready.elf;
      plan = ready.plan;
      work = work;
      asked = ready.asked;
      broken = h;
    }))) c.in_err-outcome.ensures.refused))

pub returns-clause-ok : goal.returns-clause-ok
returns-clause-ok g c =
    let inputs = bytes_of c.args.inputs.now in
    let o : Outcome = outcome_of c.in_ok-outcome.outcome in
    let is : IsOutcomeOfReplay inputs o =
    outcome_of_replay inputs c.in_ok-prepared.kept (work_for c.in_ok-prepared.prepared) o
    c.in_ok-prepared.ensures.ready c.in_ok-outcome.ensures.ok in
    outcome_put (IsOutcomeOfReplay inputs) c.args.brief o (g.O.Sink.state c.args.out.now)
    (g.O.Sink.state c.put_told.new.out) c.put_told.result is c.put_told.ensures.ok

pub returns-clause-failure : goal.returns-clause-failure
returns-clause-failure g c =
    let before : SinkState = g.O.Sink.state c.args.out.now in
    let now : SinkState = g.O.Sink.state c.put_told.new.out in
    let inputs = bytes_of c.args.inputs.now in
    let o : Outcome = outcome_of c.in_ok-outcome.outcome in
    let is : IsOutcomeOfReplay inputs o =
    outcome_of_replay inputs c.in_ok-prepared.kept (work_for c.in_ok-prepared.prepared) o
    c.in_ok-prepared.ensures.ready c.in_ok-outcome.ensures.ok in
    err_as (FailsAs (IsTextWith (IsOutcomeOfReplay inputs) c.args.brief) (IsReplayRefused inputs)
    (IsBadReplayLayout inputs) before now) (IsReplayFailure inputs c.args.brief before now)
    c.put_told.result (unput_replay inputs c.args.brief before now)
    (outcome_fails (IsOutcomeOfReplay inputs) c.args.brief (IsReplayRefused inputs)
    (IsBadReplayLayout inputs) o before now c.put_told.result is c.put_told.ensures.failure)
