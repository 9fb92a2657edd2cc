use Rattle.std.proofs.Common.{ap, inl, refl}
use Rattle.std.proofs.lemmas.Result.{err_from_is_err_and}
use Rattle.block_layout.specs.Layout.{Shape}
use Rattle.byte_source.specs.Sources.{SourceState}
use Rattle.dsm_io.specs.States.{SinkState}
use Rattle.judged_files.specs.Executables.{IsUnread}
use Rattle.judged_files.specs.Given.{bytes_of}
use Rattle.judged_files.specs.declared.refusal.Subject.TheVariants.{Executable}
use Rattle.text_output.specs.Failures.{IsNever}
use Rattle.text_output.proofs.Pieces.{never}
use Rattle.prepared_run.specs.Replays.{IsBadReplayLayout}
use Rattle.prepared_run.proofs.ReplayLemmas.{replay_refused}
use Rattle.views.specs.Debugger.{streams}
use Rattle.views.proofs.Debugged.{refused_session}
use Rattle.views.proofs.debugger.serve_run.Goals as goal

pub returns-in_err-elf-clause-failure : goal.returns-in_err-elf-clause-failure
returns-in_err-elf-clause-failure g c =
    let inputs = bytes_of c.args.inputs.now in
    let source : SourceState = g.S.Source.state c.args.source.now in
    let out : SinkState = g.O.Sink.state c.args.out.now in
    let e = err_from_is_err_and c.from_residual.result c.from_residual.ensures.1 in
    rw (e.1, e.2) (refused_session inputs (streams source source out out) c.in_err-elf.field-0.0
    (record { input = refl; output = refl })
    (replay_refused inputs (IsUnread Executable inputs.executable) IsNever c.in_err-elf.field-0.0
    (λ line h. inl (inl h)) (never (IsBadReplayLayout inputs)) c.in_err-elf.ensures.refused))

pub returns-in_err-prepared-clause-failure : goal.returns-in_err-prepared-clause-failure
returns-in_err-prepared-clause-failure g c =
    let inputs = bytes_of c.args.inputs.now in
    let source : SourceState = g.S.Source.state c.args.source.now in
    let out : SinkState = g.O.Sink.state c.args.out.now in
    let e = err_from_is_err_and c.from_residual-in_err-prepared.result c.from_residual-in_err-prepared.ensures.1 in
    rw (e.1, e.2) (refused_session inputs (streams source source out out) c.in_err-prepared.field-0.0
    (record { input = refl; output = refl }) c.in_err-prepared.ensures.refused)

pub serve_prepared-requires-clause-plan : goal.serve_prepared-requires-clause-plan
serve_prepared-requires-clause-plan g c = c.in_ok-prepared.ensures.asked.rewritten.rewriting

pub serve_prepared-requires-clause-record : goal.serve_prepared-requires-clause-record
serve_prepared-requires-clause-record g c = c.in_ok-prepared.ensures.asked.text.is_record

pub serve_prepared-requires-clause-nodes : goal.serve_prepared-requires-clause-nodes
serve_prepared-requires-clause-nodes g c =
    ap (λ (s : Shape). s.nodes) c.in_ok-prepared.ensures.asked.laid_out.layout_is

pub returns-clause-ok : goal.returns-clause-ok
returns-clause-ok g c =
    c.serve_prepared.ensures.ok (bytes_of c.args.inputs.now) c.in_ok-prepared.ensures.asked

pub returns-clause-failure : goal.returns-clause-failure
returns-clause-failure g c =
    c.serve_prepared.ensures.failure (bytes_of c.args.inputs.now) c.in_ok-prepared.ensures.asked
