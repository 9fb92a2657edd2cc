use Rattle.std.proofs.Common.{subst}
use Rattle.command_line.specs.Commands.{Assemble, Generate, IsFit, Replay, Rewrite}
use Rattle.command_line.specs.Meaning.{assemble_of, generate_of, meaning_of, replay_of, rewrite_of}
use Rattle.dsm_io.specs.States.{SinkState, FilesState}
use Rattle.commands.specs.Failures.{AreKept, IsAssemblyFailure, IsPerformFailure, IsReplayFailure, IsRewriteFailure}
use Rattle.commands.specs.Headline.{IsText, IsTextWith}
use Rattle.prepared_run.specs.Replays.{IsOutcomeOfReplay}
use Rattle.text_output.specs.Failures.{IsWriteFailure, Puts}
use Rattle.judged_files.specs.Given.{bytes_of}
use Rattle.commands.proofs.AnswerLemmas.{err_as, ok_as, plain_failure, puts_nothing, rewrite_fails, rewrite_kept}
use Rattle.commands.proofs.AssemblyLemmas.{assembles, assembly_fails}
use Rattle.commands.proofs.GenerateLemmas.{generates, generate_fails}
use Rattle.commands.proofs.ReplayLemmas.{replay_fails}
use Rattle.commands.proofs.top.perform.Goals as goal

pub returns-in-Rewrite-clause-ok : goal.returns-in-Rewrite-clause-ok
returns-in-Rewrite-clause-ok g c =
    puts_nothing (meaning_of c.args.command.now) (g.F.Files.state c.rewrite_into.new.files)
    (bytes_of c.args.inputs.now) (g.O.Sink.state c.args.out.now)
    c.rewrite_into.result (λ status h. rw c.in-Rewrite.is h) c.rewrite_into.ensures.text

pub returns-in-Rewrite-clause-failure : goal.returns-in-Rewrite-clause-failure
returns-in-Rewrite-clause-failure g c =
    let files : FilesState = g.F.Files.state c.args.files.now in
    let files_now : FilesState = g.F.Files.state c.rewrite_into.new.files in
    let state : SinkState = g.O.Sink.state c.args.out.now in
    let inputs = bytes_of c.args.inputs.now in
    let a = rewrite_of c.in-Rewrite.arguments in
    rw c.in-Rewrite.is
    (err_as (IsRewriteFailure inputs.batches inputs.executable files files_now a.output)
    (IsPerformFailure (Rewrite a) inputs files files_now state state)
    c.rewrite_into.result (rewrite_fails a inputs files files_now state)
    c.rewrite_into.ensures.failure)

pub returns-in-Rewrite-clause-kept : goal.returns-in-Rewrite-clause-kept
returns-in-Rewrite-clause-kept g c =
    let files : FilesState = g.F.Files.state c.args.files.now in
    let files_now : FilesState = g.F.Files.state c.rewrite_into.new.files in
    let inputs = bytes_of c.args.inputs.now in
    let a = rewrite_of c.in-Rewrite.arguments in
    err_as (IsRewriteFailure inputs.batches inputs.executable files files_now a.output)
    (AreKept files files_now) c.rewrite_into.result
    (rewrite_kept inputs.batches a.output inputs.executable files files_now)
    c.rewrite_into.ensures.failure

pub returns-in-List-clause-failure : goal.returns-in-List-clause-failure
returns-in-List-clause-failure g c =
    let files : FilesState = g.F.Files.state c.args.files.now in
    let before : SinkState = g.O.Sink.state c.args.out.now in
    let now : SinkState = g.O.Sink.state c.list.new.out in
    plain_failure (meaning_of c.args.command.now) (bytes_of c.args.inputs.now) files files before now
    c.list.result (rw c.in-List.is c.list.ensures.failure)

pub returns-in-One-clause-failure : goal.returns-in-One-clause-failure
returns-in-One-clause-failure g c =
    let files : FilesState = g.F.Files.state c.args.files.now in
    let before : SinkState = g.O.Sink.state c.args.out.now in
    let now : SinkState = g.O.Sink.state c.one.new.out in
    plain_failure (meaning_of c.args.command.now) (bytes_of c.args.inputs.now) files files before now
    c.one.result (rw c.in-One.is c.one.ensures.failure)

pub returns-in-Sim-clause-failure : goal.returns-in-Sim-clause-failure
returns-in-Sim-clause-failure g c =
    let files : FilesState = g.F.Files.state c.args.files.now in
    let before : SinkState = g.O.Sink.state c.args.out.now in
    let now : SinkState = g.O.Sink.state c.sim.new.out in
    plain_failure (meaning_of c.args.command.now) (bytes_of c.args.inputs.now) files files before now
    c.sim.result (rw c.in-Sim.is c.sim.ensures.failure)

pub returns-in-Replay-clause-ok : goal.returns-in-Replay-clause-ok
returns-in-Replay-clause-ok g c =
    let files : FilesState = g.F.Files.state c.args.files.now in
    let before : SinkState = g.O.Sink.state c.args.out.now in
    let now : SinkState = g.O.Sink.state c.put_replay.new.out in
    let inputs = bytes_of c.args.inputs.now in
    let a = replay_of c.in-Replay.arguments in
    rw c.in-Replay.is
    (ok_as (λ status. Puts (IsTextWith (IsOutcomeOfReplay inputs) a.brief) status before now)
    (λ status. Puts (IsText (Replay a) files inputs) status before now) c.put_replay.result
    (λ status put. put) c.put_replay.ensures.ok)

pub returns-in-Replay-clause-failure : goal.returns-in-Replay-clause-failure
returns-in-Replay-clause-failure g c =
    let files : FilesState = g.F.Files.state c.args.files.now in
    let before : SinkState = g.O.Sink.state c.args.out.now in
    let now : SinkState = g.O.Sink.state c.put_replay.new.out in
    let inputs = bytes_of c.args.inputs.now in
    let a = replay_of c.in-Replay.arguments in
    rw c.in-Replay.is (err_as (IsReplayFailure inputs a.brief before now)
    (IsPerformFailure (Replay a) inputs files files before now) c.put_replay.result
    (replay_fails a inputs files files before now) c.put_replay.ensures.failure)

pub returns-in-Generate-clause-ok : goal.returns-in-Generate-clause-ok
returns-in-Generate-clause-ok g c =
    rw c.in-Generate.is (generates (generate_of c.in-Generate.arguments)
    (g.F.Files.state c.generate_into.new.files) (bytes_of c.args.inputs.now)
    (g.O.Sink.state c.args.out.now) c.generate_into.result c.generate_into.ensures.status)

pub returns-in-Generate-clause-failure : goal.returns-in-Generate-clause-failure
returns-in-Generate-clause-failure g c =
    let files : FilesState = g.F.Files.state c.args.files.now in
    let files_now : FilesState = g.F.Files.state c.generate_into.new.files in
    let state : SinkState = g.O.Sink.state c.args.out.now in
    let inputs = bytes_of c.args.inputs.now in
    let a = generate_of c.in-Generate.arguments in
    rw c.in-Generate.is (err_as (IsWriteFailure files files_now a.output)
    (IsPerformFailure (Generate a) inputs files files_now state state)
    c.generate_into.result (generate_fails a inputs files files_now state)
    c.generate_into.ensures.failure)

pub returns-in-Assemble-clause-ok : goal.returns-in-Assemble-clause-ok
returns-in-Assemble-clause-ok g c =
    let inputs = bytes_of c.args.inputs.now in
    rw c.in-Assemble.is (assembles (assemble_of c.in-Assemble.arguments)
    (g.F.Files.state c.assemble_into.new.files) inputs
    (g.O.Sink.state c.args.out.now) c.assemble_into.result c.assemble_into.ensures.text)

pub returns-in-Assemble-clause-failure : goal.returns-in-Assemble-clause-failure
returns-in-Assemble-clause-failure g c =
    let files : FilesState = g.F.Files.state c.args.files.now in
    let files_now : FilesState = g.F.Files.state c.assemble_into.new.files in
    let state : SinkState = g.O.Sink.state c.args.out.now in
    let inputs = bytes_of c.args.inputs.now in
    let a = assemble_of c.in-Assemble.arguments in
    rw c.in-Assemble.is (err_as (IsAssemblyFailure inputs.text files files_now a.output)
    (IsPerformFailure (Assemble a) inputs files files_now state state)
    c.assemble_into.result (assembly_fails a inputs files files_now state)
    c.assemble_into.ensures.failure)

pub returns-in-Run-clause-ok : goal.returns-in-Run-clause-ok
returns-in-Run-clause-ok g c = rw c.in-Run.is c.run.ensures.ok

pub returns-in-Run-clause-failure : goal.returns-in-Run-clause-failure
returns-in-Run-clause-failure g c = rw c.in-Run.is c.run.ensures.failure

pub returns-in-Run-clause-written : goal.returns-in-Run-clause-written
returns-in-Run-clause-written g c = rw c.in-Run.is c.run.ensures.written

pub returns-in-Run-clause-left : goal.returns-in-Run-clause-left
returns-in-Run-clause-left g c = rw c.in-Run.is c.run.ensures.left

pub returns-in-Run-clause-others : goal.returns-in-Run-clause-others
returns-in-Run-clause-others g c = rw c.in-Run.is c.run.ensures.others

pub sim-requires : goal.sim-requires
sim-requires g c = record { few = (subst (λ x. IsFit (meaning_of x)) c.in-Sim.is c.requires.fits).1 }
