use Rattle.std.proofs.lemmas.Result.{err_from_is_err_and}
use Rattle.command_line.specs.Meaning.{file_name}
use Rattle.dsm_core.specs.CoreParts.{core_of, outcome_of, work_of}
use Rattle.dsm_io.specs.States.{FilesState}
use Rattle.prepared_run.specs.Ready.{work_for}
use Rattle.commands.specs.Headline.{held_by}
use Rattle.commands.proofs.Recorded.{is_made, own_outcome, own_recorded, wants_memory}
use Rattle.commands.proofs.run.execute.Goals as goal

pub returns-clause-outcome : goal.returns-clause-outcome
returns-clause-outcome g c =
    let core = c.in_ok-core.core in
    let ran = c.in_ok-outcome.ensures.outcome in
    own_recorded c.args.prepared.now.batches (work_of core) (work_for c.args.prepared.now) (core_of core) ran.0
    (outcome_of c.in_ok-outcome.outcome)
    (held_by (g.F.Files.state c.write_record_of.new.files) (file_name c.args.record_file))
    c.in_ok-core.ensures.work ran.1 c.in_ok-core.ensures.over ran.2
    c.in_ok-write_record_of.ensures.holds

pub returns-in_err-core-clause-failure : goal.returns-in_err-core-clause-failure
returns-in_err-core-clause-failure g c =
    let files : FilesState = g.F.Files.state c.args.files.now in
    let e = err_from_is_err_and c.from_residual.result c.from_residual.ensures.1 in
    rw (e.1, e.2) (wants_memory (file_name c.args.record_file) files)

pub returns-in_err-outcome-clause-failure : goal.returns-in_err-outcome-clause-failure
returns-in_err-outcome-clause-failure g c =
    let files : FilesState = g.F.Files.state c.args.files.now in
    let e = err_from_is_err_and c.from_residual-in_err-outcome.result
    c.from_residual-in_err-outcome.ensures.1 in
    rw (e.1, e.2) (wants_memory (file_name c.args.record_file) files)

pub returns-in_err-write_record_of-clause-failure : goal.returns-in_err-write_record_of-clause-failure
returns-in_err-write_record_of-clause-failure g c =
    let e = err_from_is_err_and c.from_residual-in_err-write_record_of.result
    c.from_residual-in_err-write_record_of.ensures.1 in
    rw (e.1, e.2) c.in_err-write_record_of.ensures.failure

pub returns-in_err-core-clause-made : goal.returns-in_err-core-clause-made
returns-in_err-core-clause-made g c =
    let e = err_from_is_err_and c.from_residual.result c.from_residual.ensures.1 in
    rw (e.1, e.2) tt

pub returns-in_err-outcome-clause-made : goal.returns-in_err-outcome-clause-made
returns-in_err-outcome-clause-made g c =
    let e = err_from_is_err_and c.from_residual-in_err-outcome.result
    c.from_residual-in_err-outcome.ensures.1 in
    rw (e.1, e.2) tt

pub returns-in_err-write_record_of-clause-made : goal.returns-in_err-write_record_of-clause-made
returns-in_err-write_record_of-clause-made g c =
    let core = c.in_ok-core.core in
    let work = work_for c.args.prepared.now in
    let ran = c.in_ok-outcome.ensures.outcome in
    let o = outcome_of c.in_ok-outcome.outcome in
    let is = own_outcome (work_of core) work (core_of core) ran.0 o c.in_ok-core.ensures.work ran.1
    c.in_ok-core.ensures.over ran.2 in
    let e = err_from_is_err_and c.from_residual-in_err-write_record_of.result
    c.from_residual-in_err-write_record_of.ensures.1 in
    rw (e.1, e.2) (is_made work o c.in_err-write_record_of.field-0.0 is)
