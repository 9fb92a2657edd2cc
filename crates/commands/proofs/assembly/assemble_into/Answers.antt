use Rattle.std.proofs.lemmas.Result.{err_from_is_err_and}
use Rattle.dsm_io.specs.States.{FilesState}
use Rattle.commands.proofs.AssemblyLemmas.{assembly_unwritten}
use Rattle.commands.proofs.assembly.assemble_into.Goals as goal

pub returns-in_err-write_file-clause-failure : goal.returns-in_err-write_file-clause-failure
returns-in_err-write_file-clause-failure g c =
    let files : FilesState = g.F.Files.state c.args.files.now in
    let files_now : FilesState = g.F.Files.state c.write_file.new.files in
    let e = err_from_is_err_and c.from_residual-in_err-write_file.result
    c.from_residual-in_err-write_file.ensures.1 in
    rw (e.1, e.2) (assembly_unwritten c.args.text.now c.in_ok-bytes.bytes.items files
    files_now c.args.output.now c.in_err-write_file.field-0.0 c.in_ok-bytes.ensures.ok
    c.in_err-write_file.ensures.failure)
