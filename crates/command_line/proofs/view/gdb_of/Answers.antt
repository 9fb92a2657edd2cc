use Rattle.std.proofs.Common.{refl}
use Rattle.command_line.specs.declared.table.ViewWord.TheVariants as word
use Rattle.command_line.specs.Reading.{given_by}
use Rattle.command_line.proofs.Rows.{placed_read, two_read}
use Rattle.command_line.proofs.Viewing.{as_view}
use Rattle.command_line.proofs.view.gdb_of.Goals as goal

pub returns-in_err-file : goal.returns-in_err-file
returns-in_err-file c =
    rw c.from_residual.ensures (λ v h.
    let r = as_view word.Gdb (given_by c.args.matches.now) v h in
    c.in_err-file.ensures r.0.0.file r.0.0.record_file (two_read r.0.0.file r.0.0.record_file _ r.1.of_row.places))

pub returns-in_err-verified : goal.returns-in_err-verified
returns-in_err-verified c =
    rw c.from_residual-in_err-verified.ensures (λ v h.
    let r = as_view word.Gdb (given_by c.args.matches.now) v h in
    c.in_err-verified.ensures r.0.0.verified r.1.of_row.options.0)

pub returns-in_err-memory : goal.returns-in_err-memory
returns-in_err-memory c =
    rw c.from_residual-in_err-memory.ensures (λ v h.
    let r = as_view word.Gdb (given_by c.args.matches.now) v h in
    c.in_err-memory.ensures r.0.1 r.1.of_row.options.1.0)

pub returns : goal.returns
returns c = record {
  word_is = refl;
  fits = tt;
  of_row = record {
    places = placed_read c.in_ok-file.file.now c.in_ok-file.record_file.now _ c.in_ok-file.ensures;
    options = (c.in_ok-verified.ensures, (c.in_ok-memory.ensures, tt));
  };
}
