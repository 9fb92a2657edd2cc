use Rattle.std.proofs.Common.{refl}
use Rattle.command_line.specs.declared.table.CommandWord.TheVariants as word
use Rattle.command_line.specs.Reading.{given_by}
use Rattle.command_line.proofs.Rows.{as_command, one_file, placed_file}
use Rattle.command_line.proofs.list_of.Goals as goal

pub returns-in_err-file : goal.returns-in_err-file
returns-in_err-file c =
    rw c.from_residual.ensures (λ d h.
    let r = as_command word.List (given_by c.args.matches.now) d h in
    c.in_err-file.ensures r.0.file (one_file r.0.file _ r.1.of_row.places))

pub returns : goal.returns
returns c = record {
  word_is = refl;
  fits = tt;
  of_row = record { places = placed_file c.in_ok-file.file.now _ c.in_ok-file.ensures; options = tt };
}
