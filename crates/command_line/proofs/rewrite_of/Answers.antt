use Rattle.command_line.specs.declared.table.CommandWord.TheVariants as word
use Rattle.command_line.specs.Reading.{given_by}
use Rattle.command_line.proofs.Rows.{as_command}
use Rattle.command_line.proofs.rewrite_of.Goals as goal

pub returns-in_err-no_batch : goal.returns-in_err-no_batch
returns-in_err-no_batch c =
    rw c.from_residual-in_err-no_batch.ensures (λ d h.
    let r = as_command word.Rewrite (given_by c.args.matches.now) d h in
    c.in_err-no_batch.ensures.there r.0.no_batch r.1.of_row.options.0)
