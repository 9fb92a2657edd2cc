use Rattle.command_line.specs.declared.table.ViewWord.TheVariants as word
use Rattle.command_line.specs.Reading.{given_by}
use Rattle.command_line.proofs.Optional.{one_or_two}
use Rattle.command_line.proofs.Viewing.{as_view}
use Rattle.command_line.proofs.view.cost_of.Goals as goal

pub returns-in_err-file : goal.returns-in_err-file
returns-in_err-file c =
    rw c.from_residual.ensures (λ v h.
    let r = as_view word.Cost (given_by c.args.matches.now) v h in
    c.in_err-file.ensures r.0.0.file r.0.1 (one_or_two r.0.0.file r.0.1 _ r.1.of_row.places))

pub returns-in-None : goal.returns-in-None
returns-in-None c = λ v h.
    let r = as_view word.Cost (given_by c.args.matches.now) v h in
    c.in-None.ensures.given r.0.0 (record { options = r.1.of_row.options; alone = r.1.fits.0 })
