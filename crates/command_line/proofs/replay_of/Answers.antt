use Rattle.command_line.specs.declared.table.CommandWord.TheVariants as word
use Rattle.command_line.specs.Reading.{given_by}
use Rattle.command_line.proofs.Rows.{as_command}
use Rattle.command_line.proofs.replay_of.Goals as goal

pub returns-in_err-verified : goal.returns-in_err-verified
returns-in_err-verified c =
    rw c.from_residual-in_err-verified.ensures (λ d h.
    let r = as_command word.Replay (given_by c.args.matches.now) d h in
    c.in_err-verified.ensures r.0.verified r.1.of_row.options.0)

pub returns-in_err-brief : goal.returns-in_err-brief
returns-in_err-brief c =
    rw c.from_residual-in_err-brief.ensures (λ d h.
    let r = as_command word.Replay (given_by c.args.matches.now) d h in
    c.in_err-brief.ensures.there r.0.brief r.1.of_row.options.1.0)
