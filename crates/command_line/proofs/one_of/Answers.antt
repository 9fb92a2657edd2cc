use Rattle.std.proofs.Common.{refl}
use Rattle.command_line.specs.declared.table.CommandWord.TheVariants as word
use Rattle.command_line.specs.Reading.{given_by}
use Rattle.command_line.proofs.Rows.{as_command, one_file, placed_file}
use Rattle.command_line.proofs.one_of.Goals as goal

pub returns-in_err-file : goal.returns-in_err-file
returns-in_err-file c =
    rw c.from_residual.ensures (λ d h.
    let r = as_command word.One (given_by c.args.matches.now) d h in
    c.in_err-file.ensures r.0.file (one_file r.0.file _ r.1.of_row.places))

pub returns-in_err-nodes : goal.returns-in_err-nodes
returns-in_err-nodes c =
    rw c.from_residual-in_err-nodes.ensures (λ d h.
    let r = as_command word.One (given_by c.args.matches.now) d h in
    c.in_err-nodes.ensures r.0.nodes r.1.of_row.options.0)

pub returns-in_err-order : goal.returns-in_err-order
returns-in_err-order c =
    rw c.from_residual-in_err-order.ensures (λ d h.
    let r = as_command word.One (given_by c.args.matches.now) d h in
    c.in_err-order.ensures r.0.order r.1.of_row.options.1.0)

pub returns-in_err-budget : goal.returns-in_err-budget
returns-in_err-budget c =
    rw c.from_residual-in_err-budget.ensures (λ d h.
    let r = as_command word.One (given_by c.args.matches.now) d h in
    c.in_err-budget.ensures r.0.budget r.1.of_row.options.1.1.0)

pub returns-in_err-layout : goal.returns-in_err-layout
returns-in_err-layout c =
    rw c.from_residual-in_err-layout.ensures (λ d h.
    let r = as_command word.One (given_by c.args.matches.now) d h in
    c.in_err-layout.ensures r.0.layout r.1.of_row.options.1.1.1.0)

pub returns : goal.returns
returns c = record {
  word_is = refl;
  fits = tt;
  of_row = record {
    places = placed_file c.in_ok-file.file.now _ c.in_ok-file.ensures;
    options = (c.in_ok-nodes.ensures, (c.in_ok-order.ensures, (c.in_ok-budget.ensures, (c.in_ok-layout.ensures, tt))));
  };
}
