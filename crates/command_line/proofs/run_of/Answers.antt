use Rattle.std.proofs.Common.{◌∙◌}
use Rattle.command_line.specs.declared.table.CommandWord.TheVariants as word
use Rattle.command_line.specs.Meaning.{file_name}
use Rattle.command_line.specs.Reading.{given_by}
use Rattle.command_line.proofs.Rows.{as_command, one_file, run_alone}
use Rattle.command_line.proofs.run_of.Goals as goal

pub returns-in_err-file : goal.returns-in_err-file
returns-in_err-file c =
    rw c.from_residual.ensures (λ d h.
    let r = as_command word.Run (given_by c.args.matches.now) d h in
    c.in_err-file.ensures r.0.execution.file (one_file r.0.execution.file _ r.1.of_row.places))

pub returns-in_err-nodes : goal.returns-in_err-nodes
returns-in_err-nodes c =
    rw c.from_residual-in_err-nodes.ensures (λ d h.
    let r = as_command word.Run (given_by c.args.matches.now) d h in
    c.in_err-nodes.ensures r.0.execution.nodes r.1.of_row.options.1.0)

pub returns-in_err-budget : goal.returns-in_err-budget
returns-in_err-budget c =
    rw c.from_residual-in_err-budget.ensures (λ d h.
    let r = as_command word.Run (given_by c.args.matches.now) d h in
    c.in_err-budget.ensures r.0.execution.budget r.1.of_row.options.1.1.0)

pub returns-in_err-code : goal.returns-in_err-code
returns-in_err-code c =
    rw c.from_residual-in_err-code.ensures (λ d h.
    let r = as_command word.Run (given_by c.args.matches.now) d h in
    c.in_err-code.ensures r.0.execution.code r.1.of_row.options.1.1.1.0)

pub returns-in_err-verified : goal.returns-in_err-verified
returns-in_err-verified c =
    rw c.from_residual-in_err-verified.ensures (λ d h.
    let r = as_command word.Run (given_by c.args.matches.now) d h in
    c.in_err-verified.ensures r.0.execution.verified r.1.of_row.options.1.1.1.1.0)

pub returns-in_err-layout : goal.returns-in_err-layout
returns-in_err-layout c =
    rw c.from_residual-in_err-layout.ensures (λ d h.
    let r = as_command word.Run (given_by c.args.matches.now) d h in
    c.in_err-layout.ensures r.0.execution.layout r.1.of_row.options.1.1.1.1.1.0)

pub returns-in_err-brief : goal.returns-in_err-brief
returns-in_err-brief c =
    rw c.from_residual-in_err-brief.ensures (λ d h.
    let r = as_command word.Run (given_by c.args.matches.now) d h in
    c.in_err-brief.ensures.there r.0.execution.brief r.1.of_row.options.1.1.1.1.1.1.0)

pub returns-in_err-no_batch : goal.returns-in_err-no_batch
returns-in_err-no_batch c =
    rw c.from_residual-in_err-no_batch.ensures (λ d h.
    let r = as_command word.Run (given_by c.args.matches.now) d h in
    c.in_err-no_batch.ensures.there r.0.execution.no_batch r.1.of_row.options.1.1.1.1.1.1.1.0)

pub returns-in_err-record_file : goal.returns-in_err-record_file
returns-in_err-record_file c =
    rw c.from_residual-in_err-record_file.ensures (λ d h.
    let r = as_command word.Run (given_by c.args.matches.now) d h in
    c.in_err-record_file.ensures r.0.record_file r.1.of_row.options.0)

pub returns-then-not-is_alone : goal.returns-then-not-is_alone
returns-then-not-is_alone c = λ d h.
    let alone = run_alone (given_by c.args.matches.now) d (file_name c.in_ok-verified.verified)
    (file_name c.in_ok-code.code) c.in_ok-no_batch.no_batch c.in_ok-code.ensures
    c.in_ok-verified.ensures c.in_ok-no_batch.ensures.there h in
    let holds = c.is_alone.ensures ∙ alone in
    absurd (cc (holds, c.if-not-is_alone.true))
