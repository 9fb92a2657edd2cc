use Rattle.std.proofs.Common.{◌∙◌, rules}
use Rattle.command_line.specs.Meaning.{file_name}
use Rattle.command_line.specs.Reading.{given_by}
use Rattle.command_line.proofs.Times.{view_alone}
use Rattle.command_line.proofs.view.code_arguments_in.Goals as goal

pub returns-in_err-verified-clause-given : goal.returns-in_err-verified-clause-given
returns-in_err-verified-clause-given c =
    rw c.from_residual.ensures (λ a h. c.in_err-verified.ensures a.verified h.options.0)

pub returns-in_err-no_batch-clause-given : goal.returns-in_err-no_batch-clause-given
returns-in_err-no_batch-clause-given c =
    rw c.from_residual-in_err-no_batch.ensures (λ a h.
    c.in_err-no_batch.ensures.there a.no_batch h.options.1.0)

pub returns-then-not-is_alone-clause-given : goal.returns-then-not-is_alone-clause-given
returns-then-not-is_alone-clause-given c = λ a h.
    let alone = view_alone (given_by c.args.matches.now) a.verified
    (file_name c.in_ok-verified.verified) a.no_batch c.in_ok-no_batch.no_batch h.options.0
    c.in_ok-verified.ensures h.options.1.0 c.in_ok-no_batch.ensures.there h.alone in
    let holds = c.is_alone.ensures ∙ alone in
    absurd (cc (holds, c.if-not-is_alone.true))

pub returns-clause-given : goal.returns-clause-given
returns-clause-given c = record {
  options = (c.in_ok-verified.ensures, (c.in_ok-no_batch.ensures.there, tt));
  alone = search rules;
}
