use Rattle.std.proofs.Common.{◌∙◌, arith, refl, rules}
use Rattle.command_line.specs.Meaning.{file_name}
use Rattle.command_line.specs.Reading.{given_by}
use Rattle.command_line.proofs.Times.{view_alone}
use Rattle.command_line.proofs.view.time_arguments_in.Goals as goal

pub cost_in-requires : goal.cost_in-requires
cost_in-requires c = record { kind = (1200, omega arith, refl) }

pub cost_in-requires-2 : goal.cost_in-requires-2
cost_in-requires-2 c = record { kind = (300, omega arith, refl) }

pub cost_in-requires-3 : goal.cost_in-requires-3
cost_in-requires-3 c = record { kind = (300, omega arith, refl) }

pub returns-in_err-budget-clause-given : goal.returns-in_err-budget-clause-given
returns-in_err-budget-clause-given c =
    rw c.from_residual.ensures (λ a h. c.in_err-budget.ensures a.budget h.options.0)

pub returns-in_err-verified-clause-given : goal.returns-in_err-verified-clause-given
returns-in_err-verified-clause-given c =
    rw c.from_residual-in_err-verified.ensures (λ a h.
    c.in_err-verified.ensures a.verified h.options.1.0)

pub returns-in_err-layout-clause-given : goal.returns-in_err-layout-clause-given
returns-in_err-layout-clause-given c =
    rw c.from_residual-in_err-layout.ensures (λ a h.
    c.in_err-layout.ensures a.layout h.options.1.1.0)

pub returns-in_err-no_batch-clause-given : goal.returns-in_err-no_batch-clause-given
returns-in_err-no_batch-clause-given c =
    rw c.from_residual-in_err-no_batch.ensures (λ a h.
    c.in_err-no_batch.ensures.there a.no_batch h.options.1.1.1.0)

pub returns-in_err-latency-clause-given : goal.returns-in_err-latency-clause-given
returns-in_err-latency-clause-given c =
    rw c.from_residual-in_err-latency.ensures (λ a h.
    c.in_err-latency.ensures a.latency h.options.1.1.1.1.0)

pub returns-in_err-line-clause-given : goal.returns-in_err-line-clause-given
returns-in_err-line-clause-given c =
    rw c.from_residual-in_err-line.ensures (λ a h.
    c.in_err-line.ensures a.line h.options.1.1.1.1.1.0)

pub returns-in_err-handling-clause-given : goal.returns-in_err-handling-clause-given
returns-in_err-handling-clause-given c =
    rw c.from_residual-in_err-handling.ensures (λ a h.
    c.in_err-handling.ensures a.handling h.options.1.1.1.1.1.1.0)

pub returns-then-not-is_alone-clause-given : goal.returns-then-not-is_alone-clause-given
returns-then-not-is_alone-clause-given c = λ a h.
    let alone = view_alone (given_by c.args.matches.now) a.verified
    (file_name c.in_ok-verified.verified) a.no_batch c.in_ok-no_batch.no_batch h.options.1.0
    c.in_ok-verified.ensures h.options.1.1.1.0 c.in_ok-no_batch.ensures.there h.alone in
    let holds = c.is_alone.ensures ∙ alone in
    absurd (cc (holds, c.if-not-is_alone.true))

pub returns-clause-given : goal.returns-clause-given
returns-clause-given c = record {
  alone = search rules;
  options = (
    c.in_ok-budget.ensures,
    (
      c.in_ok-verified.ensures,
      (
        c.in_ok-layout.ensures,
        (
          c.in_ok-no_batch.ensures.there,
          (c.in_ok-latency.ensures, (c.in_ok-line.ensures, (c.in_ok-handling.ensures, tt))),
        ),
      ),
    ),
  );
}
