use Rattle.std.proofs.Common.{arith}
use Rattle.rv32_lines.specs.Statements.{Nothing}
use Rattle.rv32_lines.proofs.Saying.{empty_says, empty_only, hash_says, hash_only, directive_told, other_only}
use Rattle.rv32_lines.proofs.statements.said.Goals as goal

pub returns-in_default-clause-some : goal.returns-in_default-clause-some
returns-in_default-clause-some c = (Nothing, empty_says c.args.line.now (omega arith), tt)

pub returns-in_default-clause-only : goal.returns-in_default-clause-only
returns-in_default-clause-only c = λ s h. empty_only c.args.line.now s (omega arith) h

pub returns-then-first-eq35-clause-some : goal.returns-then-first-eq35-clause-some
returns-then-first-eq35-clause-some c = (Nothing, hash_says c.args.line.now (omega (arith, c.if-first-eq35.true)), tt)

pub returns-then-first-eq35-clause-only : goal.returns-then-first-eq35-clause-only
returns-then-first-eq35-clause-only c = λ s h. hash_only c.args.line.now s (omega (arith, c.if-first-eq35.true)) h

pub returns-then-first-eq46-clause-only : goal.returns-then-first-eq46-clause-only
returns-then-first-eq46-clause-only c =
    λ s h. c.directive.ensures.only s (directive_told c.args.line.now s (omega (arith, c.if-first-eq46.true)) h) h

pub returns-clause-only : goal.returns-clause-only
returns-clause-only c =
    other_only c.args.line.now c.label_or_command.result (omega arith) (λ e. absurd (c.if-first-eq35.false e))
    (λ e. absurd (c.if-first-eq46.false e))
    c.label_or_command.ensures.label c.label_or_command.ensures.command
