use Rattle.rv32_lines.proofs.Saying.{read_some, read_none}
use Rattle.rv32_lines.proofs.statements.statement_of.Goals as goal

pub returns-in-Some : goal.returns-in-Some
returns-in-Some c =
    read_some c.args.line.now c.bare.result.now c.in-Some.statement c.bare.ensures c.in-Some.ensures.some

pub returns-in-None : goal.returns-in-None
returns-in-None c = read_none c.args.line.now c.bare.result.now c.bare.ensures c.in-None.ensures.only
