use Rattle.std.proofs.Common.{arith}
use Rattle.rv32_lines.proofs.LinesOf.{first_of}
use Rattle.rv32_lines.proofs.lines.split_line.Goals as goal

pub returns-in-len1-up-clause-lines : goal.returns-in-len1-up-clause-lines
returns-in-len1-up-clause-lines c =
    let s = c.split_at_feed.ensures in
    first_of c.args.text.now c.split_at_feed.result.0.now c.split_at_feed.result.1.now s.parts s.ends s.line
    (omega arith)
