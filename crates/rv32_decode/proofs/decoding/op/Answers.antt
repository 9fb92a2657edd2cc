use Rattle.std.proofs.Common.{sym, ap, ◌∙◌}
use Rattle.rv32_decode.specs.Fields.{field}
use Rattle.rv32_decode.specs.Rows.{op_table}
use Rattle.rv32_decode.specs.Tables.{entry_of_two}
use Rattle.rv32_decode.proofs.Reading.{op_some}
use Rattle.rv32_decode.proofs.decoding.op.Goals as goal

pub returns : goal.returns
returns c =
    let w = c.args.word in
    let codes =
    ap (λ code. entry_of_two op_table code (field w 12 3)) (sym c.funct7.ensures)
    ∙ ap (entry_of_two op_table c.funct7.result) (sym c.funct3.ensures)
    in
    let e = op_some w c.in_ok-op.op c.requires (codes ∙ sym c.in_ok-op.ensures) in
    cc
