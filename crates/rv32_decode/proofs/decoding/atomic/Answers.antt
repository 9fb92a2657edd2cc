use Rattle.std.proofs.Common.{◌≢◌, sym, ap, ◌∙◌, arith}
use Rattle.rv32_decode.specs.Fields.{field}
use Rattle.rv32_decode.specs.Rows.{amo_table}
use Rattle.rv32_decode.specs.Tables.{entry}
use Rattle.rv32_decode.proofs.Reading.{amo_some}
use Rattle.rv32_decode.proofs.decoding.atomic.Goals as goal

pub returns-in_ok-op-in_default : goal.returns-in_ok-op-in_default
returns-in_ok-op-in_default c =
    let found = ap (entry amo_table) (sym c.funct5.ensures) ∙ sym c.in_ok-op-in_default.ensures in
    let not_lr : field c.args.word 27 5 ≢ 2 = omega arith in
    let not_sc : field c.args.word 27 5 ≢ 3 = omega arith in
    let e = amo_some c.args.word c.in_ok-op-in_default.op c.requires.opcode c.requires.width not_lr not_sc found in
    cc
