use Rattle.rv32_decode.proofs.Apart.{one_row}
use Rattle.rv32_decode.proofs.decoding.rows_law.Goals as goal

pub returns : goal.returns
returns c = one_row
