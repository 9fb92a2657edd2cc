use Rattle.rv32_decode.proofs.Ranges.{in_range}
use Rattle.rv32_decode.proofs.decoding.ranges_law.Goals as goal

pub returns : goal.returns
returns c = in_range
