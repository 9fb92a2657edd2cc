use Rattle.byte_range.proofs.ZeroLemmas.{memory_of-zeros}
use Rattle.byte_range.proofs.window.Window.zeros.Goals as goal

pub returns : goal.returns
returns c = record { zeros = memory_of-zeros c.in_ok-zeros.field-0 0x7fff0000 0x10000 c.in_ok-zeros.ensures }
