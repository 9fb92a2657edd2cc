use Rattle.rv32_lines.proofs.KindOf.{found_told}
use Rattle.rv32_lines.proofs.mnemonics.mnemonic_of.Goals as goal

pub returns-in-Some-clause-only : goal.returns-in-Some-clause-only
returns-in-Some-clause-only c = λ m e. found_told c.args.name.now c.in-Some.mnemonic m c.in-Some.ensures.some e
