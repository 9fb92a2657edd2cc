use Rattle.std.proofs.Common.{subst}
use Rattle.rv32_lines.specs.Reading.{IsReadStatement}
use Rattle.rv32_asm.proofs.Standing.{bytes_append}
use Rattle.rv32_asm.proofs.places.appends.Goals as goal

pub returns-in-Bytes-clause-value : goal.returns-in-Bytes-clause-value
returns-in-Bytes-clause-value c =
    λ s h. bytes_append c.in-Bytes.digits s (subst (λ x. IsReadStatement x s) c.in-Bytes.is h)
