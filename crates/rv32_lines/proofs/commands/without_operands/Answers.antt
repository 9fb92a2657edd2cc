use Rattle.std.proofs.Common.{refl, sym}
use Rattle.rv32_decode.specs.declared.IllegalWord.TheVariants.{Zeros}
use Rattle.rv32_decode.specs.declared.Instr.TheVariants.{Fence, Ecall, Ebreak, Illegal}
use Rattle.rv32_lines.specs.Texts.{Plain}
use Rattle.rv32_lines.proofs.commands.without_operands.Goals as goal

pub returns-in-Fence-clause-some : goal.returns-in-Fence-clause-some
returns-in-Fence-clause-some c = (
  Plain (Fence 0 0 0xff),
  record
      { written = (refl, refl, refl); none = λ h. h; mnemonic_is = sym c.in-Fence.is; read = cc (c.new.ensures) },
)

pub returns-in-Ecall-clause-some : goal.returns-in-Ecall-clause-some
returns-in-Ecall-clause-some c =
    (Plain Ecall, record { written = tt; none = λ h. h; mnemonic_is = sym c.in-Ecall.is; read = refl })

pub returns-in-Ebreak-clause-some : goal.returns-in-Ebreak-clause-some
returns-in-Ebreak-clause-some c =
    (Plain Ebreak, record { written = tt; none = λ h. h; mnemonic_is = sym c.in-Ebreak.is; read = refl })

pub returns-in-Illegal-clause-some : goal.returns-in-Illegal-clause-some
returns-in-Illegal-clause-some c =
    (Plain (Illegal Zeros), record { written = tt; none = λ h. h; mnemonic_is = sym c.in-Illegal.is; read = refl })
