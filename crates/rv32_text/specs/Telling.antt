-- Instructions whose text tells all of their parts.
use Rattle.rv32_decode.specs.declared.Instr.{Instr}
use Rattle.rv32_decode.specs.declared.Instr.TheVariants.{Fence, Illegal}

-- FENCE shows none of its fields, and the illegal words have one text
abbrev pub ShowsAll : Instr → Type 0
ShowsAll (Fence rd rs1 bits) = ⊥
ShowsAll (Illegal word) = ⊥
ShowsAll i = Unit {0}
