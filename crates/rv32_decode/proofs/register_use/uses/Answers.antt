use Rattle.std.proofs.Common.{◌≡◌, [], ◌∷◌, arith}
use Rattle.rv32_decode.specs.Registers.{sources}
use Rattle.rv32_decode.proofs.Members.{Contains-two}
use Rattle.rv32_decode.proofs.register_use.uses.Goals as goal

pub returns-in-Branch : goal.returns-in-Branch
returns-in-Branch c =
    let named : sources c.args.i ≡ c.in-Branch.rs1 ∷ c.in-Branch.rs2 ∷ [] = grind arith in
    λ r l. rw named (Contains-two c.in-Branch.rs1 c.in-Branch.rs2 r (c.two.ensures r l))
