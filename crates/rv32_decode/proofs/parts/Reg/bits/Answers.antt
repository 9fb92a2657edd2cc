use Rattle.std.proofs.Common.{◌*◌, ◌^◌, ◌<◌, ◌∙◌, ap, arith}
use Rattle.std.proofs.lemmas.Nat.{shl_whole}
use Rattle.rv32_decode.proofs.parts.Reg.bits.Goals as goal

pub returns-clause-value : goal.returns-clause-value
returns-clause-value c =
    let small : c.from.result < 2 ^ 5 = omega (arith, c.self.invariant, c.from.ensures) in
    let whole = shl_whole c.from.result 5 c.args.low 32 small (omega arith) in
    whole ∙ ap (λ x. x * 2 ^ c.args.low) (c.from.ensures ∙ c.self.view_is)
