use Rattle.std.proofs.Common.{sym, ◌∙◌}
use Rattle.rv32_lines.proofs.Orders.{both_told, acquire_told, release_told}
use Rattle.rv32_lines.proofs.mnemonics.split_order.Goals as goal

pub returns-in-Some-clause-only : goal.returns-in-Some-clause-only
returns-in-Some-clause-only c =
    λ front aq rl e. both_told c.in-Some.bare.now front aq rl (sym c.in-Some.ensures.some ∙ e)

pub returns-in-Some-before-clause-only : goal.returns-in-Some-before-clause-only
returns-in-Some-before-clause-only c =
    λ front aq rl e. acquire_told c.in-Some-before.bare.now front aq rl (sym c.in-Some-before.ensures.some ∙ e)

pub returns-in-Some-before-2-clause-only : goal.returns-in-Some-before-2-clause-only
returns-in-Some-before-2-clause-only c = λ front aq rl e.
    release_told c.args.name.now c.in-Some-before-2.bare.now front aq rl c.in_default.ensures.only
    c.in-Some-before-2.ensures.some e
