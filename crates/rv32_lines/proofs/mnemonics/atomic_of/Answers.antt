use Rattle.std.proofs.Common.{◌≡◌, None, Some, ◌∙◌}
use Rattle.rv32_lines.proofs.KindOf.{found_told}
use Rattle.rv32_lines.proofs.Orders.{no_atomic}
use Rattle.rv32_lines.proofs.mnemonics.atomic_of.Goals as goal

pub returns-in-Some-clause-only : goal.returns-in-Some-clause-only
returns-in-Some-clause-only c =
    λ m h e. found_told c.args.name.now c.in-Some.mnemonic m (c.split_order-aq.ensures.parts ∙ c.in-Some.ensures.some) e

pub returns-in_err-op-clause-only : goal.returns-in_err-op-clause-only
returns-in_err-op-clause-only c = λ m h e.
    absurd (no_atomic c.args.name.now c.split_order-aq.result.0.now c.split_order-aq.result.1 c.split_order-aq.result.2
    c.split_order-aq.ensures.only
    (λ is. let t = c.in_default.ensures.lr is in absurd (cc t))
    (λ is. let t = c.in_default.ensures.sc is in absurd (cc t))
    (λ o is. let t : None ≡ Some o = c.in_err-op.ensures.only o is in absurd (cc)) m h e)
