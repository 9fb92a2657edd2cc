use Rattle.std.proofs.Common.{◌≡◌, None, Some, sym, subst}
use Rattle.block_layout.specs.declared.layout.BlockRange.{BlockRange}
use Rattle.block_layout.specs.declared.refused.LayoutRule.TheVariants.{Syntax}
use Rattle.block_layout.specs.Text.{HasFields}
use Rattle.block_layout.specs.Reading.{IsFault}
use Rattle.block_layout.proofs.TextLines.{fault_syntax, fault_range}
use Rattle.block_layout.proofs.read.with_line.Goals as goal

pub returns-in_default-clause-fault : goal.returns-in_default-clause-fault
returns-in_default-clause-fault c = λ rule n e.
    let number : n ≡ c.args.number = cc in
    let same : Syntax ≡ rule = cc in
    let none : (r : BlockRange) → HasFields c.args.line.now r → ⊥ = λ r h. let t : None ≡ Some r = c.in_default.ensures.only r h in absurd (cc) in
    (number, subst (IsFault c.args.shared.now c.args.nodes c.args.named c.args.line.now) same (fault_syntax c.args.shared.now c.args.nodes c.args.named c.args.line.now (sym c.if-says_nothing.ensures) none))

pub returns-clause-fault : goal.returns-clause-fault
returns-clause-fault c = λ rule n e.
    let broken = c.with_range.ensures.broken rule n e in
    (broken.0, fault_range c.args.shared.now c.args.nodes c.args.named c.args.line.now c.in-Some.range rule c.in-Some.ensures.some c.in-Some.ensures.only broken.1)
