use Rattle.std.proofs.Common.{◌≡◌, subst}
use Rattle.block_layout.specs.Reading.{IsBroken}
use Rattle.block_layout.proofs.TextLines.{added_one}
use Rattle.block_layout.proofs.read.with_range.Goals as goal

pub returns-in-Some-clause-broken : goal.returns-in-Some-clause-broken
returns-in-Some-clause-broken c = λ rule n e.
    let number : n ≡ c.args.number = cc in
    let same : c.in-Some.rule ≡ rule = cc in
    (number, subst (IsBroken c.args.shared.now c.args.nodes c.args.named c.args.range) same c.in-Some.ensures)

pub returns-clause-ok : goal.returns-clause-ok
returns-clause-ok c =
    added_one c.args.shared.now c.args.nodes c.args.named _ c.args.range c.in_ok-with.ensures
    c.in_default.ensures c.requires
