use Rattle.std.proofs.Common.{arith, refl}
use Rattle.byte_range.proofs.PieceLemmas.{offset_in_first}
use Rattle.byte_range.proofs.lines.LineMemory.offset.Goals as goal

pub returns-then-offset-self : goal.returns-then-offset-self
returns-then-offset-self c =
    let i = c.self.invariant in
    rw (← c.self.view_is) (offset_in_first c.self.inside.pieces.items c.self.inside.base c.self.inside.len c.args.address _ i.ascend i.first i.first_len (omega arith) refl c.if-offset-self.true)
