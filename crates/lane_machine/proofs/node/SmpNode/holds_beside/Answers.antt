-- The lane that was found.
use Rattle.std.proofs.Common.{◌<◌, subst, sym, arith}
use Rattle.lane_machine.proofs.node.SmpNode.holds_beside.Goals as goal

pub returns-then-holds_other : goal.returns-then-holds_other
returns-then-holds_other c = λ yes w i is many.
    let k = c.loop-other.other in
    let found = c.if-holds_other.true in
    let test = c.loop-other-test.true in
    let low : k < c.args.lanes = omega (arith, test) in
    record {
      lane = k;
      low = subst (λ z. k < z) (sym many) low;
      other = c.holds_other.ensures.other found;
      holds = c.holds_other.ensures.holds found w i is;
    }
