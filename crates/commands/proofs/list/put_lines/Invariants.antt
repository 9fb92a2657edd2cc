use Rattle.commands.proofs.ListingLemmas.{IsUnderWay, left_from}
use Rattle.commands.proofs.list.put_lines.Given as goal

abbrev pub invariant-loop-next : goal.invariant-loop-next
invariant-loop-next g l = IsUnderWay l.program
    (g.O.Sink.state l.fn.out) (g.O.Sink.state l.out) l.lines.items l.next

abbrev pub decreases-loop-next : goal.decreases-loop-next
decreases-loop-next g l = left_from l.next
