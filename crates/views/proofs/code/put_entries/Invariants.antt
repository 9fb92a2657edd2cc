use Rattle.views.proofs.Entries.{IsUnderWay}
use Rattle.views.proofs.code.put_entries.Given as goal

abbrev pub invariant-loop-entry : goal.invariant-loop-entry
invariant-loop-entry g l = IsUnderWay l.view (g.O.Sink.state l.fn.out) (g.O.Sink.state l.out) l.lines.items
    l.entry-index l.number
