use Rattle.std.proofs.Common.{◌≡◌, drop}
use Rattle.std.specs.List.{position_from}
use Rattle.page_events.specs.Sought.{is_sought, row_of}
use Rattle.page_events.proofs.sought.row_of.Given as goal

-- it isn't among the events so far
abbrev pub invariant-loop-event : goal.invariant-loop-event
invariant-loop-event l = record {
  found : position_from (is_sought l.sought) l.row (drop l.event-index l.shown.events) ≡ row_of l.shown.events l.sought;
  row : l.row ≡ l.event-index;
}
