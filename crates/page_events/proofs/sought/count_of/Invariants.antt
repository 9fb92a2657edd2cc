use Rattle.std.proofs.Common.{◌≡◌, ◌+◌, ◌≤◌, drop}
use Rattle.page_events.specs.Sought.{count_of}
use Rattle.page_events.proofs.sought.count_of.Given as goal

-- those that are to come, with those counted, are all
abbrev pub invariant-loop-event : goal.invariant-loop-event
invariant-loop-event l = record {
  count : l.count + count_of (drop l.event-index l.shown.events) l.sought ≡ count_of l.shown.events l.sought;
  few : l.count ≤ l.event-index;
}
