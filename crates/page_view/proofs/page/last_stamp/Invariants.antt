use Rattle.std.proofs.Common.{◌≡◌, drop, None}
use Rattle.page_view.specs.Page.{last_stamp}
use Rattle.page_view.proofs.page.last_stamp.Given as goal

-- the last of those that are to come is the last
abbrev pub invariant-loop-event : goal.invariant-loop-event
invariant-loop-event l =
    last_stamp l.last (drop l.event-index l.shown.events) ≡ last_stamp None l.shown.events
