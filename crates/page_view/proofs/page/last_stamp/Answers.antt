use Rattle.std.proofs.Common.{sym, ap, ◌∙◌}
use Rattle.page_view.specs.Page.{last_stamp}
use Rattle.page_events.proofs.Walks.{first_left, none_left}
use Rattle.page_view.proofs.page.last_stamp.Goals as goal

pub loop-event-preserved : goal.loop-event-preserved
loop-event-preserved c =
    let events = c.args.shown.now.events in
    let left = first_left events c.events-event-items.result.now c.loop-event.event-index c.event-item.result
    c.events-event-items.ensures.events c.loop-event-test.true c.event-item.is in
    sym (ap (last_stamp c.loop-event.last) left) ∙ c.loop-event.invariant

pub returns : goal.returns
returns c =
    let events = c.args.shown.now.events in
    let none = none_left events c.events-event-items.result.now c.loop-event.event-index
    c.events-event-items.ensures.events c.loop-event-test.false in
    sym (ap (last_stamp c.loop-event.last) none) ∙ c.loop-event.invariant
