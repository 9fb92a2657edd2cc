use Rattle.event_text.specs.run_trace.Given.{traced_of}
use Rattle.page_events.proofs.Walks.{first_left, none_left}
use Rattle.page_events.proofs.Searches.{all_counted, counts_on, grows}
use Rattle.std.proofs.Common.{drop, ◌+◌}
use Rattle.page_events.proofs.sought.count_of.Goals as goal

pub loop-event-preserved : goal.loop-event-preserved
loop-event-preserved c =
    let events = c.args.shown.now.events in
    let i = c.loop-event.event-index in
    let x = c.event-item.result in
    let left = first_left events c.events-event-items.result.now i x c.events-event-items.ensures.events
    c.loop-event-test.true c.event-item.is in record {
      count = counts_on events (drop (i + 1) events) i c.loop-event.count c.counted-count.result
          (traced_of x) c.args.sought
          c.is_sought.result left c.is_sought.ensures c.counted-count.ensures c.loop-event.invariant.count;
      few = grows c.is_sought.result c.loop-event.count c.counted-count.result i c.counted-count.ensures
          c.loop-event.invariant.few;
    }

pub returns : goal.returns
returns c =
    let events = c.args.shown.now.events in
    let none = none_left events c.events-event-items.result.now c.loop-event.event-index
    c.events-event-items.ensures.events c.loop-event-test.false in
    all_counted events c.loop-event.event-index c.loop-event.count c.args.sought none c.loop-event.invariant.count
