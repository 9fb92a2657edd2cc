use Rattle.page_events.specs.run_trace.Given.{traced_of}
use Rattle.page_view.specs.Blocks.{rows_of}
use Rattle.page_events.proofs.Walks.{first_left, none_left, past, whole_is}
use Rattle.page_view.proofs.blocks.push_block_rows.Goals as goal

pub loop-event-preserved : goal.loop-event-preserved
loop-event-preserved c =
    let events = c.args.shown.now.events in
    let i = c.loop-event.event-index in
    let x = c.event-item.result in
    let left = first_left events c.events-event-items.result.now i x c.events-event-items.ensures.events
    c.loop-event-test.true c.event-item.is in
    past (rows_of c.args.layout.now events) events i (traced_of x)
    c.loop-event.out.items c.push_rows_of.new.out.items _ left
    c.in_ok-push_rows_of.ensures c.loop-event.invariant

pub returns : goal.returns
returns c =
    let events = c.args.shown.now.events in
    let none = none_left events c.events-event-items.result.now c.loop-event.event-index
    c.events-event-items.ensures.events c.loop-event-test.false in
    whole_is (rows_of c.args.layout.now events) events c.loop-event.event-index
    c.loop-event.out.items _ none c.loop-event.invariant
