use Rattle.std.proofs.Common.{◌+◌, drop, refl, sym, ◌∙◌, arith}
use Rattle.event_text.specs.run_trace.Given.{traced_of}
use Rattle.page_events.proofs.Walks.{first_left, none_left}
use Rattle.page_events.proofs.Searches.{found_from, found_here, found_later, found_none}
use Rattle.page_events.proofs.sought.row_of.Goals as goal

pub loop-event-init : goal.loop-event-init
loop-event-init c = record { found = found_from c.args.shown.now.events c.args.sought; row = refl }

pub returns-then-is_sought : goal.returns-then-is_sought
returns-then-is_sought c =
    let events = c.args.shown.now.events in
    let i = c.loop-event.event-index in
    let x = c.event-item.result in
    let left = first_left events c.events-event-items.result.now i x c.events-event-items.ensures.events
    c.loop-event-test.true c.event-item.is in
    found_here events (drop (i + 1) events) i c.loop-event.row (traced_of x) c.args.sought left
    (sym c.is_sought.ensures ∙ c.if-is_sought.true) c.loop-event.invariant.found

pub loop-event-preserved : goal.loop-event-preserved
loop-event-preserved c =
    let events = c.args.shown.now.events in
    let i = c.loop-event.event-index in
    let x = c.event-item.result in
    let left = first_left events c.events-event-items.result.now i x c.events-event-items.ensures.events
    c.loop-event-test.true c.event-item.is in record {
      found = found_later events (drop (i + 1) events) i c.loop-event.row (traced_of x) c.args.sought left
          (sym c.is_sought.ensures ∙ c.if-is_sought.false) c.loop-event.invariant.found;
      row = omega (arith, c.loop-event.invariant.row);
    }

pub returns : goal.returns
returns c =
    let events = c.args.shown.now.events in
    let none = none_left events c.events-event-items.result.now c.loop-event.event-index
    c.events-event-items.ensures.events c.loop-event-test.false in
    found_none events c.loop-event.event-index c.loop-event.row c.args.sought none c.loop-event.invariant.found
