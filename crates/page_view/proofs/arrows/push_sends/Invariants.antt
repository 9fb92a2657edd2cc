use Rattle.std.proofs.Common.{◌≡◌, ◌++◌, drop}
use Rattle.std.specs.List.{flat_map}
use Rattle.page_events.specs.run_trace.Given.{traced_of}
use Rattle.page_view.specs.Arrows.{under_way_text}
use Rattle.page_view.proofs.arrows.push_sends.Given as goal

-- the texts that are to come, behind those that there are, make the whole
abbrev pub invariant-loop-sent : goal.invariant-loop-sent
invariant-loop-sent l =
    l.out.items ++ flat_map (under_way_text l.layout.nodes l.shown.events (traced_of l.event))
    (drop l.sent-index l.sends)
    ≡ l.initial.out.items ++ flat_map (under_way_text l.layout.nodes l.shown.events (traced_of l.event)) l.sends
