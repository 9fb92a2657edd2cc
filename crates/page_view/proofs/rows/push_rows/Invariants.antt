use Rattle.std.proofs.Common.{◌≡◌, ◌++◌, drop}
use Rattle.std.specs.List.{flat_map}
use Rattle.page_view.specs.Rows.{row_of}
use Rattle.page_view.proofs.rows.push_rows.Given as goal

-- the texts that are to come, behind those that there are, make the whole
abbrev pub invariant-loop-event : goal.invariant-loop-event
invariant-loop-event l =
    l.out.items ++ flat_map (row_of l.program l.layout.nodes l.shown.events) (drop l.event-index l.shown.events)
    ≡ l.initial.out.items ++ flat_map (row_of l.program l.layout.nodes l.shown.events) l.shown.events
