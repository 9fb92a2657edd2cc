use Rattle.std.proofs.Common.{◌≡◌, ◌++◌, drop}
use Rattle.std.specs.List.{flat_map}
use Rattle.page_view.specs.Blocks.{rows_of}
use Rattle.page_view.proofs.blocks.push_block_rows.Given as goal

-- the texts that are to come, behind those that there are, make the whole
abbrev pub invariant-loop-event : goal.invariant-loop-event
invariant-loop-event l =
    l.out.items ++ flat_map (rows_of l.layout l.shown.events) (drop l.event-index l.shown.events)
    ≡ l.initial.out.items ++ flat_map (rows_of l.layout l.shown.events) l.shown.events
