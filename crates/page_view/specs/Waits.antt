-- Where nodes wait: a bar on the node's line.
use Rattle.std.specs.Prelude.{ℕ, Bool, ◌&&◌, not, if◌then◌else◌, List, [], ◌++◌, Option, None, Some, is_some, codes}
use Rattle.std.specs.Fmt.{decimal}
use Rattle.std.specs.Option.{option_map_or}
use Rattle.std.specs.List.{flat_map}
use Rattle.page_events.specs.run_trace.Misses.{is_miss}
use Rattle.page_events.specs.run_trace.Traced.{Traced}
use Rattle.page_events.specs.declared.places.Spot.{Spot}
use Rattle.page_view.specs.declared.waits.DrawnWait.{DrawnWait}
use Rattle.page_events.specs.declared.sought.Sought.TheVariants.{GoesOn, Misses}
use Rattle.page_events.specs.Sought.{goes_on, row_of}
use Rattle.page_events.specs.Places.{line_of, down_from, down_to, own_row, spot_text}

-- from a miss to where the node goes on next
abbrev pub wait_from : List Traced → Traced → DrawnWait
wait_from events x = record {
  node = x.node;
  from = own_row events x;
  to = row_of events (GoesOn x.node x.stamp);
}

-- up to where a node goes on
abbrev pub wait_to : List Traced → Traced → DrawnWait
wait_to events x = record { node = x.node; from = None; to = own_row events x }

-- a node goes on, and its miss isn't on the page
abbrev pub ends_older : List Traced → Traced → Bool
ends_older events x = goes_on x.what && not (is_some (row_of events (Misses x.node x.stamp)))

abbrev pub wait_of : List Traced → Traced → Option DrawnWait
wait_of events x =
    if is_miss x.what then Some (wait_from events x)
    else if ends_older events x then Some (wait_to events x)
    else None

abbrev pub start_of : (nodes : ℕ) → DrawnWait → Spot
start_of nodes w = record { x = line_of nodes w.node; y = down_from w.from }

abbrev pub wait_text : (nodes : ℕ) → List Traced → DrawnWait → List ℕ
wait_text nodes events w =
    codes "<path class='wait' d='M"
    ++ (spot_text (start_of nodes w) ++ (codes "V"
    ++ (decimal (down_to events w.to) ++ codes "'/>\n")))

abbrev pub wait_text_of : (nodes : ℕ) → List Traced → Traced → List ℕ
wait_text_of nodes events x = option_map_or (wait_text nodes events) (wait_of events x) []

abbrev pub waits_text : (nodes : ℕ) → List Traced → List ℕ
waits_text nodes events = flat_map (wait_text_of nodes events) events
