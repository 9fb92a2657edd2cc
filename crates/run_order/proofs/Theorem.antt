-- Cores stand for their own runs.
use Rattle.std.proofs.Common.{◌≡◌, ℕ, List, [], ◌∷◌, ◌++◌, map, sym, refl, ap, ◌∙◌, subst}
use Rattle.node_model.specs.Node.{Work, Node, opening_node}
use Rattle.node_model.specs.Core.{Core, Event, opening_core, event_step, IsCoreRun, after, printed_by}
use Rattle.run_order.specs.Sorted.{AreMadeBelow, AreSorted}
use Rattle.run_order.specs.OwnRun.{Stamped, AreEventsOf, StandsForOwnRun, OnlyAdds, events_of, stamp_in, maker, run_of}
use Rattle.run_order.specs.Merge.{Printed, AreMerged, printed_of, stamp_of, printer, byte_in}
use Rattle.run_order.proofs.History.{LocalEvent, stamped, prints, of, Run}
use Rattle.run_order.proofs.Merging.{run_fits}
use Rattle.run_order.proofs.Ordered.{order, of_order, sorted_order, run_climbs, reordered}
use Rattle.run_order.proofs.Unique.{one_sorted}
use Rattle.run_order.proofs.Kept.{kept}
use Rattle.run_order.proofs.Moving.{Moves, grows, run_did, run_made}
use Rattle.run_order.proofs.Told.{TellsMore, node_tells, opening_tells}
use Rattle.run_order.proofs.Lists.{events_by, stamped_sorted, run_below, same_events, bytes_by, bytes_below, bytes_sorted}

-- the nodes of a run from the start tell of its events
pub run_tells : (work : Work) (ds : List LocalEvent) (c : Core)
    → Run (Moves work) (opening_core work) ds c
    → (i : ℕ) → TellsMore i (kept (opening_node work i)) (kept (c.nodes i)) (map stamped (of i ds))
    (prints (of i ds))
run_tells work ds c r i = node_tells work i ds (opening_node work i) (c.nodes i)
    ((run_fits (Moves work) ds (opening_core work) c r).0 i) (opening_tells work i)

sorted_history : (work : Work) (ds : List LocalEvent) (c : Core) → Run (Moves work) (opening_core work) ds c
    → AreEventsOf work.layout.nodes c.nodes (map stamped (order ds))
sorted_history work ds c r =
    let up = run_climbs (Moves work) (grows work) (opening_core work) c ds r in record {
      sorted = stamped_sorted (order ds) (sorted_order ds up);
      below = run_below work (order ds) (opening_core work) c
          (reordered (Moves work) (grows work) (opening_core work) c ds r);
      each = λ i b. events_by i (order ds) ∙ ap (λ l. map stamped l) (of_order ds up i)
          ∙ sym (run_tells work ds c r i).told;
    }

pub own_run : (work : Work) (run : List Event) → IsCoreRun work (opening_core work) run
    → (events : List Stamped)
    × StandsForOwnRun work (after work (opening_core work) run) events
own_run work run may =
    let c = after work (opening_core work) run in
    let did = run_did work run (opening_core work) may in
    let made = run_made work (order did.0) (opening_core work) c
    (reordered (Moves work) (grows work) (opening_core work) c did.0 did.2) in (
      map stamped (order did.0),
      record {
        are_events = sorted_history work did.0 c did.2;
        is_run = made.run;
        ends = record {
          nodes = λ i b. ap (λ (x : Core). x.nodes i) (sym made.leads);
          lists = λ j i a b. ap (λ (x : Core). x.list j i) (sym made.leads);
        };
      },
    )

-- 2. A run adds

-- a run of two parts
pub record InParts (work : Work) (c : Core) (run more : List Event) : Type 0 where
  pub first : IsCoreRun work c run
  pub then : IsCoreRun work (after work c run) more
  pub ends : after work c (run ++ more) ≡ after work (after work c run) more

in_parts : (work : Work) (run more : List Event) (c : Core) → IsCoreRun work c (run ++ more)
    → InParts work c run more
in_parts work [] more c may = record { first = tt; then = may; ends = refl }
in_parts work (e ∷ es) more c may =
    let rest = in_parts work es more (event_step work c e) may.1 in
    record { first = (may.0, rest.first); then = rest.then; ends = rest.ends }

pub adds : (work : Work) (run more : List Event)
    → IsCoreRun work (opening_core work) (run ++ more)
    → OnlyAdds work.layout.nodes (after work (opening_core work) run)
    (after work (opening_core work) (run ++ more))
adds work run more may i b =
    let parts = in_parts work run more (opening_core work) may in
    let c = after work (opening_core work) run in
    let before = run_did work run (opening_core work) parts.first in
    let then = run_did work more c parts.then in
    let tells = (run_tells work before.0 c before.2 i).tells in
    let told = node_tells work i then.0 (c.nodes i) ((after work c more).nodes i)
    ((run_fits (Moves work) then.0 c (after work c more) then.2).0 i) tells in (
      map stamped (of i then.0),
      ap (λ (x : Core). events_of i (x.nodes i)) parts.ends ∙ told.told,
    )

-- 3. The bytes merged

pub own_history : (work : Work) (c : Core) (events : List Stamped) → StandsForOwnRun work c events
    → (ds : List LocalEvent) × (events ≡ map stamped ds)
    × Run (Moves work) (opening_core work) ds (after work (opening_core work) (run_of events))
own_history work c events stands =
    let end = after work (opening_core work) (run_of events) in
    let did = run_did work (run_of events) (opening_core work) stands.is_run in (
      did.0,
      same_events work.layout.nodes events (map stamped did.0) stands.are_events.below
          (sym did.1) (λ i b. stands.are_events.each i b
          ∙ ap (λ (n : Node). events_of i n) (stands.ends.nodes i b)
          ∙ (run_tells work did.0 end did.2 i).told ∙ sym (events_by i did.0)),
      did.2,
    )

prints_merged : (work : Work) (c : Core) (events : List Stamped) (ds : List LocalEvent)
    → StandsForOwnRun work c events → events ≡ map stamped ds
    → Run (Moves work) (opening_core work) ds (after work (opening_core work) (run_of events))
    → AreMerged work.layout.nodes c.nodes (prints ds)
prints_merged work c events ds stands told run =
    let end = after work (opening_core work) (run_of events) in
    let sorted : AreSorted stamp_in maker (map stamped ds) =
    subst (λ l. AreSorted stamp_in maker l) told stands.are_events.sorted in
    let below : AreMadeBelow stamp_in maker work.layout.nodes (map stamped ds) =
    subst (λ l. AreMadeBelow stamp_in maker work.layout.nodes l) told stands.are_events.below in
    record {
      sorted = bytes_sorted ds sorted;
      below = bytes_below work.layout.nodes ds below;
      each = λ i b. bytes_by i ds ∙ sym (run_tells work ds end run i).bytes
          ∙ ap (λ (n : Node). map (printed_of i) n.output) (sym (stands.ends.nodes i b));
    }

pub bytes : (work : Work) (c : Core) (events : List Stamped) → StandsForOwnRun work c events
    → (bytes : List Printed) × AreMerged work.layout.nodes c.nodes bytes
bytes work c events stands =
    let own = own_history work c events stands in
    (prints own.0, prints_merged work c events own.0 stands own.1 own.2)

pub merged : (work : Work) (c : Core) (events : List Stamped) (merge : List Printed)
    → StandsForOwnRun work c events → AreMerged work.layout.nodes c.nodes merge
    → map byte_in merge ≡ printed_by work (opening_core work) (run_of events)
merged work c events merge stands are =
    let end = after work (opening_core work) (run_of events) in
    let own = own_history work c events stands in
    let ds = own.0 in
    let one : merge ≡ prints ds = one_sorted stamp_of printer work.layout.nodes
    (λ i. map (printed_of i) (c.nodes i).output) merge (prints ds) are
    (prints_merged work c events ds stands own.1 own.2) in
    ap (λ l. map byte_in l) one
    ∙ sym (run_made work ds (opening_core work) end own.2).prints
    ∙ ap (λ l. printed_by work (opening_core work) (run_of l)) (sym own.1)
