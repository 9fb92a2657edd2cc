use Rattle.std.proofs.Common.{rules, ◌≡◌, length, ap, ◌∙◌, sym, subst}
use Rattle.std.proofs.lemmas.List.{length-map}
use Rattle.node_threads.specs.Crew.{AreNodesOf}
use Rattle.node_threads.proofs.Races.{prepared, ready, all_work, links_cross, outboxes_long, came_to, undelivered_ready}
use Rattle.node_threads.proofs.racing.race_nodes.Goals as goal

pub run_all-requires-clause-ready : goal.run_all-requires-clause-ready
run_all-requires-clause-ready g c κs within =
    let e = c.in_ok-workers.ensures in
    let ws = c.in_ok-workers.workers.items in
    let p = prepared c.len.result c.args.nodes.items c.args.rows.items
    c.in_ok-sends.sends.items c.in_ok-sends.takes.items ws (search rules) c.requires.rows
    c.in_ok-sends.ensures.mesh e.nodes e.sends e.takes e.outboxes in
    let works = c.requires.works in
    let many : length ws ≡ length c.args.nodes.items =
    sym (length-map ws _) ∙ ap length e.nodes in
    ready works.0 (length ws) ws (works.1 ∙ sym many)
    (subst (AreNodesOf works.0) (sym e.nodes) works.2) p.sends p.takes p.outboxes e.idle

pub gather-requires-clause-links : goal.gather-requires-clause-links
gather-requires-clause-links g c =
    let e = c.in_ok-workers.ensures in
    let ws = c.in_ok-workers.workers.items in
    let p = prepared c.len.result c.args.nodes.items c.args.rows.items
    c.in_ok-sends.sends.items c.in_ok-sends.takes.items ws (search rules) c.requires.rows
    c.in_ok-sends.ensures.mesh e.nodes e.sends e.takes e.outboxes in
    let bs = c.in_ok-workers-2.workers.items in
    let w = all_work ws bs c.in_ok-results.results.items c.in_ok-results.ensures.len
    c.in_ok-workers-2.ensures.all c.in_ok-results.ensures.each in
    let d = c.in_ok-nodes.ensures in
    links_cross ws bs _ _ p w d.sends d.takes

pub gather-requires-clause-outboxes : goal.gather-requires-clause-outboxes
gather-requires-clause-outboxes g c =
    let e = c.in_ok-workers.ensures in
    let ws = c.in_ok-workers.workers.items in
    let p = prepared c.len.result c.args.nodes.items c.args.rows.items
    c.in_ok-sends.sends.items c.in_ok-sends.takes.items ws (search rules) c.requires.rows
    c.in_ok-sends.ensures.mesh e.nodes e.sends e.takes e.outboxes in
    let bs = c.in_ok-workers-2.workers.items in
    let w = all_work ws bs c.in_ok-results.results.items c.in_ok-results.ensures.len
    c.in_ok-workers-2.ensures.all c.in_ok-results.ensures.each in
    let d = c.in_ok-nodes.ensures in
    outboxes_long ws bs _ _ p w d.sends d.outboxes

pub put_all_undelivered-requires-clause-rows : goal.put_all_undelivered-requires-clause-rows
put_all_undelivered-requires-clause-rows g c =
    let e = c.in_ok-workers.ensures in
    let ws = c.in_ok-workers.workers.items in
    let p = prepared c.len.result c.args.nodes.items c.args.rows.items
    c.in_ok-sends.sends.items c.in_ok-sends.takes.items ws (search rules) c.requires.rows
    c.in_ok-sends.ensures.mesh e.nodes e.sends e.takes e.outboxes in
    let bs = c.in_ok-workers-2.workers.items in
    let w = all_work ws bs c.in_ok-results.results.items c.in_ok-results.ensures.len
    c.in_ok-workers-2.ensures.all c.in_ok-results.ensures.each in
    let d = c.in_ok-nodes.ensures in
    let h = undelivered_ready ws bs _ _ _ _ c.in_ok-lists.lists.items p w d.sends d.undelivered
    c.in_ok-lists.ensures.gathers in
    h.0

pub put_all_undelivered-requires-clause-undelivered : goal.put_all_undelivered-requires-clause-undelivered
put_all_undelivered-requires-clause-undelivered g c =
    let e = c.in_ok-workers.ensures in
    let ws = c.in_ok-workers.workers.items in
    let p = prepared c.len.result c.args.nodes.items c.args.rows.items
    c.in_ok-sends.sends.items c.in_ok-sends.takes.items ws (search rules) c.requires.rows
    c.in_ok-sends.ensures.mesh e.nodes e.sends e.takes e.outboxes in
    let bs = c.in_ok-workers-2.workers.items in
    let w = all_work ws bs c.in_ok-results.results.items c.in_ok-results.ensures.len
    c.in_ok-workers-2.ensures.all c.in_ok-results.ensures.each in
    let d = c.in_ok-nodes.ensures in
    let h = undelivered_ready ws bs _ _ _ _ c.in_ok-lists.lists.items p w d.sends d.undelivered
    c.in_ok-lists.ensures.gathers in
    (h.1, h.2)

pub returns : goal.returns
returns g c =
    let e = c.in_ok-workers.ensures in
    let ws = c.in_ok-workers.workers.items in
    let p = prepared c.len.result c.args.nodes.items c.args.rows.items
    c.in_ok-sends.sends.items c.in_ok-sends.takes.items ws (search rules) c.requires.rows
    c.in_ok-sends.ensures.mesh e.nodes e.sends e.takes e.outboxes in
    let bs = c.in_ok-workers-2.workers.items in
    let w = all_work ws bs c.in_ok-results.results.items c.in_ok-results.ensures.len
    c.in_ok-workers-2.ensures.all c.in_ok-results.ensures.each in
    let d = c.in_ok-nodes.ensures in
    let h = undelivered_ready ws bs _ _ _ _ c.in_ok-lists.lists.items p w d.sends d.undelivered
    c.in_ok-lists.ensures.gathers in
    record {
      raced = λ work count an. came_to work ws bs c.args.nodes.items c.args.rows.items _ _ _ _ _
          c.in_ok-lists.lists.items _ p w count an e.nodes e.outboxes d.nodes d.sends d.takes d.outboxes
          d.undelivered c.in_ok-lists.ensures.gathers c.in_ok-lists-2.ensures.lists
          c.in_ok-lists-2.ensures.rows h.3;
    }
