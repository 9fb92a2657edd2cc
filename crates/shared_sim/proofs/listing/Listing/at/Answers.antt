-- The row in which the place lies has its event.
use Rattle.std.proofs.Common.{◌≡◌, ◌+◌, ◌-◌, ◌<◌, ◌≤◌, suc, ap, sym, ◌∙◌, map, length, arith}
use Rattle.std.specs.Prelude.{slice_get}
use Rattle.std.specs.Vec.{vec_items}
use Rattle.block_layout.specs.Layout.{Shape}
use Rattle.dsm_core.specs.CoreParts.{work_of, core_of, event_of}
use Rattle.shared_sim.specs.Listing.{allowed_at}
use Rattle.shared_sim.proofs.Rows.{allowed_from, here_at, behind_at, none_behind}
use Rattle.shared_sim.proofs.listing.Listing.at.Goals as goal

pub returns-then-left-len : goal.returns-then-left-len
returns-then-left-len c =
    let p = c.args.core.now in
    let l = c.loop-node in
    let end = c.nodes-node-end.ensures.nodes ∙ ap (λ (s : Shape). s.nodes) c.layout.ensures.value in
    let low : l.node < p.layout.nodes = omega (arith, c.loop-node-test.true, end) in
    let k = p.layout.nodes - (l.node + 1) in
    let more : p.layout.nodes - l.node ≡ suc k = omega (arith, low) in
    let row = c.index-events.result.now in
    let listed : map event_of row.items ≡ allowed_at (work_of p) (core_of p) l.node =
    ap (λ v. map event_of (vec_items v)) c.index-events.ensures ∙ (c.requires.lists.tells l.node low).row row in
    let less : l.left < length row.items = omega (arith, c.if-left-len.true, c.len.ensures, row.ok) in
    record {
      picked = sym l.invariant
          ∙ ap (λ z. slice_get (allowed_from (work_of p) (core_of p) l.node z) l.left) more
          ∙ here_at (work_of p) (core_of p) l.node k l.left row.items c.index.result.now listed less c.index.ensures;
    }

pub loop-node-preserved : goal.loop-node-preserved
loop-node-preserved c =
    let p = c.args.core.now in
    let l = c.loop-node in
    let end = c.nodes-node-end.ensures.nodes ∙ ap (λ (s : Shape). s.nodes) c.layout.ensures.value in
    let low : l.node < p.layout.nodes = omega (arith, c.loop-node-test.true, end) in
    let k = p.layout.nodes - (l.node + 1) in
    let more : p.layout.nodes - l.node ≡ suc k = omega (arith, low) in
    let row = c.index-events.result.now in
    let listed : map event_of row.items ≡ allowed_at (work_of p) (core_of p) l.node =
    ap (λ v. map event_of (vec_items v)) c.index-events.ensures ∙ (c.requires.lists.tells l.node low).row row in
    let high : length row.items ≤ l.left = omega (arith, c.if-left-len.false, c.len.ensures, row.ok) in
    let gone : c.len-left.result ≡ length row.items = omega (arith, c.len-left.ensures, row.ok) in
    ap (λ z. slice_get (allowed_from (work_of p) (core_of p) (l.node + 1) k) (l.left - z)) gone
    ∙ behind_at (work_of p) (core_of p) l.node k l.left row.items listed high
    ∙ ap (λ z. slice_get (allowed_from (work_of p) (core_of p) l.node z) l.left) (sym more)
    ∙ l.invariant

pub unreachable-requires : goal.unreachable-requires
unreachable-requires c =
    let p = c.args.core.now in
    let l = c.loop-node in
    let end = c.nodes-node-end.ensures.nodes ∙ ap (λ (s : Shape). s.nodes) c.layout.ensures.value in
    let done : p.layout.nodes - l.node ≡ 0 = omega (arith, c.loop-node-test.false, end) in
    none_behind (work_of p) (core_of p) l.node l.left c.args.place
    (ap (λ z. slice_get (allowed_from (work_of p) (core_of p) l.node z) l.left) (sym done) ∙ l.invariant) c.requires.place
