-- Where a row isn't empty, it is the word of its node, whose place is the number of words before it.
use Rattle.std.proofs.Common.{◌≡◌, ◌+◌, ◌<◌, ◌≤◌, ℕ, List, ap, sym, ◌∙◌, length, subst, arith}
use Rattle.std.proofs.lemmas.Bool.Decides.{nat_tests}
use Rattle.block_layout.specs.Layout.{Shape}
use Rattle.dsm_core.specs.CoreParts.{work_of, core_of}
use Rattle.shared_sim.proofs.Places.{AreCounted, calm_few, one_word, word_row, empty_row, word_counted, none_counted}
use Rattle.shared_sim.proofs.Rows.{count_more, row_listed}
use Rattle.shared_sim.proofs.listing.Listing.words.Goals as goal
use Rattle.shared_sim.proofs.listing.Listing.words.Goals.{then-not-is_empty, else-not-is_empty}

pub offset_bounds-tally-place : goal.offset_bounds-tally-place
offset_bounds-tally-place c =
    let p = c.args.core.now in
    let l = c.loop-node in
    let end = c.nodes-node-end.ensures.nodes ∙ ap (λ (s : Shape). s.nodes) c.layout.ensures.value in
    let low : l.node < p.layout.nodes = omega (arith, c.loop-node-test.true, end) in
    let few = calm_few (work_of p) (core_of p) 0 l.node (omega (arith, low)) c.requires.calm in
    let count = c.nodes-node-end.ensures.valid.few_nodes in
    omega (arith, few, l.invariant.place, c.loop-node-test.true, c.nodes-node-end.ensures.nodes, count)

pub bounds-tally-place : goal.bounds-tally-place
bounds-tally-place c =
    let p = c.args.core.now in
    let l = c.loop-node in
    let end = c.nodes-node-end.ensures.nodes ∙ ap (λ (s : Shape). s.nodes) c.layout.ensures.value in
    let low : l.node < p.layout.nodes = omega (arith, c.loop-node-test.true, end) in
    let few = calm_few (work_of p) (core_of p) 0 l.node (omega (arith, low)) c.requires.calm in
    let count = c.nodes-node-end.ensures.valid.few_nodes in
    omega (arith, few, l.invariant.place, c.loop-node-test.true, c.nodes-node-end.ensures.nodes, count)

pub overflow_add-place : goal.overflow_add-place
overflow_add-place c =
    let p = c.args.core.now in
    let l = c.loop-node in
    let end = c.nodes-node-end.ensures.nodes ∙ ap (λ (s : Shape). s.nodes) c.layout.ensures.value in
    let low : l.node < p.layout.nodes = omega (arith, c.loop-node-test.true, end) in
    let few = calm_few (work_of p) (core_of p) 0 l.node (omega (arith, low)) c.requires.calm in
    let count = c.nodes-node-end.ensures.valid.few_nodes in
    omega (arith, few, l.invariant.place, c.loop-node-test.true, c.nodes-node-end.ensures.nodes, count)

pub loop-node-preserved : goal.loop-node-preserved
loop-node-preserved c =
    let p = c.args.core.now in
    let work = work_of p in
    let core = core_of p in
    let l = c.loop-node in
    let end = c.nodes-node-end.ensures.nodes ∙ ap (λ (s : Shape). s.nodes) c.layout.ensures.value in
    let low : l.node < p.layout.nodes = omega (arith, c.loop-node-test.true, end) in
    let few = calm_few work core 0 l.node (omega (arith, low)) c.requires.calm in
    let count = c.nodes-node-end.ensures.valid.few_nodes in
    let small : l.node < 16 = omega (arith, c.loop-node-test.true, c.nodes-node-end.ensures.nodes, count) in
    let place : l.place < 16 = omega (arith, few, l.invariant.place, small) in
    let row = c.index.result.now in
    let listed = row_listed p c.args.self.now l.node row (c.requires.lists.tells l.node low) c.index.ensures in
    let more = count_more work core l.node row.items listed in
    elim c.if-not-is_empty.branch [
      | then-not-is_empty w ↦
          (let some : 1 ≤ length row.items = grind (arith, nat_tests, c.is_empty.ensures, w.if-not-is_empty.true, row.ok) in
          let word = word_row work core l.node row.items low (c.requires.calm l.node low) listed some in
          let one : length row.items ≡ 1 = one_word work core l.node row.items listed word.0 in
          record {
            place = omega (arith, w.place-is, l.invariant.place, more, one);
            counted = subst (λ (ws : List ℕ). AreCounted work core c.args.tally.now ws (l.node + 1)) (sym w.words-is)
                (word_counted work core c.args.tally.now l.words l.node l.place l.invariant.counted low small place
                l.invariant.place word.0 word.1);
          })
      | else-not-is_empty w ↦
          (let none : length row.items ≡ 0 = grind (arith, nat_tests, c.is_empty.ensures, w.if-not-is_empty.false, row.ok) in
          let empty = empty_row work core l.node row.items listed none in
          record {
            place = omega (arith, w.place-is, l.invariant.place, more, none);
            counted = subst (λ (ws : List ℕ). AreCounted work core c.args.tally.now ws (l.node + 1)) (sym w.words-is)
                (none_counted work core c.args.tally.now l.words l.node l.invariant.counted low empty);
          })
    ]
