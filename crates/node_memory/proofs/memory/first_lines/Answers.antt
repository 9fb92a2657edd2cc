use Rattle.std.proofs.Common.{◌≡◌, ◌+◌, ◌<◌, ◌∙◌, sym, subst, arith}
use Rattle.block_layout.specs.Layout.{blocks, first_line, start}
use Rattle.node_memory.proofs.ShelfLemmas.{PlaceLaws, FirstOf, more_first}
use Rattle.node_memory.proofs.memory.first_lines.Goals as goal

pub loop-block-preserved : goal.loop-block-preserved
loop-block-preserved c =
    let law = c.layout_law.ensures in
    let laws : PlaceLaws = record { ends = law.ends; has = law.has; found = law.found; shared = law.shared; place = law.place; within = law.within; count = law.count } in
    let l = c.args.layout.now in
    let b = c.loop-block.block in
    let first = c.first_line-first.result in
    let count = c.loop-block.lines in
    let valid = c.blocks-count.ensures.valid in
    let bb : b < blocks l = subst (λ z. b < z) c.blocks-count.ensures.blocks c.loop-block-test.true in
    let at : first_line l b ≡ first + count = sym c.first_line.ensures ∙ c.if-first_line-first.false in
    let most = c.lines-lines.ensures.few in
    let under = c.if-lines-ge-MOST_LINES.false in
    let begins : start l b ≡ count = sym c.start.ensures ∙ c.if-start-lines.false in
    record {
      first = subst (λ n. FirstOf l first (count + n)) (sym c.lines-lines.ensures.lines)
          (more_first laws l valid first count b c.loop-block.invariant.first bb at begins (law.low l b valid bb));
      low = c.loop-block.invariant.low;
      few = omega (arith, most, under);
    }
