use Rattle.std.proofs.Common.{All, arith, subst}
use Rattle.std.proofs.lemmas.List.{take_all}
use Rattle.std.proofs.lemmas.List.Elements.{All-more}
use Rattle.block_view.specs.declared.order.Ranked.{Ranked}
use Rattle.block_view.specs.Kept.{layout_in, kept_in, sites_in}
use Rattle.block_view.specs.Text.{IsAscending}
use Rattle.block_view.proofs.Texts.{next_block}
use Rattle.block_view.proofs.sums.Sums.push_blocks.Goals as goal

pub loop-block-preserved : goal.loop-block-preserved
loop-block-preserved c =
    let items = c.args.self.now.costs.blocks.items in
    let ranked = c.args.ranked.now in
    let i = c.loop-block.block-index in
    record {
      text =
          next_block (layout_in c.args.self.now) c.args.symbols.now (kept_in c.args.self.now) ranked i _
          c.loop-block.out.items c.push_block.new.out.items _ c.loop-block-test.true c.loop-block.invariant.text
          c.in_ok-push_block.ensures.text;
      ascending =
          All-more (λ (r : Ranked). IsAscending (sites_in items r.block)) ranked i _ c.loop-block-test.true
          c.loop-block.invariant.ascending c.in_ok-push_block.ensures.ascending;
    }

pub returns-clause-ascending : goal.returns-clause-ascending
returns-clause-ascending c =
    let items = c.args.self.now.costs.blocks.items in
    let ranked = c.args.ranked.now in
    subst (All (λ (r : Ranked). IsAscending (sites_in items r.block)))
    (take_all c.loop-block.block-index ranked (omega (arith, c.loop-block-test.false)))
    c.loop-block.invariant.ascending
