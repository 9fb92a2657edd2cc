use Rattle.std.proofs.Common.{◌≡◌, ℕ, ◌<◌, ◌++◌, List, ap, ◌∙◌, subst, arith, All}
use Rattle.std.proofs.lemmas.List.{append_assoc}
use Rattle.block_layout.specs.Layout.{blocks}
use Rattle.block_view.specs.Counts.{block_counts, misses_of}
use Rattle.block_view.specs.Order.{costly, IsOrder}
use Rattle.block_view.specs.Text.{head, block_lines, section_of, IsAscending}
use Rattle.block_view.specs.Kept.{counts_in, sites_in, kept_in}
use Rattle.block_view.specs.declared.order.Ranked.{Ranked}
use Rattle.block_view.specs.Sharing.{writes_of}
use Rattle.block_view.proofs.Writing.{kept_shared}
use Rattle.block_view.proofs.Texts.{kept_counts, ranked_sites, lines_as}
use Rattle.block_view.proofs.sums.Sums.push_lines.Goals as goal

pub returns : goal.returns
returns c = λ seen h.
    let layout = c.args.self.now.layout.now in
    let symbols = c.args.symbols.now in
    let items = c.args.self.now.costs.blocks.items in
    let ranked : List Ranked = c.in_ok-ranked.ranked.items in
    let m = c.blocks-2.result in
    let many : m ≡ blocks layout = c.blocks-2.ensures.blocks in
    let count = h.count in
    let shares = c.args.self.now.sharing.blocks.items in
    let writers = h.writers in
    let old = c.args.out.now.items in
    let counted : (b : ℕ) → b < m → (i : ℕ) → counts_in items b i ≡ block_counts b i seen =
    λ b low. kept_counts items b (λ i. block_counts b i seen) (misses_of b seen) (omega (arith, low, many, count))
    (λ d. h.costs b d (omega (arith, low, many, count))) in
    let said : (b : ℕ) → b < m → kept_in c.args.self.now b ≡ section_of b seen (sites_in items b) =
    λ b low t. record {
      shared = kept_shared shares b (writes_of b seen) (omega (arith, low, many, writers))
          (λ d. h.sharing b d (omega (arith, low, many, writers))) t;
      counts = λ i. counted b low i t;
      sites = sites_in items b;
    } in
    let text = block_lines layout symbols (λ b. section_of b seen (sites_in items b)) ranked in
    record {
      ranked = ranked;
      order = subst (λ n. IsOrder (costly n (blocks layout) seen) ranked) c.nodes.ensures.nodes
          (subst (λ k. IsOrder (costly c.nodes.result k seen) ranked) many
          (c.in_ok-ranked.ensures.order seen h.costs));
      sites = sites_in items;
      each = ranked_sites items m (λ b i. block_counts b i seen) (λ b. misses_of b seen) ranked
          (omega (arith, many, count)) h.costs c.in_ok-ranked.ensures.below
          (subst (All (λ (r : Ranked). IsAscending (sites_in items r.block))) c.deref.ensures.value
          c.in_ok-push_blocks.ensures.ascending);
      text = c.in_ok-push_blocks.ensures.text
          ∙ ap (λ rs. c.push_head.new.out.items ++ block_lines layout symbols (kept_in c.args.self.now) rs)
          c.deref.ensures.value ∙ ap (λ x. c.push_head.new.out.items ++ x)
          (lines_as layout symbols m (kept_in c.args.self.now) (λ b. section_of b seen (sites_in items b)) ranked
          c.in_ok-ranked.ensures.below said) ∙ ap (λ o. o ++ text) c.in_ok-push_head.ensures
          ∙ append_assoc old head text;
    }
