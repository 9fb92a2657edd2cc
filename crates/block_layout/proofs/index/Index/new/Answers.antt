use Rattle.std.proofs.Common.{◌≡◌, List, refl, sym, ap, ◌∙◌, subst, get_or, length, arith}
use Rattle.block_layout.specs.declared.ranges.Lines.{Lines}
use Rattle.block_layout.proofs.Building.{IsNextRange, index_none, next_range, index_all}
use Rattle.block_layout.proofs.index.Index.new.Goals as goal

pub loop-range-init : goal.loop-range-init
loop-range-init g c = index_none g.s _ c.new.ensures.items refl refl

pub add_lines-requires : goal.add_lines-requires
add_lines-requires g c =
    let same : c.as_slice-range-items.result.now ≡ g.s.shared = c.as_slice-range-items.ensures.value ∙ c.requires.1.0 in
    let P : List Lines → Type 0 = λ rs. IsNextRange g.s (get_or rs c.loop-range.range-index (record { first = 0; lines = 0 })) c.loop-range.index in
    let next = subst P (sym same) (next_range g.s c.loop-range.index c.loop-range.range-index (record { first = 0; lines = 0 }) c.requires.0 (omega (arith, ap length same)) c.loop-range.invariant) in
    (c.requires.0, (c.requires.1.1, (next.shared, (next.low, next.below))))

pub returns : goal.returns
returns g c =
    let same : c.as_slice-range-items.result.now ≡ g.s.shared = c.as_slice-range-items.ensures.value ∙ c.requires.1.0 in
    index_all g.s c.loop-range.index c.loop-range.range-index c.requires.0 (omega (arith, ap length same)) c.loop-range.invariant
