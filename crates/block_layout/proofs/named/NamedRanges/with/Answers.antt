use Rattle.std.proofs.Common.{◌≡◌, ◌+◌, ◌/◌, ℕ, List, subst, sym, arith}
use Rattle.block_layout.specs.declared.layout.BlockRange.{BlockRange}
use Rattle.block_layout.specs.Reading.{IsNew, MapsLines}
use Rattle.block_layout.proofs.Spans.{MapsUpTo, maps_all}
use Rattle.block_layout.proofs.named.NamedRanges.with.Goals as goal

pub invariant_of-result : goal.invariant_of-result
invariant_of-result c =
    let P : ℕ → Type 0 = λ n. MapsUpTo c.loop-line.range_at c.self.inside.ranges.items c.args.range (c.args.range.start / 64) n in
    let end : c.loop-line.line ≡ c.args.range.start / 64 + c.args.range.length / 64 = omega arith in
    let N : List BlockRange → Type 0 = λ rs. IsNew rs c.args.range in
    let new : IsNew c.self.inside.ranges.items c.args.range = subst N (sym c.self.view_is) c.requires.new in
    let Q : List BlockRange → Type 0 = λ rs. MapsLines c.loop-line.range_at rs in
    subst Q (sym c.in_ok-push.ensures.items) (maps_all c.loop-line.range_at c.self.inside.ranges.items c.args.range c.requires.whole new (subst P end c.loop-line.invariant))
