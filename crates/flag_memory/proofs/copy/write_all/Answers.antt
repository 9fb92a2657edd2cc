use Rattle.std.proofs.Common.{◌≡◌, ◌<◌, ◌≤◌, ◌+◌, ◌^◌, suc, List, ◌∷◌, refl, subst, ap, sym, arith, length, get_or, []}
use Rattle.std.specs.Prelude.{map}
use Rattle.std.proofs.lemmas.List.{get_or-map}
use Rattle.flag_memory.specs.declared.first.FirstRange.{FirstRange}
use Rattle.flag_memory.specs.FirstBytes.{FirstRange as Seen}
use Rattle.flag_memory.specs.Ranges.{range_of}
use Rattle.flag_memory.proofs.Contents.{written_range}
use Rattle.flag_memory.proofs.copy.write_all.Goals as goal

abbrev no_range : FirstRange
no_range = record { address = 0; bytes = record { ref_ptr = (0, 0); now = [] } }

map_len : (xs : List FirstRange) → length (map range_of xs) ≡ length xs
map_len [] = refl
map_len (x ∷ xs) = ap suc (map_len xs)

pub write-requires-clause-fits : goal.write-requires-clause-fits
write-requires-clause-fits c =
    let i = c.loop-range.range-index in
    let r : Seen = range_of (get_or c.args.ranges.now i no_range) in
    let within : i < length (map range_of c.args.ranges.now) = omega (arith, map_len c.args.ranges.now, c.loop-range-test.true) in
    let is : get_or (map range_of c.args.ranges.now) i r ≡ r = get_or-map range_of c.args.ranges.now i no_range r c.loop-range-test.true in
    subst (λ (q : Seen). q.address + length q.bytes ≤ 2 ^ 32) is (c.requires.ranges.low i r within)

pub loop-range-preserved : goal.loop-range-preserved
loop-range-preserved c =
    let rs = map range_of c.args.ranges.now in
    let i = c.loop-range.range-index in
    let r : Seen = range_of (get_or c.args.ranges.now i no_range) in
    let within : i < length (map range_of c.args.ranges.now) = omega (arith, map_len c.args.ranges.now, c.loop-range-test.true) in
    let is : r ≡ get_or (map range_of c.args.ranges.now) i r = sym (get_or-map range_of c.args.ranges.now i no_range r c.loop-range-test.true) in
    written_range c.args.layout.now c.loop-range.bytes c.write.new.bytes rs i r c.requires.ranges within is c.loop-range.invariant c.write.ensures
