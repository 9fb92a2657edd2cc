use Rattle.std.proofs.Common.{◌≡◌, ◌+◌, length, arith}
use Rattle.jump_map.specs.Image.{entry_items}
use Rattle.jump_map.specs.Heads.{program_with}
use Rattle.jump_map.proofs.ExpansionLemmas.{front, run_of, count_step}
use Rattle.jump_map.proofs.building.count_words.Goals as goal

pub entry_length-requires : goal.entry_length-requires
entry_length-requires c = record {
  run = run_of c.args.code.now c.args.entries.now c.loop-entry.entry-index c.entry-item.result c.requires.runs c.loop-entry-test.true c.entry-item.is;
}

pub loop-entry-preserved : goal.loop-entry-preserved
loop-entry-preserved c =
    let ws = c.args.code.now in
    let es = c.args.entries.now in
    let i = c.loop-entry.entry-index in
    let e = c.entry-item.result in
    let n = c.loop-entry.total in
    let m = n + c.from-total.result in
    let left = front es i e c.loop-entry-test.true c.entry-item.is in
    let value = c.entry_length.ensures.value in
    let small = c.entry_length.ensures.short in
    let from = c.from-total.ensures in
    let count : m ≡ n + length (entry_items (program_with ws) e) = omega (arith, value, from) in
    let h = c.loop-entry.invariant in
    let few = h.few in
    record {
      so_far = count_step (program_with ws) es i e n m _ left count h.so_far;
      few = omega (arith, few, from, small);
    }
