use Rattle.std.proofs.Common.{◌≡◌, ◌+◌, length, refl, arith}
use Rattle.templates.specs.Code.{code_of}
use Rattle.templates.specs.Sequences.{batch_sequence}
use Rattle.jump_map.specs.Image.{entry_items}
use Rattle.jump_map.specs.Heads.{program_with, end_of}
use Rattle.jump_map.proofs.ExpansionLemmas.{front, run_of, entry_length, entry_within, heads_step, count_step, ascends_step}
use Rattle.jump_map.proofs.building.find_heads.Goals as goal

pub batch_length-requires : goal.batch_length-requires
batch_length-requires c = record {
  run = run_of c.args.code.now c.args.entries.now c.loop-entry.entry-index c.entry-item.result c.requires.runs c.loop-entry-test.true c.entry-item.is;
}

pub push-requires-clause-single : goal.push-requires-clause-single
push-requires-clause-single c =
    let ws = c.args.code.now in
    let e = c.entry-item.result in
    let left = front c.args.entries.now c.loop-entry.entry-index e c.loop-entry-test.true c.entry-item.is in
    let within = entry_within (program_with ws) c.args.entries.now c.loop-entry.entry-index e c.loop-entry.next c.args.total left c.loop-entry.invariant.count in
    let long = entry_length ws e (code_of ws e.address) refl in
    let value = c.batch_length.ensures.value in
    let from = c.from.ensures in
    let few = c.requires.few in
    omega (arith, within, long, value, from, few)

pub loop-entry-preserved : goal.loop-entry-preserved
loop-entry-preserved c =
    let ws = c.args.code.now in
    let es = c.args.entries.now in
    let i = c.loop-entry.entry-index in
    let e = c.entry-item.result in
    let n = c.loop-entry.next in
    let s = n + c.from.result in
    let m = s + c.from-in-loop-entry.result in
    let left = front es i e c.loop-entry-test.true c.entry-item.is in
    let long = entry_length ws e c.at.result c.at.ensures.value in
    let batch = c.batch_length.ensures.value in
    let value = c.sequence_length.ensures.value in
    let from_single = c.from.ensures in
    let from = c.from-in-loop-entry.ensures in
    let single : s ≡ n + length (batch_sequence (code_of ws) e) = omega (arith, batch, from_single) in
    let count : m ≡ n + length (entry_items (program_with ws) e) = omega (arith, long, value, from, single) in
    let h = c.loop-entry.invariant in
    record {
      starts = heads_step (program_with ws) es i e n s m c.loop-entry.index c.push.new.self _ left single count h.starts c.in_ok-push.ensures.ok;
      count = count_step (program_with ws) es i e n m _ left count h.count;
      ascends = ascends_step es i e (end_of c.loop-entry.index) n s c.loop-entry.index c.push.new.self left h.ascends c.in_ok-push.ensures.ok;
    }
