use Rattle.std.proofs.Common.{◌≡◌, ◌+◌, ◌++◌, ◌∷◌, [], None, length, refl, ap, ◌∙◌, arith}
use Rattle.templates.specs.Code.{code_of}
use Rattle.jump_map.specs.Image.{entry_items}
use Rattle.jump_map.specs.Storage.{cell}
use Rattle.jump_map.specs.Heads.{program_with, head_address}
use Rattle.jump_map.specs.Building.{batch_items}
use Rattle.jump_map.proofs.ExpansionLemmas.{front, run_of, entry_length, entry_within, batch_count, adds_length, adds_entry, count_step, cells_step, first_word}
use Rattle.jump_map.proofs.building.write_cells.Goals as goal

pub loop-entry-init : goal.loop-entry-init
loop-entry-init c =
    let w = cell c.encode_word.result None in
    let is : c.push.new.self ≡ w ∷ [] = c.in_ok-push.ensures.ok ∙ ap (λ xs. xs ++ w ∷ []) c.in_ok-cells.ensures.value in
    let q = c.requires in
    let long = ap (λ xs. length xs) is in
    record {
      words = first_word (program_with c.args.code.now) c.args.entries.now c.args.heads.now c.push.new.self w q.starts q.total is (λ t. record { what = c.encode_word.ensures.again t; place = None });
      count = omega (arith, long, q.total);
    }

pub write_batch-requires-clause-run : goal.write_batch-requires-clause-run
write_batch-requires-clause-run c =
    run_of c.args.code.now c.args.entries.now c.loop-entry.entry-index c.entry-item.result c.requires.runs c.loop-entry-test.true c.entry-item.is

pub write_batch-requires-clause-room : goal.write_batch-requires-clause-room
write_batch-requires-clause-room c =
    let ws = c.args.code.now in
    let e = c.entry-item.result in
    let left = front c.args.entries.now c.loop-entry.entry-index e c.loop-entry-test.true c.entry-item.is in
    let within = entry_within (program_with ws) c.args.entries.now c.loop-entry.entry-index e (length c.loop-entry.cells) c.args.heads.now.total left c.loop-entry.invariant.count in
    let long = entry_length ws e (code_of ws e.address) refl in
    let few = c.requires.few in
    omega (arith, within, long, few)

pub write_single-requires-clause-run : goal.write_single-requires-clause-run
write_single-requires-clause-run c =
    run_of c.args.code.now c.args.entries.now c.loop-entry.entry-index c.entry-item.result c.requires.runs c.loop-entry-test.true c.entry-item.is

pub write_single-requires-clause-room : goal.write_single-requires-clause-room
write_single-requires-clause-room c =
    let ws = c.args.code.now in
    let e = c.entry-item.result in
    let left = front c.args.entries.now c.loop-entry.entry-index e c.loop-entry-test.true c.entry-item.is in
    let within = entry_within (program_with ws) c.args.entries.now c.loop-entry.entry-index e (length c.loop-entry.cells) c.args.heads.now.total left c.loop-entry.invariant.count in
    let long = entry_length ws e (code_of ws e.address) refl in
    let batch = batch_count (program_with ws) e in
    let mid = adds_length c.args.heads.now (batch_items (program_with ws) e) c.loop-entry.cells c.write_batch.new.cells c.in_ok-write_batch.ensures.words in
    let few = c.requires.few in
    omega (arith, within, long, batch, mid, few)

pub loop-entry-preserved : goal.loop-entry-preserved
loop-entry-preserved c =
    let ws = c.args.code.now in
    let p = program_with ws in
    let es = c.args.entries.now in
    let i = c.loop-entry.entry-index in
    let e = c.entry-item.result in
    let heads = c.args.heads.now in
    let old = c.loop-entry.cells in
    let new = c.write_single.new.cells in
    let left = front es i e c.loop-entry-test.true c.entry-item.is in
    let adds = adds_entry (program_with ws) heads e old c.write_batch.new.cells new c.in_ok-write_batch.ensures.words c.in_ok-write_single.ensures.words in
    let count : length new ≡ length old + length (entry_items (program_with ws) e) = adds_length heads (entry_items (program_with ws) e) old new adds in
    let h = c.loop-entry.invariant in
    record {
      words = cells_step (program_with ws) (head_address heads) es i e (length old) (length new) _ _ _ left count h.words adds;
      count = count_step (program_with ws) es i e (length old) (length new) heads.total left count h.count;
    }
