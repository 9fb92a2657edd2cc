use Rattle.std.proofs.Common.{◌≡◌, ◌++◌, length, map, take, drop, ◌∙◌, arith}
use Rattle.templates.specs.declared.places.Part.TheVariants.{Head, Fast, Fallback}
use Rattle.templates.specs.Code.{code_of}
use Rattle.templates.specs.Sequences.{items_in, batch_sequence}
use Rattle.templates.specs.Expansion.{reads}
use Rattle.jump_map.specs.Heads.{program_with}
use Rattle.jump_map.proofs.ExpansionLemmas.{written, written_length, sequence_count, reads_front, reads_back, adds_batch}
use Rattle.jump_map.proofs.building.write_batch.Goals as goal

pub split_at-requires-2 : goal.split_at-requires-2
split_at-requires-2 c =
    let code = code_of c.args.code.now in
    let e = c.args.entry.now in
    let long = written_length c.clear.new.self c.expand_batch.new.out c.items.result.now (batch_sequence code e) c.clear.ensures.value c.in_ok-expand_batch.ensures.ok c.items.ensures.value in
    let count = sequence_count code e in
    let lengths = c.batch_lengths-lengths.ensures in
    let head = c.from.ensures in
    let fast = c.from-2.ensures in
    let back = c.split_at.ensures.back_len in
    omega (arith, long, count, lengths.head, lengths.fast, head, fast, back)

pub write_part-requires-3-clause-short : goal.write_part-requires-3-clause-short
write_part-requires-3-clause-short c =
    let code = code_of c.args.code.now in
    let e = c.args.entry.now in
    let long = written_length c.clear.new.self c.expand_batch.new.out c.items.result.now (batch_sequence code e) c.clear.ensures.value c.in_ok-expand_batch.ensures.ok c.items.ensures.value in
    let short = c.expand_batch.ensures.short in
    let back = c.split_at.ensures.back_len in
    let last = c.split_at-2.ensures.back_len in
    omega (arith, long, short, back, last)

pub write_part-requires-3-clause-room : goal.write_part-requires-3-clause-room
write_part-requires-3-clause-room c =
    let code = code_of c.args.code.now in
    let e = c.args.entry.now in
    let long = written_length c.clear.new.self c.expand_batch.new.out c.items.result.now (batch_sequence code e) c.clear.ensures.value c.in_ok-expand_batch.ensures.ok c.items.ensures.value in
    let room = c.requires.room in
    let front = c.split_at.ensures.front_len in
    let back = c.split_at.ensures.back_len in
    let middle = c.split_at-2.ensures.front_len in
    let last = c.split_at-2.ensures.back_len in
    let first = c.in_ok-write_part.ensures.count in
    let second = c.in_ok-write_part-2.ensures.count in
    omega (arith, long, room, front, back, middle, last, first, second)

pub returns : goal.returns
returns c =
    let code = code_of c.args.code.now in
    let e = c.args.entry.now in
    let items = c.items.result.now in
    let rest = c.split_at.result.1.now in
    let hs = items_in code e Head in
    let fs = items_in code e Fast in
    let bs = items_in code e Fallback in
    let lengths = c.batch_lengths-lengths.ensures in
    let whole = written c.clear.new.self c.expand_batch.new.out items (batch_sequence code e) c.clear.ensures.value c.in_ok-expand_batch.ensures.ok c.items.ensures.value in
    let head_count : c.from.result ≡ length (items_in code e Head) = c.from.ensures ∙ lengths.head in
    let fast_count : c.from-2.result ≡ length (items_in code e Fast) = c.from-2.ensures ∙ lengths.fast in
    let head = (λ t. map reads (c.split_at.ensures.front t)) ∙ (λ t. map reads (take (head_count t) items)) ∙ reads_front items hs (fs ++ bs) whole in
    let behind = (λ t. map reads (c.split_at.ensures.back t)) ∙ (λ t. map reads (drop (head_count t) items)) ∙ reads_back items hs (fs ++ bs) whole in
    let fast = (λ t. map reads (c.split_at-2.ensures.front t)) ∙ (λ t. map reads (take (fast_count t) rest)) ∙ reads_front rest fs bs behind in
    let fallback = (λ t. map reads (c.split_at-2.ensures.back t)) ∙ (λ t. map reads (drop (fast_count t) rest)) ∙ reads_back rest fs bs behind in
    record {
      words = adds_batch (program_with c.args.code.now) c.args.heads.now e c.args.cells.now c.write_part.new.cells c.write_part-2.new.cells c.write_part-3.new.cells
          c.split_at.result.0.now c.split_at-2.result.0.now c.split_at-2.result.1.now head fast fallback
          c.in_ok-write_part.ensures.words c.in_ok-write_part-2.ensures.words c.in_ok-write_part-3.ensures.words;
    }
