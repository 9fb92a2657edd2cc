use Rattle.std.proofs.Common.{ap, ◌∙◌, length, arith}
use Rattle.templates.specs.declared.places.Part.TheVariants.{Single}
use Rattle.templates.specs.Sequences.{items_of}
use Rattle.templates.specs.Expansion.{words_of}
use Rattle.jump_map.specs.Heads.{program_with}
use Rattle.jump_map.proofs.ExpansionLemmas.{written, written_length, part_adds}
use Rattle.jump_map.proofs.building.write_single.Goals as goal

pub write_part-requires-clause-short : goal.write_part-requires-clause-short
write_part-requires-clause-short c =
    let long = written_length c.clear.new.self c.expand.new.out c.items.result.now (items_of c.args.entry.now c.at.result) c.clear.ensures.value c.in_ok-expand.ensures.ok c.items.ensures.value in
    let short = c.expand.ensures.short in
    omega (arith, long, short)

pub write_part-requires-clause-room : goal.write_part-requires-clause-room
write_part-requires-clause-room c =
    let e = c.args.entry.now in
    let long = written_length c.clear.new.self c.expand.new.out c.items.result.now (items_of e c.at.result) c.clear.ensures.value c.in_ok-expand.ensures.ok c.items.ensures.value
    ∙ ap (λ o. length (items_of e o)) c.at.ensures.value in
    let room = c.requires.room in
    omega (arith, long, room)

pub returns : goal.returns
returns c =
    let e = c.args.entry.now in
    let items = c.items.result.now in
    let reading = written c.clear.new.self c.expand.new.out items (items_of e c.at.result) c.clear.ensures.value c.in_ok-expand.ensures.ok c.items.ensures.value
    ∙ ap (λ o. words_of (items_of e o)) c.at.ensures.value in
    record {
      words = part_adds (program_with c.args.code.now) c.args.heads.now e Single items c.args.cells.now c.write_part.new.cells reading c.in_ok-write_part.ensures.words;
    }
