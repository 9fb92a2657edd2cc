use Rattle.std.proofs.Common.{take, sym, arith}
use Rattle.rv32_asm.proofs.Going.{cut_at}
use Rattle.rv32_asm.proofs.Collecting.{bytes_first, bytes_next, bytes_all, sound_line}
use Rattle.rv32_asm.proofs.assembled.append_lines.Goals as goal

pub loop-statement-init : goal.loop-statement-init
loop-statement-init c = record {
  room = omega (arith, c.first-place.ensures.none);
  so_far = λ all r. bytes_first all c.first-place.result c.args.bytes.now.items c.first-place.ensures.value;
}

pub append_line-requires-clause-sound : goal.append_line-requires-clause-sound
append_line-requires-clause-sound c =
    let all = c.requires.0 in
    let r = c.requires.1 in
    let h = c.loop-statement.invariant.so_far all r in
    let line = c.loop-statement.statement-index in
    let x = c.statement-item.result in
    let cut = cut_at c.args.statements.now all line x r.read_so (omega (arith, c.loop-statement-test.true))
    (sym c.statement-item.is) in (
      all,
      take line all,
      cut.statement,
      sound_line c.args.labels.now c.args.statements.now all line x
          c.loop-statement.place c.here.result r cut h.place_is c.here.ensures.value,
    )

pub loop-statement-preserved : goal.loop-statement-preserved
loop-statement-preserved c = record {
  room = omega (arith, c.loop-statement.invariant.room, c.behind-place.ensures.grows);
  so_far = λ all r.
      let h = c.loop-statement.invariant.so_far all r in
      let line = c.loop-statement.statement-index in
      let x = c.statement-item.result in
      let cut = cut_at c.args.statements.now all line x r.read_so (omega (arith, c.loop-statement-test.true))
      (sym c.statement-item.is) in
      bytes_next c.args.statements.now all line x c.loop-statement.place c.behind-place.result c.args.bytes.now.items
      c.loop-statement.bytes.items c.append_line.new.bytes.items cut h
      c.behind-place.ensures.value
      (c.in_ok-append_line.ensures all (take line all) cut.statement
      (sound_line c.args.labels.now c.args.statements.now all line x c.loop-statement.place c.here.result r cut
      h.place_is c.here.ensures.value));
}

pub returns : goal.returns
returns c = λ all r.
    bytes_all c.args.statements.now c.args.labels.now all c.loop-statement.statement-index c.loop-statement.place
    c.args.bytes.now.items c.loop-statement.bytes.items r
    (omega (arith, c.loop-statement-test.false)) (c.loop-statement.invariant.so_far all r)
