use Rattle.std.proofs.Common.{◌+◌, take, sym, ap, ◌∙◌, arith, inr, refl}
use Rattle.rv32_asm.proofs.Going.{cut_at, line_of, sound_first, sound_next, sound_all, broken_at, lengths}
use Rattle.rv32_asm.proofs.rules.first_fault.Goals as goal

pub loop-line-init : goal.loop-line-init
loop-line-init c = record {
  room = omega (arith, c.first-place.ensures.none);
  so_far = λ all r l. sound_first all c.first-place.result c.first-place.ensures.value;
}

pub returns-in-Some : goal.returns-in-Some
returns-in-Some c = λ all r l.
    let h = c.loop-line.invariant.so_far all r l in
    let x = c.index-statements-line.result in
    let cut = cut_at c.args.statements.now all c.loop-line.line x r (omega (arith, c.loop-line-test.true))
    (sym c.index-statements-line.is) in
    broken_at c.args.statements.now all c.loop-line.line x c.loop-line.place c.loop-line.has_entry c.in-Some.rule cut h
    (c.in-Some.ensures all (take c.loop-line.line all) cut.statement
    (line_of c.args.labels.now c.args.statements.now all c.loop-line.line x c.loop-line.place c.loop-line.has_entry l
    cut h))

pub loop-line-preserved : goal.loop-line-preserved
loop-line-preserved c = record {
  room = omega (arith, c.loop-line.invariant.room, c.behind-place.ensures.grows);
  so_far = λ all r l.
      let h = c.loop-line.invariant.so_far all r l in
      let x = c.index-statements-line.result in
      let cut = cut_at c.args.statements.now all c.loop-line.line x r (omega (arith, c.loop-line-test.true))
      (sym c.index-statements-line.is) in
      sound_next c.args.statements.now all c.loop-line.line x c.loop-line.place c.behind-place.result
      c.loop-line.has_entry c.has_entry_behind-has_entry.result cut h
      c.behind-place.ensures.value
      (c.has_entry_behind-has_entry.ensures (take c.loop-line.line all) cut.statement cut.read_so)
      (c.in_default.ensures all (take c.loop-line.line all) cut.statement
      (line_of c.args.labels.now c.args.statements.now all c.loop-line.line x c.loop-line.place c.loop-line.has_entry l
      cut h));
}

pub returns-then-place-eq0 : goal.returns-then-place-eq0
returns-then-place-eq0 c = λ all r l.
    let s = sound_all c.args.statements.now all c.loop-line.line c.loop-line.place c.loop-line.has_entry r
    (omega (arith, c.loop-line-test.false)) (c.loop-line.invariant.so_far all r l) in
    inr (record {
      rule_is = refl;
      line_is = ap (λ n. n + 1) (lengths c.args.statements.now all r);
      sound = s.0;
      empty = sym (ap (λ p. p.segments) s.1) ∙ omega (arith, c.if-place-eq0.true);
    })

pub returns : goal.returns
returns c = λ all r l.
    let s = sound_all c.args.statements.now all c.loop-line.line c.loop-line.place c.loop-line.has_entry r
    (omega (arith, c.loop-line-test.false)) (c.loop-line.invariant.so_far all r l) in
    (s.0, λ e. c.if-place-eq0.false (ap (λ p. p.segments) s.1 ∙ e))
