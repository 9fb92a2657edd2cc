use Rattle.std.proofs.Common.{◌≡◌, ◌++◌, take, drop, sym, ap, ◌∙◌, subst, arith}
use Rattle.std.proofs.lemmas.List.{append-nil, take-append-drop}
use Rattle.rv32_lines.specs.Reading.{IsReadStatement}
use Rattle.rv32_asm.specs.Standing.{place_of, IsClosable}
use Rattle.rv32_asm.proofs.Going.{cut_at, place_next}
use Rattle.rv32_asm.proofs.Limits.{closable}
use Rattle.rv32_asm.proofs.Dividing.{pieces_first, pieces_next, pieces_all, closed_before, closed_none, closed_some}
use Rattle.rv32_asm.proofs.assembled.pieces_of.Goals as goal
use Rattle.rv32_asm.proofs.assembled.pieces_of.Goals.{in-Segment+in_ok-close, in_default}

pub loop-statement-init : goal.loop-statement-init
loop-statement-init c = record {
  room = omega (arith, c.first-place.ensures.none);
  place_is = λ all r. c.first-place.ensures.value;
  so_far = λ all appended r fit.
      subst (λ items. Rattle.rv32_asm.proofs.Dividing.PiecesSoFar all appended 0 c.first-place.result items)
      (sym c.new-pieces.ensures.items)
      (pieces_first all appended c.first-place.result c.first-place.ensures.value fit);
}

pub close-requires : goal.close-requires
close-requires c =
    let all = c.requires.0 in
    let line = c.loop-statement.statement-index in
    subst IsClosable (sym (c.loop-statement.invariant.place_is all c.requires.1))
    (closable all (take line all) (drop line all) (sym (take-append-drop line all)) c.requires.2)

pub close-requires-2 : goal.close-requires-2
close-requires-2 c =
    let all = c.requires.0 in
    let line = c.loop-statement.statement-index in
    subst IsClosable (sym (c.loop-statement.invariant.place_is all c.requires.1))
    (closable all (take line all) (drop line all) (sym (take-append-drop line all)) c.requires.2)

pub loop-statement-preserved : goal.loop-statement-preserved
loop-statement-preserved c = record {
  room = omega (arith, c.loop-statement.invariant.room, c.behind-place.ensures.grows);
  place_is = λ all r.
      let line = c.loop-statement.statement-index in
      let x = c.statement-item.result in
      let cut = cut_at c.args.statements.now all line x r (omega (arith, c.loop-statement-test.true))
      (sym c.statement-item.is) in
      place_next c.args.statements.now all line x c.loop-statement.place c.behind-place.result cut
      (c.loop-statement.invariant.place_is all r) c.behind-place.ensures.value;
  so_far = λ all appended r fit.
      let line = c.loop-statement.statement-index in
      let x = c.statement-item.result in
      let old = c.loop-statement.pieces.items in
      let new = c.match-statement.pieces.items in
      let cut = cut_at c.args.statements.now all line x r (omega (arith, c.loop-statement-test.true))
      (sym c.statement-item.is) in
      let p = place_of c.loop-statement.place in
      let grown : new ≡ old ++ closed_before p cut.statement =
      elim c.match-statement.branch [
        | in-Segment+in_ok-close w ↦
            ap (λ v. v.items) w.pieces-is
            ∙ w.in_ok-close.ensures
            ∙ ap (λ t. old ++ t) (closed_some p w.in-Segment.flags w.in-Segment.start cut.statement
            (subst (λ y. IsReadStatement y cut.statement) w.in-Segment.is cut.read_so))
        | in_default w ↦
            ap (λ v. v.items) w.pieces-is ∙ sym (append-nil old)
            ∙ ap (λ t. old ++ t) (sym (closed_none p x cut.statement cut.read_so w.in_default.not-Segment))
      ] in
      pieces_next c.args.statements.now all appended line x c.loop-statement.place c.behind-place.result old new cut
      (c.loop-statement.invariant.so_far all appended r fit)
      c.behind-place.ensures.value grown;
}

pub returns : goal.returns
returns c = λ all appended r sound fit.
    pieces_all c.args.statements.now all appended c.loop-statement.statement-index c.loop-statement.place
    c.loop-statement.pieces.items c.close-2.new.pieces.items r
    (omega (arith, c.loop-statement-test.false)) (c.loop-statement.invariant.so_far all appended r fit)
    c.in_ok-close-2.ensures
