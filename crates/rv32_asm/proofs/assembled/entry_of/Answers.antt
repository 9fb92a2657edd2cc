use Rattle.std.proofs.Common.{ℕ, Option, sym, ap, ◌∙◌, subst, arith}
use Rattle.std.specs.Option.{option_or}
use Rattle.std.specs.Prelude.{unwrap_or}
use Rattle.rv32_lines.specs.Reading.{IsReadStatement}
use Rattle.rv32_asm.proofs.Going.{cut_at}
use Rattle.rv32_asm.proofs.Entering.{entry_low, entry_found, entry_next, segment_entry, other_entry, first_found, or_none}
use Rattle.rv32_asm.proofs.assembled.entry_of.Goals as goal
use Rattle.rv32_asm.proofs.assembled.entry_of.Goals.{in-Segment, in_default}

pub address_of-requires : goal.address_of-requires
address_of-requires c =
    let all = c.requires.0 in
    let r = c.requires.1 in
    let line = c.loop-statement.statement-index in
    let x = c.statement-item.result in
    let cut = cut_at c.args.statements.now all line x r.read_so (omega (arith, c.loop-statement-test.true))
    (sym c.statement-item.is) in
    entry_low c.args.labels.now c.args.statements.now all line x c.in-Entry.name r cut c.in-Entry.is

pub returns-in-Entry : goal.returns-in-Entry
returns-in-Entry c = λ all r.
    let line = c.loop-statement.statement-index in
    let x = c.statement-item.result in
    let cut = cut_at c.args.statements.now all line x r.read_so (omega (arith, c.loop-statement-test.true))
    (sym c.statement-item.is) in
    entry_found c.args.labels.now c.args.statements.now all line x c.in-Entry.name c.loop-statement.first
    c.address_of.result r cut (c.loop-statement.invariant all r) c.in-Entry.is
    (λ address n. c.address_of.ensures all r.labels_are address n)

pub loop-statement-preserved : goal.loop-statement-preserved
loop-statement-preserved c = λ all r.
    let line = c.loop-statement.statement-index in
    let x = c.statement-item.result in
    let cut = cut_at c.args.statements.now all line x r.read_so (omega (arith, c.loop-statement-test.true))
    (sym c.statement-item.is) in
    let h = c.loop-statement.invariant all r in
    elim c.match-statement.branch [
      | in-Segment w ↦
          (let o = segment_entry w.in-Segment.flags w.in-Segment.start cut.statement
          (subst (λ y. IsReadStatement y cut.statement) w.in-Segment.is cut.read_so) in
          entry_next c.args.statements.now all line x c.loop-statement.first c.match-statement.first cut h o.0
          (w.first-is ∙ w.or-first.ensures ∙ ap (option_or c.loop-statement.first) (sym o.1)))
      | in_default w ↦
          (let o = other_entry x cut.statement cut.read_so w.in_default.not-Segment w.in_default.not-Entry in
          entry_next c.args.statements.now all line x c.loop-statement.first c.match-statement.first cut h o.0
          (w.first-is ∙ sym (or_none c.loop-statement.first) ∙ ap (option_or c.loop-statement.first) (sym o.1)))
    ]

pub returns : goal.returns
returns c = λ all r.
    first_found c.args.labels.now c.args.statements.now all c.loop-statement.statement-index c.loop-statement.first
    c.unwrap_or.result r
    (omega (arith, c.loop-statement-test.false)) (c.loop-statement.invariant all r)
    (λ start e. c.unwrap_or.ensures ∙ ap (λ (o : Option ℕ). unwrap_or o 0) e)
