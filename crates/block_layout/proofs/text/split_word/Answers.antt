use Rattle.std.proofs.Common.{refl, sym}
use Rattle.block_layout.proofs.LineFields.{gap_found, no_end, no_mark, gap_same}
use Rattle.block_layout.proofs.text.split_word.Goals as goal

pub returns-in_err-end-clause-only : goal.returns-in_err-end-clause-only
returns-in_err-end-clause-only c = λ word rest h. absurd (no_end c.args.text.now word rest c.in_err-end.ensures h)

pub returns-in_err-gap-clause-only : goal.returns-in_err-gap-clause-only
returns-in_err-gap-clause-only c = λ word rest h. absurd (no_mark c.args.text.now c.split_at.result.1.now word rest c.in_ok-end.end c.in_ok-end.ensures c.split_at.ensures.back c.in_err-gap.ensures h)

pub returns-clause-some : goal.returns-clause-some
returns-clause-some c = gap_found c.args.text.now c.split_at.result.0.now c.split_at.result.1.now _ c.in_ok-end.end c.in_ok-gap.gap (sym c.in_ok-end.ensures) c.split_at.ensures.front c.split_at.ensures.back (sym c.in_ok-gap.ensures) refl

pub returns-clause-only : goal.returns-clause-only
returns-clause-only c = λ word rest h. gap_same c.args.text.now c.split_at.result.0.now c.split_at.result.1.now _ word rest c.in_ok-end.end c.in_ok-gap.gap c.in_ok-end.ensures c.split_at.ensures.front c.split_at.ensures.back c.in_ok-gap.ensures refl h
