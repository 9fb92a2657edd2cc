use Rattle.rv32_lines.proofs.Saying.{segment_some, segment_only, bytes_some, bytes_only, word_some, word_only, space_some, space_only, zero_some, zero_only}
use Rattle.rv32_lines.proofs.statements.directive.Goals as goal

pub returns-in-Some-clause-some : goal.returns-in-Some-clause-some
returns-in-Some-clause-some c =
    segment_some c.args.line.now c.in-Some.rest.now c.segment.result c.in-Some.ensures.some c.segment.ensures.some

pub returns-in-Some-clause-only : goal.returns-in-Some-clause-only
returns-in-Some-clause-only c =
    segment_only c.args.line.now c.in-Some.rest.now c.segment.result c.in-Some.ensures.some c.segment.ensures.only

pub returns-in-Some-behind-clause-some : goal.returns-in-Some-behind-clause-some
returns-in-Some-behind-clause-some c =
    bytes_some c.args.line.now c.in-Some-behind.digits.now c.bytes.result c.in-Some-behind.ensures.some
    c.bytes.ensures.some

pub returns-in-Some-behind-clause-only : goal.returns-in-Some-behind-clause-only
returns-in-Some-behind-clause-only c =
    bytes_only c.args.line.now c.in-Some-behind.digits.now c.bytes.result c.in-Some-behind.ensures.some
    c.bytes.ensures.only

pub returns-in-Some-behind-2-clause-some : goal.returns-in-Some-behind-2-clause-some
returns-in-Some-behind-2-clause-some c =
    word_some c.args.line.now c.in-Some-behind-2.digits.now c.word.result c.in-Some-behind-2.ensures.some
    c.word.ensures.some

pub returns-in-Some-behind-2-clause-only : goal.returns-in-Some-behind-2-clause-only
returns-in-Some-behind-2-clause-only c =
    word_only c.args.line.now c.in-Some-behind-2.digits.now c.word.result c.in-Some-behind-2.ensures.some
    c.word.ensures.only

pub returns-in-Some-behind-3-clause-some : goal.returns-in-Some-behind-3-clause-some
returns-in-Some-behind-3-clause-some c =
    space_some c.args.line.now c.in-Some-behind-3.digits.now c.space.result c.in-Some-behind-3.ensures.some
    c.space.ensures.some

pub returns-in-Some-behind-3-clause-only : goal.returns-in-Some-behind-3-clause-only
returns-in-Some-behind-3-clause-only c =
    space_only c.args.line.now c.in-Some-behind-3.digits.now c.space.result c.in-Some-behind-3.ensures.some
    c.space.ensures.only

pub returns-in-Some-behind-4-clause-some : goal.returns-in-Some-behind-4-clause-some
returns-in-Some-behind-4-clause-some c =
    zero_some c.args.line.now c.in-Some-behind-4.digits.now c.zero.result c.in-Some-behind-4.ensures.some
    c.zero.ensures.some

pub returns-in-Some-behind-4-clause-only : goal.returns-in-Some-behind-4-clause-only
returns-in-Some-behind-4-clause-only c =
    zero_only c.args.line.now c.in-Some-behind-4.digits.now c.zero.result c.in-Some-behind-4.ensures.some
    c.zero.ensures.only
