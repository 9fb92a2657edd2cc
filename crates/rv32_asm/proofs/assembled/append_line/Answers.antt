use Rattle.std.proofs.Common.{ℕ, Option, Ok, subst}
use Rattle.rv32_lines.specs.Reading.{IsReadStatement}
use Rattle.rv32_asm.specs.Standing.{IsSoundLine, IsFoundWord}
use Rattle.rv32_asm.proofs.Appending.{bytes_read, bytes_on, word_on, space_on, word_none, word_err, word_added}
use Rattle.rv32_asm.proofs.assembled.append_line.Goals as goal

pub append_bytes-requires : goal.append_bytes-requires
append_bytes-requires c =
    let q = c.requires.sound in
    bytes_read c.in-Bytes.digits q.2 (subst (λ x. IsReadStatement x q.2) c.in-Bytes.is q.3.read_so)

pub returns-in-Bytes : goal.returns-in-Bytes
returns-in-Bytes c = λ all before s l.
    bytes_on c.append_bytes.result all before c.in-Bytes.digits s c.args.bytes.now.items c.append_bytes.new.out.items
    (subst (λ x. IsReadStatement x s) c.in-Bytes.is l.read_so)
    c.append_bytes.ensures

pub returns-in-Word : goal.returns-in-Word
returns-in-Word c = λ all before s l.
    word_on c.append_word.result all before c.in-Word.word s c.args.bytes.now.items c.append_word.new.bytes.items
    (subst (λ x. IsReadStatement x s) c.in-Word.is l.read_so)
    c.append_word.ensures.value

pub returns-in-Space : goal.returns-in-Space
returns-in-Space c = λ all before s l.
    space_on c.append_zeros.result all before c.in-Space.count s c.args.bytes.now.items c.append_zeros.new.bytes.items
    (subst (λ x. IsReadStatement x s) c.in-Space.is l.read_so)
    c.append_zeros.ensures

pub returns-in-Ok-Some : goal.returns-in-Ok-Some
returns-in-Ok-Some c = λ all before s l.
    word_added c.append_word-in-Ok-Some.result c.args.labels.now c.in-Instruction.command c.args.at all before s
    c.in-Ok-Some.word c.args.bytes.now.items
    c.append_word-in-Ok-Some.new.bytes.items
    (subst (λ x. IsSoundLine c.args.labels.now x c.args.at all before s) c.in-Instruction.is l)
    c.append_word-in-Ok-Some.ensures.low
    (λ w i r. subst (λ (o : Option ℕ). IsFoundWord all c.args.at w (Ok o)) c.in-Ok-Some.field-0-is
    (c.in-Ok-Some.ensures all w l.labels_are i r)) c.append_word-in-Ok-Some.ensures.value

pub returns-in-Ok-None : goal.returns-in-Ok-None
returns-in-Ok-None c = λ all before s l.
    absurd (word_none c.args.labels.now c.in-Instruction.command c.args.at all before s
    (subst (λ x. IsSoundLine c.args.labels.now x c.args.at all before s) c.in-Instruction.is l)
    (λ w i r. subst (λ (o : Option ℕ). IsFoundWord all c.args.at w (Ok o)) c.in-Ok-None.field-0-is
    (c.in-Ok-None.ensures all w l.labels_are i r)))

pub returns-in-Err : goal.returns-in-Err
returns-in-Err c = λ all before s l.
    absurd (word_err c.args.labels.now c.in-Instruction.command c.args.at all before s c.in-Err.field-0
    (subst (λ x. IsSoundLine c.args.labels.now x c.args.at all before s) c.in-Instruction.is l)
    (λ w i r. c.in-Err.ensures all w l.labels_are i r))
