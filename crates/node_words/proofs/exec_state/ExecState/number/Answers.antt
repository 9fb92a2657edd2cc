use Rattle.std.proofs.Common.{◌+◌, ◌%◌, ◌^◌, refl, arith}
use Rattle.node_words.proofs.ReachLemmas.{Code, code_of}
use Rattle.node_words.proofs.StrideLemmas.{as_many}
use Rattle.node_words.proofs.AlongLemmas.{strides_straight}
use Rattle.node_words.proofs.WholeLemmas.{number_goes, stands_low}
use Rattle.node_words.proofs.exec_state.ExecState.number.Goals as goal

pub returns-clause-strides : goal.returns-clause-strides
returns-clause-strides c image few are =
    let b = c.args.self.now in
    let at = c.args.going.now.at in
    let there = c.requires.there in
    let code : Code = code_of b image c.args.micros.now few are in
    let many = as_many image c.args.micros.now are in
    let inside = there.next in
    let next = c.on.ensures.at in
    let last = stands_low code (at + 1) there.lower there.lower_there in
    strides_straight image 2 2 2 c.args.going.now c.on.new.self b c.put_number.new.self c.on.ensures.left (omega arith)
    (omega arith) (omega arith) (omega (arith, inside, many)) (omega (arith, next, last))
    (number_goes code at c.on.new.self.at ((there.upper.imm + there.lower.imm) % 2 ^ 32) there.upper.rd b
    c.put_number.new.self refl there refl refl next
    (c.put_number.ensures.lane there.upper there.lower there.upper_there there.lower_there) c.put_number.ensures.local)
