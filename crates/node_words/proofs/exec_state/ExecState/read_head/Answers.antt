use Rattle.std.proofs.Common.{◌+◌, ◌*◌, refl, arith}
use Rattle.node_memory.specs.jump_map.Strides.{skip}
use Rattle.node_words.proofs.ReachLemmas.{Code, code_of}
use Rattle.node_words.specs.Strides.{checked}
use Rattle.node_words.proofs.StrideLemmas.{as_many}
use Rattle.node_words.proofs.AlongLemmas.{strides_crossing}
use Rattle.node_words.proofs.WholeLemmas.{read_head_goes, stands_low}
use Rattle.node_words.proofs.exec_state.ExecState.read_head.Goals as goal

pub returns-then-head-clause-strides : goal.returns-then-head-clause-strides
returns-then-head-clause-strides c image few are =
    let b = c.args.self.now in
    let at = c.args.going.now.at in
    let n = c.args.spilled in
    let there = c.requires.there in
    let code : Code = code_of b image c.args.micros.now few are in
    let many = as_many image c.args.micros.now are in
    let inside = there.next in
    let next = c.on.ensures.at in
    let left = c.on.ensures.left in
    let some = c.requires.few in
    let last = stands_low code (at + n + 10 + 1) (skip there.head.x.s (at + n + 16)) (there.test 1 _ refl) in
    strides_crossing image (checked (16 + 2 * n) n) (12 + n) (at + n + 16) n c.args.going.now c.on.new.self b c.head.new.self
    (omega (arith, left)) (omega arith) refl (omega (arith, next)) (omega arith) (omega arith) (omega arith)
    (omega (arith, inside, many)) (omega (arith, next, some, last))
    (read_head_goes code at c.on.new.self.at n b c.head.new.self refl some there
    (c.if-head.ensures.clear refl there.head) next (c.if-head.ensures.lane refl there.head) c.head.ensures.local)
