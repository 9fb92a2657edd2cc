use Rattle.std.proofs.Common.{◌≡◌, ℕ, ◌+◌, ◌*◌, ◌%◌, ◌^◌, ◌<◌, sym, ◌∙◌, refl, arith}
use Rattle.std.proofs.lemmas.Nat.{and_mask}
use Rattle.std.specs.Prelude.{bit_and, bit_or}
use Rattle.node_memory.specs.jump_map.Strides.{skip}
use Rattle.node_words.specs.Strides.{checked, state_at}
use Rattle.node_words.proofs.StrideLemmas.{as_many}
use Rattle.node_words.proofs.AlongLemmas.{strides_crossing}
use Rattle.node_words.proofs.ReachLemmas.{Code, code_of}
use Rattle.node_words.proofs.WholeLemmas.{stands_low, write_head_goes}
use Rattle.node_words.proofs.exec_state.ExecState.write_head.Goals as goal

-- a byte of which all bits are clear
no_bits : (n : ℕ) → n < 2 ^ 8 → bit_and n 255 ≡ 0 → n ≡ 0
no_bits n small clear =
    let low : n % 2 ^ 8 ≡ 0 = sym (and_mask n 8) ∙ clear in
    omega (arith, small, low)

pub returns-then-head-clause-strides : goal.returns-then-head-clause-strides
returns-then-head-clause-strides c image few are =
    let b = c.args.self.now in
    let at = c.args.going.now.at in
    let n = c.args.spilled in
    let there = c.requires.there in
    let h = there.head in
    let code : Code = code_of b image c.args.micros.now few are in
    let many = as_many image c.args.micros.now are in
    let inside = there.next in
    let next = c.on.ensures.at in
    let left = c.on.ensures.left in
    let some = c.requires.few in
    let last = stands_low code (at + n + 10 + 0) (skip h.x.s (at + n + 15)) (there.test 0 _ refl) in
    let both = bit_or (state_at b h.x.base h.x.imm) (state_at b h.x.base h.high) in
    strides_crossing image (checked (15 + 2 * n) n) (11 + n) (at + n + 15) n c.args.going.now c.on.new.self b c.head.new.self
    (omega (arith, left)) (omega arith) refl (omega (arith, next)) (omega arith) (omega arith) (omega arith)
    (omega (arith, inside, many)) (omega (arith, next, some, last))
    (write_head_goes code at c.on.new.self.at n b c.head.new.self refl some there
    (no_bits both (c.if-head.ensures.small refl h) (c.if-head.ensures.clear refl h)) next (c.if-head.ensures.lane refl h)
    c.head.ensures.local)
