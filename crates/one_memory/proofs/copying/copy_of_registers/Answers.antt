use Rattle.std.proofs.Common.{◌≡◌, ℕ, ◌<◌, List, sym, ap, ◌∙◌, subst, arith}
use Rattle.rv32_step.specs.Registers.{registers_of, put, reg}
use Rattle.one_memory.specs.Contained.{AreRegisters}
use Rattle.one_memory.proofs.ContainedLemmas.{first_registers, registers_put}
use Rattle.one_memory.proofs.CopyLemmas.{none_set, one_set, all_set}
use Rattle.one_memory.proofs.copying.copy_of_registers.Goals as goal

pub loop-number-init : goal.loop-number-init
loop-number-init c =
    none_set (registers_of c.args.from.now) (registers_of c.first-registers.result)
    (subst (λ (values : List ℕ). AreRegisters (registers_of values)) (sym c.first-registers.ensures) (first_registers 0 0))

pub loop-number-preserved : goal.loop-number-preserved
loop-number-preserved c =
    let from = registers_of c.args.from.now in
    let now = registers_of c.loop-number.registers in
    let n = c.loop-number.number in
    let v = c.get.result in
    let is : v ≡ reg from n = c.get.ensures ∙ ap (reg from) c.new-r.ensures in
    let made : registers_of c.set.new.self ≡ put now n v = c.set.ensures ∙ ap (λ (r : ℕ). put now r v) c.new-r.ensures in
    let low : n < 32 = omega (arith, c.loop-number-test.true) in
    one_set from now (registers_of c.set.new.self) n v c.loop-number.invariant is made
    (subst AreRegisters (sym made) (registers_put now n v low c.loop-number.invariant.rest))

pub returns : goal.returns
returns c = λ is.
    all_set (registers_of c.args.from.now) (registers_of c.loop-number.registers) c.loop-number.number (omega (arith, c.loop-number-test.false, c.loop-number.auto.number-end)) c.loop-number.invariant is
