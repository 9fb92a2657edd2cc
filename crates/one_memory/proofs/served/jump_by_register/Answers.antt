use Rattle.std.proofs.Common.{◌≡◌, ◌/◌, ◌*◌, refl, ap, ◌∙◌, arith}
use Rattle.rv32_step.specs.Registers.{registers_of}
use Rattle.rv32_step.specs.declared.Demand.TheVariants.{Jumps}
use Rattle.micro_op.specs.Micro.{Demands, index_address, sum_address}
use Rattle.one_memory.proofs.GoingLemmas.{goes_by}
use Rattle.one_memory.proofs.served.jump_by_register.Goals as goal

pub returns-clause-goes : goal.returns-clause-goes
returns-clause-goes c p m =
    let op = c.args.op.now in
    let b = c.args.body.now in
    let j = c.jump_to in
    let index = c.sum_of.result / 2 * 2 / 4 in
    let target : sum_address op (registers_of b.registers) / 2 * 2 ≡ index_address 0 index =
    omega (arith, c.sum_of.ensures, c.if-target-ne0.false) in
    goes_by p op (Jumps op.rd (index_address 0 index)) m m b j.new.body c.args.going.now j.new.going
    (c.requires.means ∙ ap (λ x. Demands (Jumps op.rd x)) target) (j.ensures.meets p m) j.ensures.extent j.ensures.left refl refl
