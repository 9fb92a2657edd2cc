use Rattle.std.proofs.Common.{refl}
use Rattle.micro_op.specs.Micro.{index_address}
use Rattle.rv32_step.specs.declared.Demand.TheVariants.{Jumps}
use Rattle.one_memory.proofs.GoingLemmas.{goes_by}
use Rattle.one_memory.proofs.served.jump_by_index.Goals as goal

pub returns-clause-goes : goal.returns-clause-goes
returns-clause-goes c p m =
    let op = c.args.op.now in
    let j = c.jump_to in
    goes_by p op (Jumps op.rd (index_address 0 op.imm)) m m c.args.body.now j.new.body c.args.going.now j.new.going
    c.requires.means (j.ensures.meets p m) j.ensures.extent j.ensures.left refl refl
