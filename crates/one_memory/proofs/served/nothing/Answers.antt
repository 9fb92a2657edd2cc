use Rattle.std.proofs.Common.{refl}
use Rattle.rv32_step.specs.Registers.{registers_of}
use Rattle.rv32_step.specs.declared.Demand.TheVariants.{Continues}
use Rattle.one_memory.specs.Going.{place_of}
use Rattle.one_memory.proofs.GoingLemmas.{continues, goes_by}
use Rattle.one_memory.proofs.served.nothing.Goals as goal

pub returns-clause-goes : goal.returns-clause-goes
returns-clause-goes c p m b =
    let from = c.args.going.now in
    let to = c.on.new.self in
    goes_by p c.args.op.now Continues m m b b from to (c.requires.means (registers_of b.registers))
    (continues p (place_of from) (place_of to) m b c.on.ensures.place) c.on.ensures.extent c.on.ensures.left refl refl
