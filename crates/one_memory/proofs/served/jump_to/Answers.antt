use Rattle.std.proofs.Common.{◌≡◌, ℕ, refl, subst, sym, arith}
use Rattle.rv32_step.specs.OneMemory.{next_pc}
use Rattle.rv32_step.specs.declared.Demand.TheVariants.{Jumps}
use Rattle.micro_op.specs.Micro.{index_address}
use Rattle.one_memory.specs.Going.{place_of}
use Rattle.one_memory.specs.Machine.{Meets}
use Rattle.one_memory.specs.declared.processor.OriginalState.{OriginalState}
use Rattle.one_memory.specs.declared.processor.StepTarget.TheVariants.{To}
use Rattle.one_memory.proofs.GoingLemmas.{jumps_to}
use Rattle.one_memory.proofs.served.jump_to.Goals as goal

pub returns-clause-meets : goal.returns-clause-meets
returns-clause-meets c p m =
    let from = c.args.going.now in
    let b = c.args.body.now in
    let b' : OriginalState = record b { registers = c.set.new.self } in
    let link = c.address_of.result in
    let is : link ≡ next_pc (index_address 0 (place_of from)) = omega (arith, c.address_of.ensures, c.index.ensures) in
    subst (λ (i : ℕ). Meets p (Jumps c.args.r (index_address 0 c.args.index)) (place_of from) m b m b' (To i)) (sym c.to.ensures.place)
    (jumps_to p (place_of from) c.args.index link c.args.r m b b' is c.set.ensures refl refl)
