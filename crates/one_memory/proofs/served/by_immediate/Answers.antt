use Rattle.std.proofs.Common.{refl, sym, ap, ◌∙◌}
use Rattle.rv32_ops.specs.Operations.{alu}
use Rattle.rv32_step.specs.declared.Demand.TheVariants.{Sets}
use Rattle.micro_op.specs.Micro.{Demands}
use Rattle.one_memory.specs.declared.processor.OriginalState.{OriginalState}
use Rattle.one_memory.specs.Going.{place_of}
use Rattle.one_memory.proofs.GoingLemmas.{goes_by, sets_next}
use Rattle.one_memory.proofs.served.by_immediate.Goals as goal

pub returns-clause-goes : goal.returns-clause-goes
returns-clause-goes c p m =
    let op = c.args.op.now in
    let from = c.args.going.now in
    let to = c.on.new.self in
    let b = c.args.body.now in
    let b' : OriginalState = record b { registers = c.set.new.self } in
    let v = c.alu-value.result in
    let value = c.alu-value.ensures ∙ ap (λ a. alu c.args.o a op.imm) c.get.ensures in
    goes_by p op (Sets op.rd v) m m b b' from to (c.requires.means ∙ ap (λ x. Demands (Sets op.rd x)) (sym value))
    (sets_next p (place_of from) (place_of to) op.rd v m b b' c.on.ensures.place c.set.ensures refl refl)
    c.on.ensures.extent c.on.ensures.left refl refl
