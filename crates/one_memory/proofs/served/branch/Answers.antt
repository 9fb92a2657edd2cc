use Rattle.std.proofs.Common.{ℕ, refl, sym, ap, ◌∙◌, subst}
use Rattle.rv32_ops.specs.Operations.{taken}
use Rattle.rv32_step.specs.Demands.{branch_demand}
use Rattle.rv32_step.specs.declared.Demand.TheVariants.{Branches, Continues}
use Rattle.micro_op.specs.Micro.{Demands, index_address}
use Rattle.one_memory.specs.Going.{place_of}
use Rattle.one_memory.specs.Machine.{Meets}
use Rattle.one_memory.specs.declared.processor.StepTarget.TheVariants.{To}
use Rattle.one_memory.proofs.GoingLemmas.{branches_to, continues, goes_by}
use Rattle.one_memory.proofs.served.branch.Goals as goal

pub returns-then-taken-clause-goes : goal.returns-then-taken-clause-goes
returns-then-taken-clause-goes c p m =
    let op = c.args.op.now in
    let b = c.args.body.now in
    let from = c.args.going.now in
    let to = c.to.new.self in
    let is = (λ t. taken c.args.c (sym c.get.ensures t) (sym c.get-2.ensures t)) ∙ sym c.taken.ensures ∙ c.if-taken.true in
    goes_by p op (Branches (index_address 0 op.imm)) m m b b from to
    (c.requires.means ∙ ap (λ t. Demands (branch_demand t (index_address 0 op.imm))) is)
    (subst (λ (i : ℕ). Meets p (Branches (index_address 0 op.imm)) (place_of from) m b m b (To i)) (sym c.to.ensures.place)
    (branches_to p (place_of from) op.imm m b)) c.to.ensures.extent c.to.ensures.left refl refl

pub returns-else-taken-clause-goes : goal.returns-else-taken-clause-goes
returns-else-taken-clause-goes c p m =
    let op = c.args.op.now in
    let b = c.args.body.now in
    let from = c.args.going.now in
    let to = c.on.new.self in
    let is = (λ t. taken c.args.c (sym c.get.ensures t) (sym c.get-2.ensures t)) ∙ sym c.taken.ensures ∙ c.if-taken.false in
    goes_by p op Continues m m b b from to
    (c.requires.means ∙ ap (λ t. Demands (branch_demand t (index_address 0 op.imm))) is)
    (continues p (place_of from) (place_of to) m b c.on.ensures.place) c.on.ensures.extent c.on.ensures.left refl refl
