use Rattle.std.proofs.Common.{◌≡◌, ℕ, true, sym, ◌∙◌, subst}
use Rattle.rv32_decode.specs.Widths.{is_aligned}
use Rattle.rv32_program.specs.Program.{is_writable}
use Rattle.rv32_step.specs.declared.Demand.TheVariants.{Stores}
use Rattle.micro_op.specs.Micro.{Demands}
use Rattle.one_memory.specs.Going.{place_of}
use Rattle.one_memory.specs.Machine.{Meets}
use Rattle.one_memory.specs.declared.processor.StepTarget.TheVariants.{To}
use Rattle.one_memory.proofs.ReadLemmas.{class_in}
use Rattle.one_memory.proofs.StoreLemmas.{met_store}
use Rattle.one_memory.proofs.GoingLemmas.{goes_by, goes_still}
use Rattle.one_memory.proofs.served.store_by.Goals as goal

pub returns-clause-goes : goal.returns-clause-goes
returns-clause-goes c =
    let m = c.args.memory.now in
    let m1 = c.put_at.new.memory in
    let b = c.args.body.now in
    let b1 = c.put_at.new.body in
    let op = c.args.op.now in
    let w = c.args.width in
    let p = c.args.p in
    let from = c.args.going.now in
    let to = c.on.new.self in
    let at = place_of from in
    let a = c.sum_of-address.result in
    let v = c.get-value.result in
    let aligned : is_aligned w a ≡ true = sym c.is_aligned.ensures.value ∙ c.if-not-is_aligned.false in
    let may : true ≡ is_writable (class_in m a) = sym c.if-not-put_at.false ∙ c.put_at.ensures.may in
    let met = subst (λ (i : ℕ). Meets p (Stores w a v) at m b m1 b1 (To i)) (sym c.on.ensures.place)
    (met_store p at w a v m m1 b b1 aligned may (c.put_at.ensures.stored c.if-not-put_at.false)) in
    let means = c.requires.means ∙ (λ t. Demands (Stores w (sym c.sum_of-address.ensures t) (sym c.get-value.ensures t))) in
    goes_by p op (Stores w a v) m m1 b b1 from to means met c.on.ensures.extent c.on.ensures.left c.put_at.ensures.program
    c.put_at.ensures.layout

pub returns-then-not-put_at-clause-goes : goal.returns-then-not-put_at-clause-goes
returns-then-not-put_at-clause-goes c =
    goes_still c.args.p c.args.op.now c.args.memory.now c.put_at.new.memory c.args.body.now c.put_at.new.body
    c.args.going.now (c.put_at.ensures.kept_memory c.if-not-put_at.true) (c.put_at.ensures.kept_body c.if-not-put_at.true)
