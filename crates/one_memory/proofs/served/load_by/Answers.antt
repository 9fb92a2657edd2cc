use Rattle.std.proofs.Common.{◌≡◌, true, refl, sym, ap, ◌∙◌, subst}
use Rattle.rv32_decode.specs.Widths.{is_aligned, width_of}
use Rattle.rv32_step.specs.declared.Demand.TheVariants.{Sets, Loads}
use Rattle.micro_op.specs.Micro.{Demands}
use Rattle.one_memory.specs.Going.{place_of}
use Rattle.one_memory.specs.Machine.{Meets}
use Rattle.one_memory.specs.declared.processor.OriginalState.{OriginalState}
use Rattle.one_memory.specs.declared.processor.StepTarget.TheVariants.{To}
use Rattle.one_memory.proofs.ReadLemmas.{IsRead}
use Rattle.one_memory.proofs.StepLemmas.{loaded_set}
use Rattle.one_memory.proofs.GoingLemmas.{goes_by, sets_next}
use Rattle.one_memory.proofs.served.load_by.Goals as goal

pub returns-in-Some-clause-goes : goal.returns-in-Some-clause-goes
returns-in-Some-clause-goes c p =
    let m = c.args.memory.now in
    let b = c.args.body.now in
    let b' : OriginalState = record b { registers = c.set.new.self } in
    let op = c.args.op.now in
    let kind = c.args.kind in
    let from = c.args.going.now in
    let to = c.on.new.self in
    let a = c.sum_of-address.result in
    let n = c.in-Some.number in
    let width = c.width-width.ensures.value in
    let aligned : is_aligned (width_of kind) a ≡ true = ap (λ w. is_aligned w a) (sym width) ∙ sym c.is_aligned.ensures.value ∙ c.if-not-is_aligned.false in
    let read : IsRead m b (width_of kind) a n = rw width at c.in-Some.ensures in
    let set = subst (λ v. Meets p (Sets op.rd v) (place_of from) m b m b' (To (place_of to))) c.extend.ensures
    (sets_next p (place_of from) (place_of to) op.rd c.extend.result m b b' c.on.ensures.place c.set.ensures refl refl) in
    goes_by p op (Loads kind op.rd a) m m b b' from to
    (c.requires.means ∙ ap (λ x. Demands (Loads kind op.rd x)) (sym c.sum_of-address.ensures))
    (loaded_set p (place_of from) m b b' kind op.rd a n (To (place_of to)) aligned read set)
    c.on.ensures.extent c.on.ensures.left refl refl
