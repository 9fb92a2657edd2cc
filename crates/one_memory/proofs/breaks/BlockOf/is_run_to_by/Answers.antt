use Rattle.std.proofs.Common.{◌&&◌, ◌+◌, ◌-◌, ◌%◌, refl, sym, ap, ◌∙◌, arith}
use Rattle.std.specs.Prelude.{◌||◌}
use Rattle.exec_map.specs.Contents.{program_of}
use Rattle.one_memory.specs.Stretches.{reaches}
use Rattle.one_memory.proofs.BreakLemmas.{not_both, reaches_ended, reaches_both, reaches_none, reaches_other, reaches_next}
use Rattle.one_memory.proofs.breaks.BlockOf.is_run_to_by.Goals as goal

pub loop-left-init : goal.loop-left-init
loop-left-init c = refl

pub returns-then-accesses : goal.returns-then-accesses
returns-then-accesses c =
    let l = c.loop-left in
    sym (l.invariant ∙ reaches_both (program_of c.args.self.now.program.now) c.args.self.now.layout.now c.args.self.now.block c.args.base c.args.value l.left l.at l.stores l.accesses c.if-stores.true c.if-accesses.true)

pub returns-in_default : goal.returns-in_default
returns-in_default c =
    let l = c.loop-left in
    sym (l.invariant ∙ reaches_none (program_of c.args.self.now.program.now) c.args.self.now.layout.now c.args.self.now.block c.args.base c.args.value l.left l.at l.stores l.accesses (not_both l.stores l.accesses c.else-stores.either) c.in_default.ensures)

pub returns-then-not-is_plain_but : goal.returns-then-not-is_plain_but
returns-then-not-is_plain_but c =
    let l = c.loop-left in
    sym (l.invariant ∙ reaches_other (program_of c.args.self.now.program.now) c.args.self.now.layout.now c.args.self.now.block c.args.base c.args.value l.left l.at l.stores l.accesses c.in-Some.i (not_both l.stores l.accesses c.else-stores.either) c.in-Some.ensures (sym c.is_plain_but.ensures ∙ c.if-not-is_plain_but.true))

pub loop-left-preserved : goal.loop-left-preserved
loop-left-preserved c =
    let l = c.loop-left in
    l.invariant
    ∙ reaches_next (program_of c.args.self.now.program.now) c.args.self.now.layout.now c.args.self.now.block c.args.base c.args.value l.left (l.left - 1) l.at l.stores l.accesses c.in-Some.i (omega (arith, c.loop-left-test.true)) (not_both l.stores l.accesses c.else-stores.either) c.in-Some.ensures (sym c.is_plain_but.ensures ∙ c.if-not-is_plain_but.false)
    ∙ (λ t. reaches (program_of c.args.self.now.program.now) c.args.self.now.layout.now c.args.self.now.block c.args.base c.args.value (l.left - 1) ((l.at + 4) % 4294967296) (sym (c.either-stores.ensures ∙ ap (λ b. l.stores || b) c.stores_by.ensures) t) (sym (c.either-accesses.ensures ∙ ap (λ b. l.accesses || b) c.is_accessed.ensures) t))

pub returns-then-stores-2 : goal.returns-then-stores-2
returns-then-stores-2 c =
    let l = c.loop-left in
    sym (l.invariant ∙ reaches_ended (program_of c.args.self.now.program.now) c.args.self.now.layout.now c.args.self.now.block c.args.base c.args.value l.left l.at l.stores l.accesses (omega (arith, c.loop-left-test.false)) ∙ ap (λ s. s && l.accesses) c.if-stores-2.true)

pub returns-else-stores-2 : goal.returns-else-stores-2
returns-else-stores-2 c =
    let l = c.loop-left in
    sym (l.invariant ∙ reaches_ended (program_of c.args.self.now.program.now) c.args.self.now.layout.now c.args.self.now.block c.args.base c.args.value l.left l.at l.stores l.accesses (omega (arith, c.loop-left-test.false)) ∙ ap (λ s. s && l.accesses) c.if-stores-2.false ∙ sym c.if-stores-2.false)
