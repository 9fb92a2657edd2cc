use Rattle.std.proofs.Common.{◌≡◌, true, sym, ap, ◌∙◌, refl}
use Rattle.rv32_decode.specs.declared.Width.TheVariants.{Word}
use Rattle.rv32_decode.specs.Widths.{is_aligned}
use Rattle.rv32_program.specs.Program.{is_writable}
use Rattle.llsc.specs.Reservation.{holds}
use Rattle.one_memory.specs.Machine.{reserved_in}
use Rattle.one_memory.proofs.ReadLemmas.{class_in}
use Rattle.one_memory.proofs.StoreLemmas.{met_conditional}
use Rattle.one_memory.proofs.processor.store_conditional.Goals as goal

pub returns-clause-ok : goal.returns-clause-ok
returns-clause-ok c =
    let m = c.args.memory.now in
    let a = c.args.address in
    let aligned : is_aligned Word a ≡ true = sym c.is_aligned.ensures.value ∙ c.if-not-is_aligned.false in
    let may : true ≡ is_writable (class_in m a) = sym c.if-not-may_store.false ∙ c.may_store.ensures in
    let reserved : holds (reserved_in m.reserved c.args.p) a ≡ true = ap (λ o. holds o a) (sym c.reservation.ensures) ∙ sym c.holds.ensures ∙ c.if-not-holds.false in
    let stored = c.put_at.ensures.stored (c.put_at.ensures.may ∙ sym may) in
    met_conditional c.args.p c.args.at c.args.r a c.args.value m c.put_at.new.memory c.reserve-2.new.self c.args.body.now c.put_at.new.body _ aligned may reserved stored c.set-2.ensures refl refl c.reserve-2.ensures.rest c.reserve-2.ensures.reserved
