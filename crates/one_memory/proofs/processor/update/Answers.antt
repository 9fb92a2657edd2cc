use Rattle.std.proofs.Common.{◌≡◌, true, sym, ◌∙◌, refl}
use Rattle.rv32_decode.specs.declared.Width.TheVariants.{Word}
use Rattle.rv32_decode.specs.Widths.{is_aligned}
use Rattle.one_memory.proofs.StoreLemmas.{met_update}
use Rattle.one_memory.proofs.processor.update.Goals as goal

pub returns-then-put_at-clause-ok : goal.returns-then-put_at-clause-ok
returns-then-put_at-clause-ok c =
    let aligned : is_aligned Word c.args.address ≡ true = sym c.is_aligned.ensures.value ∙ c.if-not-is_aligned.false in
    met_update c.args.p c.args.at c.args.op c.args.r c.args.address c.args.value c.in-Some.old c.amo-new.result c.args.memory.now c.put_at.new.memory c.args.body.now c.put_at.new.body _ aligned (sym c.if-put_at.true ∙ c.put_at.ensures.may) c.in-Some.ensures c.amo-new.ensures (c.put_at.ensures.stored c.if-put_at.true) c.set.ensures refl refl
