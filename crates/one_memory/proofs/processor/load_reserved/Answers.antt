use Rattle.std.proofs.Common.{◌≡◌, true, sym, ◌∙◌, refl}
use Rattle.rv32_decode.specs.declared.Width.TheVariants.{Word}
use Rattle.rv32_decode.specs.Widths.{is_aligned}
use Rattle.one_memory.proofs.StoreLemmas.{met_reserve}
use Rattle.one_memory.proofs.processor.load_reserved.Goals as goal

pub returns-in-Some-clause-ok : goal.returns-in-Some-clause-ok
returns-in-Some-clause-ok c =
    let aligned : is_aligned Word c.args.address ≡ true = sym c.is_aligned.ensures.value ∙ c.if-not-is_aligned.false in
    met_reserve c.args.p c.args.at c.args.r c.args.address c.in-Some.word c.args.memory.now c.reserve.new.self c.args.body.now _ aligned c.in-Some.ensures c.set.ensures refl refl c.reserve.ensures.rest c.reserve.ensures.reserved
