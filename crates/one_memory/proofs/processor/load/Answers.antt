use Rattle.std.proofs.Common.{◌≡◌, true, sym, ap, ◌∙◌, rules}
use Rattle.rv32_decode.specs.Widths.{is_aligned, width_of}
use Rattle.one_memory.proofs.ReadLemmas.{IsRead}
use Rattle.one_memory.proofs.StepLemmas.{loaded}
use Rattle.one_memory.proofs.processor.load.Goals as goal

pub returns-in-Some : goal.returns-in-Some
returns-in-Some c p =
    let m = c.args.memory.now in
    let b = c.args.body.now in
    let width = c.width-width.ensures.value in
    let aligned : is_aligned (width_of c.args.kind) c.args.address ≡ true = ap (λ w. is_aligned w c.args.address) (sym width) ∙ sym c.is_aligned.ensures.value ∙ c.if-not-is_aligned.false in
    let read : IsRead m b (width_of c.args.kind) c.args.address c.in-Some.number = rw width at c.in-Some.ensures in
    loaded p c.args.at m b _ c.args.kind c.args.r c.args.address c.in-Some.number aligned read (search rules)
