use Rattle.std.proofs.Common.{◌≡◌, ◌+◌, length, sym, ap, ◌∙◌, arith}
use Rattle.jump_map.specs.Image.{plan_items}
use Rattle.jump_map.specs.Heads.{program_with}
use Rattle.jump_map.proofs.ExpansionLemmas.{image_length}
use Rattle.jump_map.proofs.building.build.Goals as goal

pub returns-then-total-clause-too_large : goal.returns-then-total-clause-too_large
returns-then-total-clause-too_large c = λ w is.
    let p = program_with c.args.code.now in
    let total = c.count_words-total.result in
    let same : total ≡ w = cc in
    let value : total ≡ 1 + length (plan_items p c.args.plan.now) = c.count_words-total.ensures.value ∙ ap (λ es. 1 + length (plan_items p es)) c.entries.ensures.value in
    let many = c.if-total.true in
    (sym same ∙ value ∙ sym (image_length p c.args.plan.now), omega (arith, many, same))
