use Rattle.std.proofs.Common.{◌∙◌, arith}
use Rattle.rewriter.proofs.SizeLemmas.{map_few}
use Rattle.rewrite_verify.proofs.verifying.judge_file.Goals as goal

pub map_section-requires : goal.map_section-requires
map_section-requires c =
    let few = map_few c.deref.result.now c.image.result.now c.args.rewritten.now.plan
    c.plan.result.now (c.deref.ensures.value ∙ c.in_ok-map.ensures.value) c.plan.ensures.value
    c.plan.ensures.few in
    record { short = omega (arith, few) }
