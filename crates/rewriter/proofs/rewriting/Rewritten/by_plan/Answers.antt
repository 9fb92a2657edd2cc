use Rattle.std.proofs.Common.{◌≡◌, ap, Err}
use Rattle.jump_map.specs.declared.image.ImageRefused.TheVariants.{CodeTooLarge}
use Rattle.rewriter.proofs.rewriting.Rewritten.by_plan.Goals as goal

pub returns-in-Err-clause-too_large : goal.returns-in-Err-clause-too_large
returns-in-Err-clause-too_large c = λ w is.
    let same : c.in-Err.refused ≡ CodeTooLarge w = cc in
    c.in-Err.ensures.too_large w (ap (λ e. Err e) same)
