use Rattle.std.proofs.Common.{sym, subst}
use Rattle.jump_map.specs.Image.{IsRewriting}
use Rattle.rewriter.proofs.rewriting.rewrite_law.Goals as goal

pub returns : goal.returns
returns c = record {
  one = λ batches program one other h k.
      let plan = c.plan_law.ensures.one batches program.code one.plan other.plan h.plan k.plan in
      let again = subst (λ p. IsRewriting program p other.image) (sym plan) k.rewriting in
      let image = c.image_law.ensures.one program one.plan one.image other.image h.rewriting again in
      λ t. record { image = image t; plan = plan t };
}
