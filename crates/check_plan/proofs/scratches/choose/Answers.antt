use Rattle.std.proofs.Common.{◌∙◌, ap}
use Rattle.std.specs.Prelude.{take, slice_index_or}
use Rattle.templates.specs.Plans.{no_scratch}
use Rattle.check_plan.proofs.MemberLemmas.{order_is}
use Rattle.check_plan.proofs.scratches.choose.Goals as goal

pub returns : goal.returns
returns c =
    let count = c.args.count in
    let order = order_is c.args.candidates c.args.dead c.difference-dead.result c.difference-others.result
    (λ r lt. c.difference-dead.ensures r lt) (λ r lt. c.difference-others.ensures r lt) in
    record {
      value = λ t. record {
        s = (c.scratch.ensures.value ∙ ap (λ xs. slice_index_or (take count xs) 0 no_scratch) order) t;
        t = (c.scratch-2.ensures.value ∙ ap (λ xs. slice_index_or (take count xs) 1 no_scratch) order) t;
        u = (c.scratch-3.ensures.value ∙ ap (λ xs. slice_index_or (take count xs) 2 no_scratch) order) t;
      };
    }
