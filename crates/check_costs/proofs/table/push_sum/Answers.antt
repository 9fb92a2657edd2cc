use Rattle.std.proofs.Common.{◌++◌, codes, ap, ◌∙◌, append_assoc}
use Rattle.check_costs.specs.Text.{numbers_text}
use Rattle.check_costs.proofs.table.push_sum.Goals as goal

pub returns : goal.returns
returns c =
    c.in_ok-extend_from_slice.ensures.items
    ∙ ap (λ xs. xs ++ codes "  all code\n") c.in_ok-push_numbers.ensures
    ∙ append_assoc c.args.out.now.items (numbers_text c.args.sum.now) (codes "  all code\n")
