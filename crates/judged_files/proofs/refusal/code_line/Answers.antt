use Rattle.std.proofs.Common.{◌≡◌, ◌++◌, List, ℕ, ap, ◌∙◌, codes, append_assoc}
use Rattle.judged_files.specs.declared.refusal.Subject.TheVariants.{Code}
use Rattle.judged_files.specs.Text.{part_name, refusal_head}
use Rattle.judged_files.proofs.refusal.code_line.Goals as goal

regroup : (head a p n : List ℕ) → ((head ++ a) ++ p) ++ n ≡ head ++ ((a ++ p) ++ n)
regroup head a p n = simp append_assoc

pub returns : goal.returns
returns c =
    c.in_ok-extend_from_slice-3.ensures.items
    ∙ ap (λ t. t ++ codes "\n") (c.in_ok-extend_from_slice-2.ensures.items
    ∙ ap (λ t. t ++ c.part_name.result.now) (c.in_ok-extend_from_slice.ensures.items
    ∙ ap (λ t. t ++ codes "PlanRefused ") c.in_ok-line.ensures))
    ∙ ap (λ p. ((refusal_head Code 21 ++ codes "PlanRefused ") ++ p) ++ codes "\n") c.part_name.ensures
    ∙ regroup (refusal_head Code 21) (codes "PlanRefused ") (part_name c.args.part) (codes "\n")
