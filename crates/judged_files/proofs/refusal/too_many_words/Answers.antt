use Rattle.std.proofs.Common.{◌≡◌, ◌++◌, List, ℕ, ap, ◌∙◌, codes, append_assoc}
use Rattle.std.specs.Fmt.{decimal}
use Rattle.judged_files.specs.declared.refusal.Subject.TheVariants.{Executable}
use Rattle.judged_files.specs.Text.{refusal_head}
use Rattle.judged_files.proofs.refusal.too_many_words.Goals as goal

regroup : (head a d w n : List ℕ) → ((head ++ a) ++ d) ++ (w ++ n) ≡ head ++ ((a ++ (d ++ w)) ++ n)
regroup head a d w n = simp append_assoc

pub returns : goal.returns
returns c =
    c.in_ok-extend_from_slice-2.ensures.items
    ∙ ap (λ t. t ++ codes " words\n") (c.in_ok-push_number.ensures
    ∙ ap (λ t. t ++ decimal c.args.words) (c.in_ok-extend_from_slice.ensures.items
    ∙ ap (λ t. t ++ codes "CodeTooLarge ") c.in_ok-line.ensures))
    ∙ regroup (refusal_head Executable 20) (codes "CodeTooLarge ") (decimal c.args.words) (codes " words") (codes "\n")
