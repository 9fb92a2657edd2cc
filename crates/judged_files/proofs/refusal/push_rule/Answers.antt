use Rattle.std.proofs.Common.{◌≡◌, ◌++◌, ℕ, List, ap, ◌∙◌, codes, append_assoc}
use Rattle.std.specs.Fmt.{decimal}
use Rattle.exec_map.specs.declared.refused.ProgramRule.TheVariants.{Overlap, Unsupported, TooManySegments}
use Rattle.text_output.specs.Text.{hex8}
use Rattle.judged_files.specs.Text as model
use Rattle.judged_files.proofs.refusal.push_rule.Goals as goal

behind : (old a b c middle new : List ℕ) → middle ≡ old ++ (a ++ b) → new ≡ middle ++ c
    → new ≡ old ++ (a ++ (b ++ c))
behind old a b c middle new one two =
    two ∙ ap (λ t. t ++ c) one ∙ append_assoc old (a ++ b) c ∙ ap (λ t. old ++ t) (append_assoc a b c)

pub returns-in_ok-push_index-in-Overlap-2 : goal.returns-in_ok-push_index-in-Overlap-2
returns-in_ok-push_index-in-Overlap-2 c =
    let e : c.push_index-in-Overlap-2.new.line.items ≡ c.args.line.now.items ++ model.rule_text (Overlap c.in-Overlap.first c.in-Overlap.second) =
    behind c.args.line.now.items (codes "Overlap segments ") (decimal c.in-Overlap.first)
    (codes " " ++ decimal c.in-Overlap.second) c.push_index-in-Overlap.new.line.items _
    c.in_ok-push_index-in-Overlap.ensures c.in_ok-push_index-in-Overlap-2.ensures in
    let is = c.in-Overlap.is in
    cc

pub returns-in_ok-push_place-in-Unsupported-2 : goal.returns-in_ok-push_place-in-Unsupported-2
returns-in_ok-push_place-in-Unsupported-2 c =
    let e : c.push_place-in-Unsupported-2.new.line.items ≡ c.args.line.now.items ++ model.rule_text (Unsupported c.in-Unsupported.address c.in-Unsupported.word) =
    behind c.args.line.now.items (codes "Unsupported ") (hex8 c.in-Unsupported.address)
    (codes " word " ++ hex8 c.in-Unsupported.word) c.push_place-in-Unsupported.new.line.items _
    c.in_ok-push_place-in-Unsupported.ensures c.in_ok-push_place-in-Unsupported-2.ensures in
    let is = c.in-Unsupported.is in
    cc

pub returns-in_ok-extend_from_slice-in-TooManySegments :
    goal.returns-in_ok-extend_from_slice-in-TooManySegments
returns-in_ok-extend_from_slice-in-TooManySegments c =
    let e : c.extend_from_slice-in-TooManySegments.new.self.items ≡ c.args.line.now.items ++ model.rule_text (TooManySegments c.in-TooManySegments.count) =
    behind c.args.line.now.items (codes "TooManySegments ") (decimal c.in-TooManySegments.count)
    (codes " segments") c.push_index-in-TooManySegments.new.line.items _
    c.in_ok-push_index-in-TooManySegments.ensures c.in_ok-extend_from_slice-in-TooManySegments.ensures.items in
    let is = c.in-TooManySegments.is in
    cc
