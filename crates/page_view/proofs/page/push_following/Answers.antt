use Rattle.std.proofs.Common.{◌≡◌, ◌++◌, ap, ◌∙◌}
use Rattle.page_events.specs.Escape.{escaped}
use Rattle.page_view.specs.Page.{words_text}
use Rattle.page_view.proofs.Chains.{ok_behind, ok_last}
use Rattle.page_view.proofs.page.push_following.Goals as goal

pub returns : goal.returns
returns c =
    let old = c.args.out.now.items in
    let one = c.extend_from_slice.new.self.items in
    let two = c.push_escaped.new.out.items in
    let r = c.extend_from_slice-2.result in
    let text = words_text c.args.from c.args.to in
    let words : c.deref.result.now ≡ text =
    c.deref.ensures.value ∙ c.in_ok-push_words.ensures ∙ ap (λ t. t ++ text) c.new-words.ensures.items in
    let end = ok_last r two _ _ c.extend_from_slice-2.ensures.items in
    ok_behind r old one _ _ _ c.in_ok-extend_from_slice.ensures.items
    (ok_behind r one two _ _ _ (c.in_ok-push_escaped.ensures ∙ ap (λ w. one ++ escaped w) words) end)
