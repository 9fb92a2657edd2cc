use Rattle.std.proofs.Common.{◌++◌, ◌∙◌, ap, codes}
use Rattle.speedup_page.specs.Rows.{numbered}
use Rattle.speedup_page.proofs.Chains.{ok_behind, ok_last}
use Rattle.speedup_page.proofs.page.push_messages.Goals as goal

pub returns : goal.returns
returns c =
    let old = c.args.out.now.items in
    let one = c.push_numbered.new.out.items in
    let two = c.push_numbered-2.new.out.items in
    let three = c.push_numbered-3.new.out.items in
    let r = c.extend_from_slice.result in
    ok_behind r old one _ _ _ (c.in_ok-push_numbered.ensures
    ∙ ap (λ n. old ++ numbered (codes "<p>A message is on its way for ") n) c.from.ensures)
    (ok_behind r one two _ _ _ (c.in_ok-push_numbered-2.ensures
    ∙ ap (λ n. one ++ numbered (codes " words, and for each line of bytes that it carries for ") n)
    c.from-2.ensures) (ok_behind r two three _ _ _
    (c.in_ok-push_numbered-3.ensures ∙ ap (λ n. two ++ numbered (codes " more; taking it costs ") n) c.from-3.ensures)
    (ok_last r three _ _ c.extend_from_slice.ensures.items)))
