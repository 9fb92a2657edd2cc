use Rattle.std.proofs.Common.{◌++◌, ap, ◌∙◌}
use Rattle.std.proofs.lemmas.Result.{on_ok_weaker}
use Rattle.page_events.specs.run_trace.Given.{traced_of}
use Rattle.page_view.specs.Arrows.{arrow_text, sends_text}
use Rattle.page_view.proofs.Chains.{ok_behind}
use Rattle.page_view.proofs.arrows.push_taken.Goals as goal

pub returns : goal.returns
returns c =
    let nodes = c.args.layout.now.nodes in
    let events = c.args.shown.now.events in
    let old = c.args.out.now.items in
    let one = c.push_arrow.new.out.items in
    let r = c.push_sends.result in
    let sends = on_ok_weaker r
    (λ e. e ∙ ap (λ s. one ++ sends_text nodes events (traced_of c.args.event.now) s) c.as_slice.ensures.value)
    c.push_sends.ensures in
    ok_behind r old one _ _ _
    (c.in_ok-push_arrow.ensures ∙ ap (λ a. old ++ arrow_text nodes events a) c.arrow_taken-arrow.ensures) sends
