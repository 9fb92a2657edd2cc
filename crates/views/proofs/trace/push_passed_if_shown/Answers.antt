use Rattle.std.proofs.Common.{◌≡◌, ◌++◌, ◌∷◌, [], append-nil, ap, sym, ◌∙◌}
use Rattle.block_view.specs.event_text.Events.{event_line}
use Rattle.run_trace.specs.Passing.{passed_of}
use Rattle.views.proofs.Lines.{line_hidden, line_shown, lines_of}
use Rattle.views.proofs.Viewed.{on_ok_as}
use Rattle.views.proofs.trace.push_passed_if_shown.Goals as goal

pub returns-then-not-is_passed_shown : goal.returns-then-not-is_passed_shown
returns-then-not-is_passed_shown c =
    let elf = c.args.program.now in
    let o = c.args.options.now in
    let x = passed_of c.args.word.now in
    let lines = c.args.lines.now.items in
    sym (ap (λ t. lines ++ t)
    (line_hidden elf o x (sym c.is_passed_shown.ensures ∙ c.if-not-is_passed_shown.true))
    ∙ append-nil lines)

pub returns : goal.returns
returns c =
    let elf = c.args.program.now in
    let o = c.args.options.now in
    let x = passed_of c.args.word.now in
    let lines = c.args.lines.now.items in
    let now = c.push_passed.new.out.items in
    on_ok_as (now ≡ lines ++ event_line elf x) (now ≡ lines ++ lines_of elf o (x ∷ [])) c.push_passed.result
    (λ e. e ∙ ap (λ t. lines ++ t)
    (sym (line_shown elf o x (sym c.is_passed_shown.ensures ∙ c.if-not-is_passed_shown.false)))) c.push_passed.ensures
