use Rattle.std.proofs.Common.{◌++◌, ◌∷◌, [], ap, ◌∙◌}
use Rattle.code_view.proofs.Lines.{entry_lines}
use Rattle.code_view.proofs.view.CodeView.push_entry.Goals as goal

pub returns-clause-text : goal.returns-clause-text
returns-clause-text c =
    let e = c.args.entry.now in
    let one = c.in_ok-push.ensures.ok ∙ ap (λ es. es ++ e ∷ []) c.new-own.ensures.value in
    entry_lines c.args.self.now.program.now c.args.self.now.image.now c.args.number e _ c.words_of-words.result
    c.args.out.now.items c.push_place_line.new.out.items c.push_word_lines.new.out.items one
    c.words_of-words.ensures.value
    c.in_ok-push_place_line.ensures c.in_ok-push_word_lines.ensures
