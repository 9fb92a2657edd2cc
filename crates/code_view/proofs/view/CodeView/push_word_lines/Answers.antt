use Rattle.std.proofs.Common.{◌≡◌, ◌+◌, ◌++◌, ap, ◌∙◌, arith}
use Rattle.exec_map.specs.Contents.{program_of}
use Rattle.code_view.specs.Code.{word_line, word_lines}
use Rattle.code_view.proofs.Lines.{past_word}
use Rattle.code_view.proofs.view.CodeView.push_word_lines.Goals as goal

pub loop-k-preserved : goal.loop-k-preserved
loop-k-preserved c =
    let p = program_of c.args.self.now.program.now in
    let own = c.args.own.now in
    let image = c.args.self.now.image.now in
    let n = c.args.number in
    let k = c.loop-k.k in
    let from = c.from.ensures in
    let same : c.from.result ≡ k = omega (arith, from) in
    let old = c.loop-k.out.items in
    past_word p own image n k c.args.words old c.push_word_line.new.out.items
    (c.args.out.now.items ++ word_lines p own image n c.args.words)
    c.loop-k-test.true
    (c.in_ok-push_word_line.ensures ∙ ap (λ m. old ++ word_line p own image (n + m)) same)
    c.loop-k.invariant
