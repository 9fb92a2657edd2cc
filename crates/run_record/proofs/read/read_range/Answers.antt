use Rattle.std.proofs.Common.{◌≡◌, true, false, None, Some, sym, ◌∙◌}
use Rattle.run_record.specs.Rules.{Range}
use Rattle.run_record.proofs.Passing.{syntax_fault, range_grammar}
use Rattle.run_record.proofs.Passing.{no_more_ranges}
use Rattle.run_record.proofs.read.read_range.Goals as goal

pub returns-then-not-begin_with-clause-ok : goal.returns-then-not-begin_with-clause-ok
returns-then-not-begin_with-clause-ok c = λ v nodes. no_more_ranges v nodes c.args.lines.now (λ rest e.
    let yes : c.begin_with.result ≡ true = c.begin_with.ensures.yes rest e in
    let no : c.begin_with.result ≡ false = c.if-not-begin_with.true in
    absurd (cc))

pub returns-in-None-clause-err : goal.returns-in-None-clause-err
returns-in-None-clause-err c = λ v nodes.
    let begins = c.begin_with.ensures.only c.if-not-begin_with.false in
    syntax_fault (Range v nodes) c.args.lines.now c.next_line.new.self c.in_ok-line.line.text.now c.in_ok-line.line.number c.at.result c.in_ok-line.ensures.ok
    (range_grammar v nodes c.in_ok-line.line.text.now c.next_line.new.self.bytes begins.0 (sym c.in_ok-line.ensures.ok.bytes_are ∙ begins.1)
    (λ r h. let t : None ≡ Some r = c.in-None.ensures.only r h in absurd (cc))) c.at.ensures
