use Rattle.std.proofs.Common.{◌≡◌, None, Some, ap, ◌∙◌, refl}
use Rattle.std.specs.Prelude.{codes}
use Rattle.run_record.specs.Rules.{Version, Nodes}
use Rattle.run_record.specs.Text.{number_line, version_line}
use Rattle.run_record.proofs.Passing.{syntax_fault, line_read}
use Rattle.run_record.proofs.NoFault.{version_numbered, low_version}
use Rattle.run_record.proofs.read.read_version.Goals as goal

pub returns-in_default-clause-err : goal.returns-in_default-clause-err
returns-in_default-clause-err c =
    syntax_fault Version c.args.lines.now c.next_line.new.self c.in_ok-line.line.text.now c.in_ok-line.line.number c.at.result c.in_ok-line.ensures.ok
    (λ g. let t : None ≡ Some g.0 = c.in_default.ensures.only g.0 g.1 in absurd (cc)) c.at.ensures

pub returns-in-Some-of_number-clause-ok : goal.returns-in-Some-of_number-clause-ok
returns-in-Some-of_number-clause-ok c =
    let v = c.in-Some-of_number.version in
    let is = c.in-Some.ensures.some.line_is ∙ ap (number_line (codes "shasta-record ")) c.in-Some-of_number.ensures.some in
    line_read Version (Nodes v) c.args.lines.now c.next_line.new.self c.in_ok-line.line.text.now (version_line v) c.in_ok-line.line.number c.in_ok-line.ensures.ok (is ∙ version_numbered v)
    (v, record { line_is = is; low = low_version v }, refl)
