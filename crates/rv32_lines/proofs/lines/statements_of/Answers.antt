use Rattle.std.specs.Prelude.{is_ok, if◌then◌else◌}
use Rattle.std.proofs.Common.{◌≡◌, Bool, true, ap, ◌∙◌, [], ◌∷◌, ◌++◌}
use Rattle.rv32_lines.proofs.LinesRead.{more_line}
use Rattle.rv32_lines.proofs.lines.statements_of.Goals as goal

pub loop-rest-preserved : goal.loop-rest-preserved
loop-rest-preserved c =
    let ok : is_ok c.push.result ≡ true = search
    (c.if-is_err.false, c.is_err.ensures.value, c.is_err.ensures.negation) in
    let same : c.push.new.self.items ≡ c.loop-rest.statements.items ++ c.statement_of.result ∷ [] =
    c.push.ensures.items ∙ ap
    (λ (b : Bool). if b then (c.loop-rest.statements.items ++ c.statement_of.result ∷ []) else
    c.loop-rest.statements.items) ok in
    more_line c.args.text.now c.loop-rest.rest.now c.split_line.result.0.now c.split_line.result.1.now
    c.loop-rest.statements.items c.push.new.self.items
    c.statement_of.result same c.loop-rest.invariant c.split_line.ensures.lines c.statement_of.ensures
