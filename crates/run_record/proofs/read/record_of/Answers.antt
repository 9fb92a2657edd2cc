use Rattle.std.proofs.Common.{◌++◌, sym, ap, ◌∙◌, subst}
use Rattle.std.proofs.lemmas.Result.{err_from_is_err_and}
use Rattle.run_record.specs.Reading.{Left, IsFault, IsRead}
use Rattle.run_record.specs.Rules.{Version, Nodes}
use Rattle.run_record.specs.Text.{version_line, block_lines, journal_lines}
use Rattle.run_record.proofs.Passing.{handed_on}
use Rattle.run_record.proofs.Whole.{whole_text}
use Rattle.run_record.proofs.read.record_of.Goals as goal

pub returns-in_err-nodes-clause-err : goal.returns-in_err-nodes-clause-err
returns-in_err-nodes-clause-err c =
    let start : Left = record { bytes = c.args.text.now; number = 1 } in
    let P : Left → Type 0 = λ l. IsRead Version l (version_line c.in_ok-version.version) (Nodes c.in_ok-version.version) c.read_version.new.lines in
    let version = subst P c.of-lines.ensures c.in_ok-version.ensures.ok in
    let p = err_from_is_err_and c.from_residual-in_err-nodes.result c.from_residual-in_err-nodes.ensures.1 in
    handed_on c.from_residual-in_err-nodes.result (IsFault Version start) p.0 _ p.1 p.2
    (version.faults _ (c.in_err-nodes.ensures.err c.in_ok-version.version))

pub returns-in_err-budget-clause-err : goal.returns-in_err-budget-clause-err
returns-in_err-budget-clause-err c =
    let start : Left = record { bytes = c.args.text.now; number = 1 } in
    let P : Left → Type 0 = λ l. IsRead Version l (version_line c.in_ok-version.version) (Nodes c.in_ok-version.version) c.read_version.new.lines in
    let version = subst P c.of-lines.ensures c.in_ok-version.ensures.ok in
    let p = err_from_is_err_and c.from_residual-in_err-budget.result c.from_residual-in_err-budget.ensures.1 in
    handed_on c.from_residual-in_err-budget.result (IsFault Version start) p.0 _ p.1 p.2
    (version.faults _ ((c.in_ok-nodes.ensures.ok c.in_ok-version.version).faults _ (c.in_err-budget.ensures.err c.in_ok-version.version c.in_ok-nodes.nodes)))

pub returns-in_err-batch-clause-err : goal.returns-in_err-batch-clause-err
returns-in_err-batch-clause-err c =
    let start : Left = record { bytes = c.args.text.now; number = 1 } in
    let P : Left → Type 0 = λ l. IsRead Version l (version_line c.in_ok-version.version) (Nodes c.in_ok-version.version) c.read_version.new.lines in
    let version = subst P c.of-lines.ensures c.in_ok-version.ensures.ok in
    let p = err_from_is_err_and c.from_residual-in_err-batch.result c.from_residual-in_err-batch.ensures.1 in
    handed_on c.from_residual-in_err-batch.result (IsFault Version start) p.0 _ p.1 p.2
    (version.faults _ ((c.in_ok-nodes.ensures.ok c.in_ok-version.version).faults _ ((c.in_ok-budget.ensures.ok c.in_ok-version.version c.in_ok-nodes.nodes).faults _ (c.in_err-batch.ensures.err c.in_ok-version.version c.in_ok-nodes.nodes))))

pub returns-in_err-code-clause-err : goal.returns-in_err-code-clause-err
returns-in_err-code-clause-err c =
    let start : Left = record { bytes = c.args.text.now; number = 1 } in
    let P : Left → Type 0 = λ l. IsRead Version l (version_line c.in_ok-version.version) (Nodes c.in_ok-version.version) c.read_version.new.lines in
    let version = subst P c.of-lines.ensures c.in_ok-version.ensures.ok in
    let p = err_from_is_err_and c.from_residual-in_err-code.result c.from_residual-in_err-code.ensures.1 in
    handed_on c.from_residual-in_err-code.result (IsFault Version start) p.0 _ p.1 p.2
    (version.faults _ ((c.in_ok-nodes.ensures.ok c.in_ok-version.version).faults _ ((c.in_ok-budget.ensures.ok c.in_ok-version.version c.in_ok-nodes.nodes).faults _ ((c.in_ok-batch.ensures.ok c.in_ok-version.version c.in_ok-nodes.nodes).faults _ (c.in_err-code.ensures.err c.in_ok-nodes.nodes)))))

pub returns-in_err-ranges-clause-err : goal.returns-in_err-ranges-clause-err
returns-in_err-ranges-clause-err c =
    let start : Left = record { bytes = c.args.text.now; number = 1 } in
    let P : Left → Type 0 = λ l. IsRead Version l (version_line c.in_ok-version.version) (Nodes c.in_ok-version.version) c.read_version.new.lines in
    let version = subst P c.of-lines.ensures c.in_ok-version.ensures.ok in
    let p = err_from_is_err_and c.from_residual-in_err-ranges.result c.from_residual-in_err-ranges.ensures.1 in
    handed_on c.from_residual-in_err-ranges.result (IsFault Version start) p.0 _ p.1 p.2
    (version.faults _ ((c.in_ok-nodes.ensures.ok c.in_ok-version.version).faults _ ((c.in_ok-budget.ensures.ok c.in_ok-version.version c.in_ok-nodes.nodes).faults _ ((c.in_ok-batch.ensures.ok c.in_ok-version.version c.in_ok-nodes.nodes).faults _ ((c.in_ok-code.ensures.ok c.in_ok-nodes.nodes).faults _ (c.in_err-ranges.ensures.err c.in_ok-version.version c.in_ok-nodes.nodes))))))

pub returns-in_err-journals-clause-err : goal.returns-in_err-journals-clause-err
returns-in_err-journals-clause-err c =
    let start : Left = record { bytes = c.args.text.now; number = 1 } in
    let P : Left → Type 0 = λ l. IsRead Version l (version_line c.in_ok-version.version) (Nodes c.in_ok-version.version) c.read_version.new.lines in
    let version = subst P c.of-lines.ensures c.in_ok-version.ensures.ok in
    let p = err_from_is_err_and c.from_residual-in_err-journals.result c.from_residual-in_err-journals.ensures.1 in
    handed_on c.from_residual-in_err-journals.result (IsFault Version start) p.0 _ p.1 p.2
    (version.faults _ ((c.in_ok-nodes.ensures.ok c.in_ok-version.version).faults _ ((c.in_ok-budget.ensures.ok c.in_ok-version.version c.in_ok-nodes.nodes).faults _ ((c.in_ok-batch.ensures.ok c.in_ok-version.version c.in_ok-nodes.nodes).faults _ ((c.in_ok-code.ensures.ok c.in_ok-nodes.nodes).faults _ ((c.in_ok-ranges.ensures.ok c.in_ok-version.version c.in_ok-nodes.nodes).faults _ c.in_err-journals.ensures.err))))))

pub returns-in_err-end-clause-err : goal.returns-in_err-end-clause-err
returns-in_err-end-clause-err c =
    let start : Left = record { bytes = c.args.text.now; number = 1 } in
    let P : Left → Type 0 = λ l. IsRead Version l (version_line c.in_ok-version.version) (Nodes c.in_ok-version.version) c.read_version.new.lines in
    let version = subst P c.of-lines.ensures c.in_ok-version.ensures.ok in
    let p = err_from_is_err_and c.from_residual-in_err-end.result c.from_residual-in_err-end.ensures.1 in
    handed_on c.from_residual-in_err-end.result (IsFault Version start) p.0 _ p.1 p.2
    (version.faults _ ((c.in_ok-nodes.ensures.ok c.in_ok-version.version).faults _ ((c.in_ok-budget.ensures.ok c.in_ok-version.version c.in_ok-nodes.nodes).faults _ ((c.in_ok-batch.ensures.ok c.in_ok-version.version c.in_ok-nodes.nodes).faults _ ((c.in_ok-code.ensures.ok c.in_ok-nodes.nodes).faults _ ((c.in_ok-ranges.ensures.ok c.in_ok-version.version c.in_ok-nodes.nodes).faults _ (c.in_ok-journals.ensures.ok.faults _ c.in_err-end.ensures.err)))))))

pub returns-clause-text : goal.returns-clause-text
returns-clause-text c =
    let start : Left = record { bytes = c.args.text.now; number = 1 } in
    let P : Left → Type 0 = λ l. IsRead Version l (version_line c.in_ok-version.version) (Nodes c.in_ok-version.version) c.read_version.new.lines in
    let version = subst P c.of-lines.ensures c.in_ok-version.ensures.ok in
    let named = sym c.in_ok-code.ensures.version in
    whole_text _ c.args.text.now _ _ _ _ _ _ _ (version.bytes_are ∙ ap (λ v. version_line v ++ c.read_version.new.lines.bytes) named)
    (c.in_ok-nodes.ensures.ok c.in_ok-version.version).bytes_are (c.in_ok-budget.ensures.ok c.in_ok-version.version c.in_ok-nodes.nodes).bytes_are
    (c.in_ok-batch.ensures.ok c.in_ok-version.version c.in_ok-nodes.nodes).bytes_are (c.in_ok-code.ensures.ok c.in_ok-nodes.nodes).bytes_are
    ((c.in_ok-ranges.ensures.ok c.in_ok-version.version c.in_ok-nodes.nodes).bytes_are ∙ ap (λ rs. block_lines rs ++ c.read_ranges.new.lines.bytes) (sym c.of.ensures))
    (c.in_ok-journals.ensures.ok.bytes_are ∙ ap (λ js. journal_lines c.in_ok-version.version 0 js ++ c.read_journals.new.lines.bytes) (sym c.of-2.ensures)
    ∙ ap (λ v. journal_lines v 0 c.of-2.result ++ c.read_journals.new.lines.bytes) named)
    c.in_ok-end.ensures.ok
