use Rattle.std.proofs.Common.{sym, subst}
use Rattle.std.specs.Prelude.{codes, IfErr}
use Rattle.std.proofs.lemmas.Result.{err_from_is_err_and}
use Rattle.run_record.specs.Reading.{IsFault, IsRead}
use Rattle.run_record.specs.Rules.{Code, Range, awaited_behind_batch}
use Rattle.run_record.specs.Text.{number_line}
use Rattle.run_record.specs.declared.version.Version.{Version}
use Rattle.run_record.proofs.Passing.{handed_on}
use Rattle.run_record.proofs.read.read_code.Goals as goal

pub returns-in_err-read_words-in-Second-clause-err : goal.returns-in_err-read_words-in-Second-clause-err
returns-in_err-read_words-in-Second-clause-err c = λ nodes.
    let p = err_from_is_err_and c.from_residual.result c.from_residual.ensures.1 in
    let P : Version → Type 0 = λ v. IfErr c.from_residual.result (IsFault (awaited_behind_batch v nodes) c.args.lines.now) in
    subst P (sym c.in-Second.is) (handed_on c.from_residual.result (IsFault (Code nodes) c.args.lines.now) p.0 _ p.1 p.2
    (c.in_err-read_words-in-Second.ensures.err nodes))

pub returns-in_ok-read_words-in-Second-clause-ok : goal.returns-in_ok-read_words-in-Second-clause-ok
returns-in_ok-read_words-in-Second-clause-ok c = λ nodes.
    let P : Version → Type 0 = λ v. IsRead (awaited_behind_batch v nodes) c.args.lines.now (number_line (codes "code ") c.in_ok-read_words-in-Second.field-0) (Range v nodes) c.read_words.new.lines in
    subst P (sym c.in-Second.is) (c.in_ok-read_words-in-Second.ensures.ok nodes)
