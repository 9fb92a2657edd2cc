use Rattle.std.proofs.Common.{[], append-nil, sym, ap, ◌∙◌, subst, arith}
use Rattle.std.specs.List.{All}
use Rattle.std.proofs.lemmas.Result.{err_from_is_err_and}
use Rattle.std.proofs.lemmas.List.Elements.{All-push}
use Rattle.run_record.specs.Reading.{IsFault}
use Rattle.run_record.specs.Record.{IsBlockLine}
use Rattle.run_record.specs.Rules.{Range, Node}
use Rattle.run_record.specs.Telling.{HasWords}
use Rattle.run_record.specs.declared.version.Version.TheVariants.{First}
use Rattle.run_record.specs.Text.{block_line, block_lines}
use Rattle.run_record.proofs.Passing.{read_on, handed_on, read_shorter}
use Rattle.run_record.proofs.Growing.{block_more}
use Rattle.run_record.proofs.read.read_ranges.Goals as goal

pub returns-in_err-range-clause-err : goal.returns-in_err-range-clause-err
returns-in_err-range-clause-err c = λ v nodes.
    let p = err_from_is_err_and c.from_residual.result c.from_residual.ensures.1 in
    handed_on c.from_residual.result (IsFault (Range v nodes) c.args.lines.now) p.0 _ p.1 p.2
    ((c.loop-ranges.invariant.read_so_far v nodes).faults _ (c.in_err-range.ensures.err v nodes))

pub loop-ranges-smaller : goal.loop-ranges-smaller
loop-ranges-smaller c =
    read_shorter (Range First 0) (Range First 0) c.loop-ranges.lines c.read_range.new.lines (block_line c.in-Some.range) (omega arith)
    (rw c.in-Some.is at (c.in_ok-range.ensures.ok First 0))

pub loop-ranges-preserved : goal.loop-ranges-preserved
loop-ranges-preserved c =
    let one = rw c.in-Some.is at c.in_ok-range.ensures.range in
    record {
      read_so_far = λ v nodes. read_on (Range v nodes) (Range v nodes) (Range v nodes) c.args.lines.now c.loop-ranges.lines c.read_range.new.lines (block_lines c.loop-ranges.ranges.items) (block_line c.in-Some.range) (block_lines c.push.new.self.items)
          (block_more c.loop-ranges.ranges.items c.in-Some.range ∙ ap block_lines (sym c.in_ok-push.ensures.items))
          (c.loop-ranges.invariant.read_so_far v nodes) (rw c.in-Some.is at (c.in_ok-range.ensures.ok v nodes));
      digits = subst (All IsBlockLine) (sym c.in_ok-push.ensures.items) (All-push IsBlockLine c.loop-ranges.ranges.items c.in-Some.range c.loop-ranges.invariant.digits one.0);
      words = subst (All HasWords) (sym c.in_ok-push.ensures.items) (All-push HasWords c.loop-ranges.ranges.items c.in-Some.range c.loop-ranges.invariant.words one.1);
    }

pub returns-clause-ok : goal.returns-clause-ok
returns-clause-ok c = λ v nodes.
    read_on (Range v nodes) (Range v nodes) (Node v nodes 0) c.args.lines.now c.loop-ranges.lines c.read_range.new.lines (block_lines c.loop-ranges.ranges.items) [] (block_lines c.loop-ranges.ranges.items)
    (append-nil (block_lines c.loop-ranges.ranges.items)) (c.loop-ranges.invariant.read_so_far v nodes) (rw c.in_default.is at (c.in_ok-range.ensures.ok v nodes))
