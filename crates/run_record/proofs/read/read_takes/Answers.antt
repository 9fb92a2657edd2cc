use Rattle.std.proofs.Common.{◌+◌, ◌++◌, refl, sym, ap, ◌∙◌, subst, arith}
use Rattle.std.specs.Prelude.{codes}
use Rattle.std.proofs.lemmas.Result.{err_from_is_err_and}
use Rattle.run_record.specs.Reading.{IsFault}
use Rattle.run_record.specs.Record.{AreTakesBehind, IsTakeBehind}
use Rattle.run_record.specs.Rules.{Take, node_awaited}
use Rattle.run_record.specs.Text.{take_line, told_of, take_lines}
use Rattle.run_record.proofs.Passing.{read_on, handed_on, read_shorter}
use Rattle.run_record.proofs.Growing.{take_more_lines, takes_more, last_more, last_stamp}
use Rattle.run_record.proofs.read.read_takes.Goals as goal

pub returns-in_err-entry-clause-err : goal.returns-in_err-entry-clause-err
returns-in_err-entry-clause-err c = λ node.
    let p = err_from_is_err_and c.from_residual.result c.from_residual.ensures.1 in
    handed_on c.from_residual.result (IsFault (Take c.args.version c.args.nodes node 0) c.args.lines.now) p.0 _ p.1 p.2
    ((c.loop-takes.invariant.read_so_far node).faults _ (c.in_err-entry.ensures.err node))

pub loop-takes-smaller : goal.loop-takes-smaller
loop-takes-smaller c =
    read_shorter (Take c.args.version c.args.nodes 0 c.loop-takes.last) (Take c.args.version c.args.nodes 0 c.in-Some.entry.stamp) c.loop-takes.lines c.read_take.new.lines (take_line (told_of c.args.version c.loop-takes.last c.in-Some.entry)) (omega arith)
    (rw c.in-Some.is at (c.in_ok-entry.ensures.ok 0))

pub loop-takes-preserved : goal.loop-takes-preserved
loop-takes-preserved c =
    let one = rw c.in-Some.is at c.in_ok-entry.ensures.take in
    let behind : IsTakeBehind c.args.nodes (last_stamp 0 c.loop-takes.takes.items) c.in-Some.entry = subst (λ n. IsTakeBehind c.args.nodes n c.in-Some.entry) c.loop-takes.invariant.last one in
    record {
      read_so_far = λ node. read_on (Take c.args.version c.args.nodes node 0) (Take c.args.version c.args.nodes node c.loop-takes.last) (Take c.args.version c.args.nodes node c.in-Some.entry.stamp) c.args.lines.now c.loop-takes.lines c.read_take.new.lines (take_lines c.args.version 0 c.loop-takes.takes.items) (take_line (told_of c.args.version c.loop-takes.last c.in-Some.entry)) (take_lines c.args.version 0 c.push.new.self.items)
          (ap (λ n. take_lines c.args.version 0 c.loop-takes.takes.items ++ take_line (told_of c.args.version n c.in-Some.entry)) c.loop-takes.invariant.last
          ∙ take_more_lines c.args.version 0 c.loop-takes.takes.items c.in-Some.entry ∙ ap (take_lines c.args.version 0) (sym c.in_ok-push.ensures.items))
          (c.loop-takes.invariant.read_so_far node) (rw c.in-Some.is at (c.in_ok-entry.ensures.ok node));
      behind = subst (AreTakesBehind c.args.nodes 0) (sym c.in_ok-push.ensures.items) (takes_more c.args.nodes 0 c.loop-takes.takes.items c.in-Some.entry c.loop-takes.invariant.behind behind);
      last = sym (ap (last_stamp 0) c.in_ok-push.ensures.items ∙ last_more 0 c.loop-takes.takes.items c.in-Some.entry);
      low = one.low;
    }

pub returns-clause-ok : goal.returns-clause-ok
returns-clause-ok c = λ node.
    read_on (Take c.args.version c.args.nodes node 0) (Take c.args.version c.args.nodes node c.loop-takes.last) (node_awaited c.args.version c.args.nodes (node + 1)) c.args.lines.now c.loop-takes.lines c.read_take.new.lines (take_lines c.args.version 0 c.loop-takes.takes.items) (codes "end\n") (take_lines c.args.version 0 c.loop-takes.takes.items ++ codes "end\n")
    refl (c.loop-takes.invariant.read_so_far node) (rw c.in_default.is at (c.in_ok-entry.ensures.ok node))
